-- The costs of the least weights are the distances.
use Rattle.shortest.specs.Laws.Weight.{table_costs}
use Rattle.shortest.proofs.distance.table.Goals as goal

pub returns : goal.returns
returns c = table_costs _ c.args.good.now.well_formed c.table.result c.table_of.result c.table.ensures c.table_of.ensures
