-- The costs of the least weights are the distances.
use Rattle.shortest.specs.Laws.Weight.{row_costs}
use Rattle.shortest.proofs.distance.row.Goals as goal

pub returns : goal.returns
returns c = row_costs _ c.args.good.now.well_formed _ c.row.result c.row_of.result c.row.ensures c.row_of.ensures
