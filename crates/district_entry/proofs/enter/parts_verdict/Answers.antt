-- The table holds the distances, and the network's refusal is the plan's.
use mathlib.Core.Path.{◌∙◌}
use Rattle.shortest.specs.Laws.Weight.{table_costs}
use Rattle.call_steps.specs.Laws.Call.{measured_refusal}
use Rattle.district_entry.proofs.enter.parts_verdict.Goals as goal

pub network_of-net-requires : goal.network_of-net-requires
network_of-net-requires c =
    let t = c.table_of-table in
    let w = c.table-weights in
    table_costs _ c.args.good.now.well_formed w.result t.result w.ensures t.ensures

pub returns : goal.returns
returns c = let n = c.network_of-net in c.network_verdict.ensures ∙ measured_refusal _ n.result n.ensures
