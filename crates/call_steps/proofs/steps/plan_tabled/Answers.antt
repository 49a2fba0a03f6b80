-- The table is that of the definition, so it holds the distances, and the network's refusal is the plan's.
use mathlib.Core.Path.{refl}
use Rattle.multipliers.specs.Laws.Drive.{is_table}
use Rattle.call_steps.specs.Laws.Call.{measured_refusal, planned_as}
use Rattle.call_steps.proofs.steps.plan_tabled.Goals as goal

pub network_of-net-requires : goal.network_of-net-requires
network_of-net-requires c = is_table _ _ c.args.t.now.has_table

pub returns : goal.returns
returns c =
    let n = c.network_of-net in
    planned_as _ _ _ _ _ _ _ _ refl (measured_refusal _ n.result n.ensures) c.plan_measured.ensures
