-- The table is that of the definition, so it holds the distances, and the network's refusal is the plan's.
use Rattle.multipliers.specs.Laws.Drive.{is_table}
use Rattle.call_steps.specs.Laws.Call.{measured_refusal}
use Rattle.district_turn.proofs.plan_turn.turn_tabled.Goals as goal

pub network_of-net-requires : goal.network_of-net-requires
network_of-net-requires c = is_table _ _ c.args.t.now.has_table

pub returns : goal.returns
returns c =
    let n = c.network_of-net in
    let t = c.turn_measured.ensures in
    rw (measured_refusal _ n.result n.ensures) at t
