-- The network's refusal is the plan's.
use mathlib.Core.Path.{◌∙◌}
use Rattle.multipliers.specs.Laws.Drive.{is_table}
use Rattle.call_steps.specs.Laws.Call.{measured_refusal}
use Rattle.held_tree.proofs.verdict.plan_verdict.Goals as goal

pub network_of-net-requires : goal.network_of-net-requires
network_of-net-requires c = is_table _ _ c.args.m.now.has_table

pub returns : goal.returns
returns c = c.network_verdict.ensures ∙ measured_refusal _ c.network_of-net.result c.network_of-net.ensures
