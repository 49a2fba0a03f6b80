-- No mark is set.
use Rattle.std.proofs.Common.{ap, replicate}
use Rattle.held_file.specs.declared.Held.{Held}
use Rattle.open_plan.specs.declared.OpenPlan.{OpenPlan}
use Rattle.open_plan.specs.State.{fresh_state}
use Rattle.open_plan.proofs.call.fresh.Goals as goal

pub returns : goal.returns
unfolding fresh_state
returns c = ap {B = OpenPlan} (λ (h : Held). record { plan = c.args.file; marks = replicate 4 h }) c.no_file.ensures
