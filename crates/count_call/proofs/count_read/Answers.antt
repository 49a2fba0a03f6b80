-- The network's refusal is the plan's.
use Rattle.postman.specs.Refusal.{answer}
use Rattle.postman.specs.TreeCount.{tree_count}
use Rattle.call_steps.specs.Laws.Call.{measured_refusal}
use Rattle.plan.specs.Records.{plan_value}
use mathlib.Core.Option.{Option}
use mathlib.Core.Path.{ap, ◌∙◌}
use Prim.Native.Nat.{ℕ}
use Rattle.count_call.proofs.count_read.Goals as goal

pub returns : goal.returns
returns c =
    let n = c.network_of-net in
    c.count_measured.ensures _ c.args.good.now.well_formed n.ensures
    ∙ ap (λ (o : Option ℕ). answer o (tree_count (plan_value c.args.good.now.plan))) (measured_refusal _ n.result n.ensures)
