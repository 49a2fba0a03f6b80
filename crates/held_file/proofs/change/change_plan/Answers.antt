-- 14, or what writing the changed plan answers.
use Rattle.std.proofs.Common.{sym, arith}
use Rattle.plan.specs.Records.{plan_value}
use Rattle.plan.specs.Laws.Records.{plan_length}
use Rattle.held_file.specs.Change.{change_in}
use Rattle.held_file.specs.Laws.Held.{refusal_held}
use Rattle.held_file.specs.Laws.Change.{foreign_arc, own_arc}
use Rattle.held_file.proofs.change.change_plan.Goals as goal

pub returns-then-from-c : goal.returns-then-from-c
returns-then-from-c c =
    let a = c.args in
    let m = plan_length a.plan in
    refusal_held _ _ _ (foreign_arc a.edition (plan_value a.plan) (change_in a.c) (omega arith))

pub returns : goal.returns
returns c =
    let a = c.args in
    let m = plan_length a.plan in
    let own = own_arc a.edition (plan_value a.plan) (change_in a.c) (omega arith) in
    rw (own, sym c.changed_plan.ensures) c.write_held.ensures
