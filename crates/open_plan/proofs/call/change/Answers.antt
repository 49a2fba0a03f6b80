-- The open plan has the changed file, or is as it was.
use Rattle.std.proofs.Common.{sym, ap, ◌∙◌}
use Rattle.open_plan.specs.State.{with_plan}
use Rattle.open_plan.specs.Laws.Call.{moved_on, moved_not, answer_of, change_file}
use Rattle.open_plan.proofs.call.change.Goals as goal

pub returns-in-Ok : goal.returns-in-Ok
returns-in-Ok c =
    let h = c.in-Ok.ensures in
    moved_on _ _ _ (sym h.verdict) (answer_of _ _ _ _ (c.with_plan.ensures ∙ ap (with_plan c.args.state) (change_file c.args.state _ _ h)) c.accepted.ensures)

pub returns-in-Err : goal.returns-in-Err
returns-in-Err c = moved_not _ _ _ _ (sym c.in-Err.ensures.verdict) c.refused.ensures
