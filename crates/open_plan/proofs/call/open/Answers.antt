-- A file that is refused opens nothing; one that is not is held, and no mark is set.
use Rattle.std.proofs.Common.{sym, ap, ◌∙◌}
use Rattle.open_plan.specs.State.{fresh_state}
use Rattle.held_file.specs.Laws.Held.{file_short}
use Rattle.open_plan.specs.Laws.Call.{open_accepted, open_refused}
use Rattle.open_plan.proofs.call.open.Goals as goal

pub hold-requires : goal.hold-requires
hold-requires c = file_short _ (sym c.in-Ok.ensures)

pub returns-in-Ok : goal.returns-in-Ok
returns-in-Ok c =
    open_accepted _ _ _ (sym c.in-Ok.ensures) (c.fresh.ensures ∙ ap fresh_state c.hold.ensures) c.accepted.ensures

pub returns-in-Err : goal.returns-in-Err
returns-in-Err c =
    open_refused _ _ _ _ (sym c.in-Err.ensures) (c.fresh-in-Err.ensures ∙ ap fresh_state c.no_file.ensures) c.refused.ensures
