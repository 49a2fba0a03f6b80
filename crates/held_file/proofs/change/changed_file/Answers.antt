-- A file that does not read gives what reading refuses; one that does is changed as its plan says.
use Rattle.std.proofs.Common.{ℕ, List, Ok, Err, subst}
use Rattle.plan_file.specs.Reading.{IsReading}
use Rattle.held_file.specs.Change.{change_in}
use Rattle.held_file.specs.Laws.Read.{few_records, stopped_unread, change_read}
use Rattle.held_file.proofs.change.changed_file.Goals as goal

pub change_plan-requires : goal.change_plan-requires
change_plan-requires c = few_records _ _ c.in_ok-reading.ensures

pub returns-in_err-reading : goal.returns-in_err-reading
returns-in_err-reading c =
    let i = subst (λ (b : List ℕ). IsReading b (Err c.in_err-reading.field-0.0)) c.held_length.ensures.1 c.in_err-reading.ensures in
    stopped_unread _ (change_in c.args.c) _ _ i c.from_residual.ensures.1

pub returns : goal.returns
returns c =
    let i = subst (λ (b : List ℕ). IsReading b (Ok c.in_ok-reading.reading)) c.held_length.ensures.1 c.in_ok-reading.ensures in
    change_read _ (change_in c.args.c) _ _ i c.change_plan.ensures
