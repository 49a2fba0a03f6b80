-- For other languages, proved.
use Rattle.std.specs.Prelude.{refl}
use Rattle.std.proofs.Common.{sym, ap, ◌∙◌, arith}
use Rattle.postman.specs.Refusal.{Answer}
use Rattle.postman.specs.TreeCount.{TreeCount}
use Rattle.answers.specs.Number.{one_number}
use Rattle.answers.specs.Count.{count_of}
use Rattle.file_exports.specs.Codec.{lent_plan}
use Rattle.promises.specs.Exports.{ReadRefused, ReadGiven, WriteRefused, WriteGiven, PlanCallHandsOver, DepartureHandsOver, DeepCallHandsOver, NoWindows, RaisedBudget, RaisedBudgetAt, CarsHandOver, CountHandsOver, PageHandsOver, JudgeHandsOver, WrittenPasses, WrittenPassesAt}
use Rattle.promises.specs.Laws.WindowsTheorem.{no_windows_lent}
use Rattle.promises.specs.Laws.BudgetTheorem.{raised_budget_lent, raised_budget_at_lent}
use Rattle.promises.specs.Laws.CarsTheorem.{first_answered, second_answered}
use Rattle.promises.specs.Laws.JudgedTheorem.{lent_passes_call, lent_passes_at}
use Rattle.promises.specs.Laws.File.{write_refused, write_given}
use Rattle.promises.specs.Laws.Codec.{lent_read_refused, lent_read_given}

pub read_refused : ReadRefused
read_refused file lent r k e = let x = lent_read_refused file lent k e in (r.number_is ∙ x.0, r.after_is ∙ x.1)

pub read_given : ReadGiven
read_given file lent r e = let x = lent_read_given file lent e in (r.number_is ∙ x.0, r.after_is ∙ x.1)

pub writing_refused : WriteRefused
writing_refused e n lent bytes w k h = let x = write_refused e (lent_plan n lent) bytes k h in
    (w.number_is ∙ ap one_number x.0, w.after_is ∙ x.1)

pub writing_given : WriteGiven
unfolding lent_plan
writing_given e n lent bytes w h = let x = write_given e (lent_plan n lent) bytes h in
    (w.number_is ∙ ap one_number x.0, w.after_is ∙ x.1)

pub plan_call : PlanCallHandsOver
plan_call bytes budget old l = let x = l.contract in
    (record { after = l.after.sheet; answer = x.answer; contract = x.called }, refl, x.handed_over)

pub departure : DepartureHandsOver
departure bytes budget windows d old l = let x = l.contract in
    (record { after = l.after.sheet; answer = x.answer; contract = x.called }, refl, x.handed_over)

pub deep_call : DeepCallHandsOver
deep_call bytes budget rounds old l = let x = l.contract in
    (record { after = l.after.sheet; answer = x.answer; contract = x.called }, refl, x.handed_over)

pub no_windows : NoWindows
no_windows bytes budget d old old' x y good s = no_windows_lent bytes budget d good old _ old' _ _ _ s x.contract y.contract

pub raised_budget : RaisedBudget
raised_budget bytes b b' old old' x y more z z' room room' =
    raised_budget_lent bytes b b' more old _ old' _ _ _ z z' room room' x.contract y.contract

pub raised_budget_at : RaisedBudgetAt
raised_budget_at bytes b b' windows d old old' x y more z z' room room' =
    raised_budget_at_lent bytes b b' more old _ old' _ _ _ z z' room room' windows d x.contract y.contract

pub cars : CarsHandOver
cars bytes a b n x = let f = first_answered bytes a b n x in let s = second_answered bytes a b n x in
    ((f.answer, f.called, f.handed_over), (s.answer, s.called, s.handed_over))

pub count : CountHandsOver
count bytes l c = l.number_is ∙ ap (λ (a : Answer TreeCount). one_number (count_of a)) (sym c.answer_is)

pub page : PageHandsOver
page bytes pairs distances l c = (l.number_is ∙ ap one_number (sym c.answer_is), l.after_is ∙ sym c.after_is)

pub judge : JudgeHandsOver
judge bytes w l j = l.number_is ∙ ap one_number (sym j.contract.answer_is)

pub passes : WrittenPasses
passes bytes budget old l zero room j =
    lent_passes_call bytes budget _ _ _ _ _ _ _ (omega arith) zero l.contract j.number j.number_is

pub passes_at : WrittenPassesAt
passes_at bytes budget windows d old l zero room j =
    lent_passes_at bytes budget _ _ _ _ _ _ _ (omega arith) zero windows d l.contract j.number j.number_is
