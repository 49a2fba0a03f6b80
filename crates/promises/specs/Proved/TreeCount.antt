-- The number of trees, proved.
use Rattle.std.proofs.Common.{◌∙◌, ap}
use Rattle.postman.specs.Refusal.{given}
use Rattle.postman.specs.PlanFile.{plan_of}
use Rattle.postman_laws.specs.Laws.TreeCount.{one_component}
use Rattle.count_call.specs.Laws.Theorem.{whole_told}
use Rattle.promises.specs.TreeCount.{Refusals, Exact, Above, WholeTold, OnePart}
use Rattle.promises.specs.Laws.Counted.{count_refused, count_given, count_exact, count_above}

pub refusals : Refusals
refusals bytes c k e = c.answer_is ∙ count_refused bytes k e

pub exact : Exact
exact bytes c e l = c.answer_is ∙ count_exact bytes e l

pub above_exactly : Above
above_exactly bytes c e l = c.answer_is ∙ count_above bytes e l

pub whole_is_told : WholeTold
whole_is_told bytes budget sheet c d = whole_told bytes budget sheet d.after d.answer c.answer d.contract c.answer_is

pub one_part : OnePart
one_part bytes c e k = c.answer_is ∙ count_given bytes e ∙ ap given (one_component (plan_of bytes) k)
