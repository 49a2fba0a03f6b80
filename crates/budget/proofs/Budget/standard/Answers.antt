-- Both constants are numerals.
use mathlib.Core.Path.{refl}
use lib.Dec.{lit≤}
use Rattle.postman.specs.PlanCall.{default_budget, highest_budget}
use Rattle.budget.proofs.Budget.standard.Goals as goal

pub returns : goal.returns
unfolding default_budget highest_budget
returns c = (refl, record { low = lit≤ tt; high = lit≤ tt })
