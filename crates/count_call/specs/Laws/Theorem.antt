-- THE THEOREM. "For any accepted budget, […] the plan call's whole is yes exactly when that number is known and no larger than the budget."
-- Over the two calls' contracts: r is any answer of the plan call on these bytes that is no refusal, c the count's answer on them.
use Rattle.std.specs.Prelude.{◌≡◌, ◌↔◌, Bool, List, ℕ, ◌≤◌, length, Result}
use Rattle.std.proofs.Common.{sym, ◌∙◌}
use Rattle.std.proofs.Math.Path.{ap}
use Rattle.std.proofs.Math.Bool.{true, false}
use Rattle.std.proofs.Math.Option.{Option, none}
use borrow.Author.Tests.{le-leb, leb-true}
use Rattle.postman.specs.Refusal.{Answer, refused, given, answer}
use Rattle.postman.specs.PlanFile.{plan_of}
use Rattle.postman.specs.PlanCall.{Summary, summary, fields, call_refusal}
use Rattle.postman.specs.TreeCount.{TreeCount, known, above, tree_count, is_known_within, count_call}
use Rattle.postman.specs.Laws.Tests.{of_true}
use Rattle.postman_laws.specs.Laws.Acceptance.{call_accepted}
use Rattle.postman_laws.specs.Laws.TreeCount.{whole_known}
use Rattle.refusal.specs.Verdict.{verdict_number}
use Rattle.refusal.specs.declared.Refusal.{Refusal}
use Rattle.solution.specs.declared.Planned.{Planned}
use Rattle.planner.specs.Contract.{IsPlanCall}
use Rattle.solution.specs.Planned.{multipliers_of, summary_of}
use Rattle.count_call.specs.declared.Count.{Count}
use Rattle.count_call.specs.Contract.{count_answer}
use Rattle.count_call.specs.Laws.Call.{not_refused}

module _ (bytes : List ℕ) (budget : ℕ) (old new : List ℕ) (r : Result Planned Refusal) (c : Result Count Refusal)
    (planned : IsPlanCall bytes budget old new r)
    (counted : count_answer c ≡ count_call bytes)
    (accepted : verdict_number r ≡ none) where
  within : Answer TreeCount → Bool
  unfolding is_known_within
  within (given t) = is_known_within t budget
  within (refused k) = false

  not_refused_call : call_refusal bytes budget (length old) ≡ none
  not_refused_call = sym planned.planned.verdict ∙ accepted

  whole_is : (summary_of r).whole ≡ is_known_within (tree_count (plan_of bytes)) budget
  unfolding answer fields summary
  whole_is =
      ap (λ (s : Summary). s.whole)
      (planned.planned.summary_is
      ∙ ap (λ (o : Option ℕ). fields (answer o (summary (plan_of bytes) budget (multipliers_of r)))) not_refused_call)
      ∙ whole_known (plan_of bytes) budget (call_accepted bytes budget (length old) not_refused_call).earlier.budget

  count_is : count_answer c ≡ given (tree_count (plan_of bytes))
  unfolding count_call answer
  count_is = counted ∙ ap (λ (o : Option ℕ). answer o (tree_count (plan_of bytes))) (not_refused bytes budget (length old) not_refused_call)

  pub whole_told : ((summary_of r).whole ≡ true) ↔ ((n : ℕ) × (count_answer c ≡ given (known n)) × (n ≤ budget))
  unfolding is_known_within within
  whole_told = (
    λ e. from (tree_count (plan_of bytes)) count_is (sym whole_is ∙ e),
    λ h. whole_is ∙ ap within (sym count_is ∙ h.1)
        ∙ le-leb h.0 budget h.2,
  )
    where
      from : (t : TreeCount) → count_answer c ≡ given t → is_known_within t budget ≡ true
          → (n : ℕ) × (count_answer c ≡ given (known n)) × (n ≤ budget)
      from (known n) e w = (n, e, leb-true n budget w)
      from above e w = absurd (of_true w)
