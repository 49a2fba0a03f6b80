-- What the count answers, by its refusal and by the number of trees.
use Rattle.std.specs.Prelude.{◌≡◌, List, ℕ, ◌≤◌, ◌<◌}
use Rattle.std.proofs.Math.Path.{ap}
use Rattle.std.proofs.Common.{◌∙◌}
use Rattle.std.proofs.Math.Option.{Option, none, some}
use Rattle.postman.specs.Refusal.{refused, given, answer}
use Rattle.postman.specs.PlanFile.{plan_of}
use Rattle.postman.specs.Arborescence.{arborescence_count}
use Rattle.postman.specs.TreeCount.{known, above, tree_count, count_refusal, count_call}
use Rattle.postman_laws.specs.Laws.TreeCount.{counted_known, counted_above}

module _ (bytes : List ℕ) where
  pub count_refused : (k : ℕ) → count_refusal bytes ≡ some k → count_call bytes ≡ refused k
  unfolding count_call answer
  count_refused k e = ap (λ (o : Option ℕ). answer o (tree_count (plan_of bytes))) e

  pub count_given : count_refusal bytes ≡ none → count_call bytes ≡ given (tree_count (plan_of bytes))
  unfolding count_call answer
  count_given e = ap (λ (o : Option ℕ). answer o (tree_count (plan_of bytes))) e

  pub count_exact : count_refusal bytes ≡ none → arborescence_count (plan_of bytes) ≤ 4294967295
      → count_call bytes ≡ given (known (arborescence_count (plan_of bytes)))
  unfolding tree_count
  count_exact e l = count_given e ∙ ap given (counted_known (arborescence_count (plan_of bytes)) l)

  pub count_above : count_refusal bytes ≡ none → 4294967295 < arborescence_count (plan_of bytes) → count_call bytes ≡ given above
  unfolding tree_count
  count_above e l = count_given e ∙ ap given (counted_above (arborescence_count (plan_of bytes)) l)
