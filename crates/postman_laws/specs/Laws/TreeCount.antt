-- The number of trees beside the plan call: every accepted budget is at most 4,294,967,295, so a number above that is above
-- the budget. And one component has one tree.
use Rattle.std.specs.Prelude.{◌≡◌, map, ℕ, ◌-◌, ◌≤◌, ◌<◌, length, eqb}
use Rattle.std.proofs.Common.{sym, ◌∙◌, arith, le-leb}
use Rattle.std.proofs.Math.Path.{ap}
use Rattle.std.proofs.Math.Bool.{cond}
use Rattle.std.proofs.Math.Decide.{dec_le}
use Rattle.std.proofs.lemmas.Bool.{lt-leb}
use Rattle.postman.specs.Lists.{select, all_of, below, up_from, choices, iterate}
use Rattle.postman.specs.Plan.{Plan}
use Rattle.postman.specs.Component.{component_count}
use Rattle.postman.specs.Arborescence.{parent, candidates, arrives, arborescences, arborescence_count}
use Rattle.postman.specs.PlanCall.{highest_budget, is_whole}
use Rattle.postman.specs.TreeCount.{known, above, counted, tree_count, is_known_within}

module _ (n : ℕ) where
  pub counted_known : n ≤ 4294967295 → counted n ≡ known n
  unfolding counted
  counted_known l = ap (λ b. cond b (known n) above) (le-leb n 4294967295 l)

  pub counted_above : 4294967295 < n → counted n ≡ above
  unfolding counted
  counted_above l = ap (λ b. cond b (known n) above) (lt-leb n 4294967295 l)

-- THE BUDGET: "the plan call's whole is yes exactly when that number is known and no larger than the budget"
pub whole_known : (p : Plan) (budget : ℕ) → budget ≤ highest_budget → is_whole p budget ≡ is_known_within (tree_count p) budget
unfolding is_whole tree_count is_known_within highest_budget
whole_known p budget l = elim (dec_le (arborescence_count p) 4294967295) [
  | yes h ↦ sym (ap (λ c. is_known_within c budget) (counted_known (arborescence_count p) h))
  | no h ↦ lt-leb (arborescence_count p) budget (omega arith)
      ∙ sym (ap (λ c. is_known_within c budget) (counted_above (arborescence_count p) (omega arith)))
]

-- "k = 1 gives 1"
pub one_component : (p : Plan) → component_count p ≡ 1 → tree_count p ≡ known 1
unfolding tree_count arborescence_count arborescences arrives select choices all_of below up_from iterate parent
one_component p e = ap counted one ∙ counted_known 1 (omega arith)
  where
    one : arborescence_count p ≡ 1
    one = ap (λ k. length
        (select (λ t. all_of (λ q. eqb (iterate k (parent p t) q) 0) (below k)) (choices (map (candidates p) (up_from 1 (k - 1)))))) e
