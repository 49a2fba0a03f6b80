-- What the search finds, from less than any tree costs that is skipped: the best of all trees that were tried or skipped, if it costs less;
-- else what it began with.
use Rattle.std.specs.Prelude.{◌≡◌, refl, length, take}
use Rattle.std.proofs.Math.Path.{ap, subst, subst⁻¹}
use Rattle.std.proofs.Common.{◌∙◌}
use Rattle.std.proofs.Math.Logic.{inl, inr}
use mathlib.Core.List.{List, [], Memᴰ}
use Prim.Native.Nat.{ℕ, ◌+◌, ◌≤◌, ◌<◌, min}
use Rattle.std.proofs.Math.Decide.{ℕ_discrete, dec_lt}
use native.Mathlib.Omega.{arith}
use Rattle.postman.specs.Lists.{argmin}
use Rattle.postman.specs.Plan.{Plan}
use Rattle.postman.specs.Link.{Link}
use Rattle.postman.specs.Component.{component_count}
use Rattle.postman.specs.Arborescence.{arborescences, arborescence_count}
use Rattle.postman.specs.Balancing.{completion_cost}
use Rattle.postman.specs.PlanCall.{tried_count, best_cost, best_arborescence}
use Rattle.postman_laws.specs.Laws.Arborescence.{arborescences_mem}
use Rattle.postman.specs.Steps.{Plannable}
use Rattle.postman_laws.specs.Laws.Optimality.{some_arborescence}
use Rattle.postman_laws.specs.Laws.Search.{best_value}
use Rattle.branches.specs.Progress.{Held, held, advance}
use Rattle.branches.specs.Laws.Progress.{tried_first, passed_over, goes_on}
use Rattle.small_counts.specs.Matrix.{cap}
use Rattle.tree_search.specs.declared.improve.Searched.{Searched}
use Rattle.tree_search.specs.Laws.BestTree.{tree_small, cost_small}
use Rattle.tree_search.specs.Laws.Resumed.{tried_cost, tried_tree, some_tried, tried_few}
use Rattle.tree_search.specs.Improved.{above_costs, CanImprove, IsImproved, IsSearched}
use Rattle.tree_search.specs.Laws.Compared.{Agree, lower, agree}

some_before : (p : Plan) (before m : ℕ) → 1 ≤ m → m ≡ tried_count p before → 1 ≤ before
unfolding tried_count
some_before p before m o e = omega arith

module _ (p : Plan) (ok : Plannable p) (few : component_count p ≤ 8) where
  abbrev f : List Link → ℕ
  f = completion_cost p

  abbrev ts : List (List Link)
  ts = arborescences p

  -- the first n trees, from more than any tree costs
  abbrev tried : ℕ → Held
  tried n = advance f (held above_costs [] 0 n) ts

  each_below : (t : List Link) → Memᴰ t ts → f t < above_costs
  each_below t m = let a = tree_small p ok few t (arborescences_mem p m) in omega arith

  best_of : (n : ℕ) → n ≤ arborescence_count p → argmin f [] (take n ts) ≡ best_arborescence p n
  unfolding best_arborescence tried_count arborescence_count
  best_of n l = ap (λ m. argmin f [] (take m ts)) (let e : n ≡ min n (length ts) = omega arith in e)

  tried_is : (n : ℕ) → 1 ≤ n → n ≤ arborescence_count p
      → ((tried n).cost ≡ best_cost p n) × ((tried n).links ≡ best_arborescence p n)
  unfolding arborescences arborescence_count
  tried_is n one l =
      let e = tried_first f above_costs [] n ts one (some_arborescence p ok) each_below in
      let b = best_of n l in
      (ap (λ (h : Held). h.cost) e ∙ ap f b ∙ best_value p n one (some_arborescence p ok), ap (λ (h : Held). h.links) e ∙ b)

  none_tried : (tried 0).cost ≡ above_costs
  none_tried = ap (λ (h : Held). h.cost) (passed_over f (held above_costs [] 0 0) ts (inr (inr refl)))

  begins_below : (c m : ℕ) → c ≤ above_costs → m ≤ arborescence_count p → (1 ≤ m → c ≤ best_cost p m) → c ≤ (tried m).cost
  begins_below c m low l least = elim (ℕ_discrete m 0) [
    | yes e ↦ subst⁻¹ (λ n. c ≤ (tried n).cost) e (let a = none_tried in omega arith)
    | no o ↦ (let one : 1 ≤ m = omega (arith, o) in let a = (tried_is m one l).0 in let b = least one in omega arith)
  ]

  abbrev Finds : ℕ → ℕ → Held → Type 0
  Finds c n h = (best_cost p n < c → (h.cost ≡ best_cost p n) × (h.links ≡ best_arborescence p n)) × (c ≤ best_cost p n → h.cost ≡ c)

  -- n trees after the first m
  pub finds : (c : ℕ) (l : List Link) (m n : ℕ) → c ≤ above_costs → m + n ≤ arborescence_count p → 1 ≤ m + n → (1 ≤ m → c ≤ best_cost p m)
      → Finds c (m + n) (advance f (held c l m n) ts)
  unfolding arborescence_count
  finds c l m n low fit one least =
      let h = tried m in
      let all = tried_is (m + n) one fit in
      let a : Agree c (advance f (held c l m n) ts) (tried (m + n)) =
      subst (Agree c (advance f (held c l m n) ts)) (goes_on f above_costs [] m n ts (omega arith))
      (agree f c h.cost l h.links m n ts (begins_below c m low (omega arith) least)) in
      elim a [
        | inl same ↦
            let e = same.0 ∙ all.0 in
            let b = lower f (held c l m n) ts in
            ((λ x. (e, same.1 ∙ all.1)), λ x. omega arith)
        | inr none ↦ ((λ x. (let b = none.1 in let d = all.0 in absurd (omega arith))), λ x. none.0)
      ]

  -- by how many trees there are
  pub improves : (c before tries : ℕ) → CanImprove p c before tries → (l : List Link) (m n : ℕ) → m ≡ tried_count p before
      → m + n ≡ tried_count p tries → (h : Held) → h ≡ advance f (held c l m n) ts → Finds c tries h
  improves c before tries can l m n em en h e =
      let one = some_tried p ok tries can.some_tries in
      let fit = tried_few p ok tries in
      let cost = ap (best_cost p) en ∙ tried_cost p tries in
      let tree = ap (best_arborescence p) en ∙ tried_tree p tries in
      let first = ap (best_cost p) em ∙ tried_cost p before in
      let g = finds c l m n can.low (omega arith) (omega arith)
      (λ o. let a = can.none_before (some_before p before m o em) in omega arith) in
      subst⁻¹ (Finds c tries) e
      ((λ x. let b = g.0 (omega arith) in (b.0 ∙ cost, b.1 ∙ tree)), λ x. g.1 (omega arith))

  -- ---- where no tree was tried

  pub best_below : (tries : ℕ) → 1 ≤ tries → best_cost p tries < above_costs
  best_below tries one = let a = cost_small p ok few tries one in omega arith

  pub can_begin : (tries : ℕ) → 1 ≤ tries → tries < cap → CanImprove p above_costs 0 tries
  can_begin tries one low =
      let a = best_below tries one in
      record {
        some_tries = one;
        few_tries = low;
        within = omega arith;
        low = omega arith;
        none_before = λ o. absurd (omega arith);
        whole_least = λ w. omega arith;
      }

  pub first_searched : (tries : ℕ) → 1 ≤ tries → (s : Searched) → IsImproved p above_costs tries s → IsSearched p tries s
  first_searched tries one s h = let b = h.cheaper (best_below tries one) in
      record { cost = b.0; tried = h.tried; whole = h.whole; links = b.1 }

-- what is found is no more than what was known
pub no_dearer : (p : Plan) (cost tries : ℕ) (s : Searched) → IsImproved p cost tries s → s.cost ≤ cost
no_dearer p cost tries s h = elim (dec_lt (best_cost p tries) cost) [
  | yes l ↦ (let a = (h.cheaper l).0 in omega arith)
  | no l ↦ (let a = h.none_cheaper (omega arith) in omega arith)
]
