-- Going on after the first m trees is one search of m + n, whatever is held before the first tree, so long as every tree costs less. Some
-- number is above the costs of all trees. Whatever tree is held, what is held after a turn is a tree and its cost.
use Rattle.std.specs.Prelude.{◌≡◌, refl, Bool, cond, length, take, leb, ltb}
use Rattle.std.proofs.Math.Path.{sym, ap, subst⁻¹}
use Rattle.std.proofs.Common.{ap₂, ◌∙◌, inl, inr}
use Rattle.std.proofs.Math.Bool.{true, false}
use mathlib.Core.List.Memᴰ
use mathlib.Core.List.{List, [], ◌∷◌, map, Memᴰ}
use Prim.Native.Nat.{ℕ, suc, ◌+◌, ◌-◌, ◌≤◌, ◌<◌, min}
use Rattle.std.proofs.Math.Decide.{dec_le, ℕ_discrete}
use native.Mathlib.Omega.{arith}
use borrow.Author.Tests.{le-leb, lt-leb, eq-eqb, ne_eqb}
use Rattle.std.proofs.Math.Dec.{eqb}
use Rattle.postman.specs.Lists.{argmin, minimum}
use Rattle.postman.specs.Plan.{Plan}
use Rattle.postman.specs.Link.{Link}
use Rattle.postman.specs.Component.{component_count}
use Rattle.postman.specs.Arborescence.{IsArborescence, arborescences, arborescence_count}
use Rattle.postman.specs.Balancing.{completion_cost}
use Rattle.postman.specs.PlanCall.{tried_count, is_whole, best_cost, best_arborescence}
use Rattle.postman_laws.specs.Laws.Arborescence.{arborescences_mem}
use Rattle.postman.specs.Steps.{Plannable}
use Rattle.postman_laws.specs.Laws.Optimality.{some_arborescence}
use Rattle.postman_laws.specs.Laws.Search.{best_value}
use Rattle.small_counts.specs.Matrix.{cap}
use Rattle.branches.specs.Progress.{Held, held, pass_over, try_tree, advance}
use Rattle.branches.specs.Laws.Progress.{tried_first, goes_on}
use Rattle.tree_search.specs.declared.trees.Reached.{Reached}
use Rattle.tree_search.specs.Resumed.{tried_on, links_by, IsReachedBy}
use Rattle.tree_search.specs.Laws.BestTree.{best_tree}

some_bound : (f : List Link → ℕ) (ts : List (List Link)) → (b : ℕ) × ((t : List Link) → Memᴰ t ts → f t < b)
some_bound f [] = (0, λ t m. elim m [ ])
some_bound f (t ∷ ts) =
    let r = some_bound f ts in (
      suc (f t + r.0),
      λ u m. elim (Memᴰ.cases_cons m) [
        | inl e ↦ (let x = ap f e in omega arith)
        | inr k ↦ (let x = r.1 u k in omega arith)
      ],
    )

-- the best of so many trees is the best of those that are tried
tried_again : (p : Plan) (n : ℕ) → tried_count p (tried_count p n) ≡ tried_count p n
unfolding tried_count
tried_again p n = omega arith

pub tried_cost : (p : Plan) (n : ℕ) → best_cost p (tried_count p n) ≡ best_cost p n
unfolding best_cost
tried_cost p n = ap (λ m. minimum (map (completion_cost p) (take m (arborescences p)))) (tried_again p n)

pub tried_tree : (p : Plan) (n : ℕ) → best_arborescence p (tried_count p n) ≡ best_arborescence p n
unfolding best_arborescence
tried_tree p n = ap (λ m. argmin (completion_cost p) [] (take m (arborescences p))) (tried_again p n)

-- ---- T, and whole, from a count that is cut

module _ (p : Plan) (budget n : ℕ) (small : budget < cap) (count : n ≡ min (arborescence_count p) cap) where
  pub total_is : (t : ℕ) → t ≡ min budget n → t ≡ tried_count p budget
  unfolding tried_count
  total_is t e = omega arith

  pub whole_is : leb n budget ≡ is_whole p budget
  unfolding is_whole
  whole_is = elim (dec_le (arborescence_count p) budget) [
    | yes l ↦ le-leb n budget (omega arith) ∙ sym (le-leb (arborescence_count p) budget l)
    | no l ↦ lt-leb n budget (omega arith) ∙ sym (lt-leb (arborescence_count p) budget (omega arith))
  ]

pub tried_within : (p : Plan) (budget : ℕ) → tried_count p budget ≤ budget
unfolding tried_count
tried_within p budget = omega arith

pub tried_grows : (p : Plan) (m n : ℕ) → m ≤ n → tried_count p m ≤ tried_count p n
unfolding tried_count
tried_grows p m n l = omega arith

some_of : (m : ℕ) → (m ≡ 0 → ⊥) → 1 ≤ m
some_of m o = omega (arith, o)

module _ (p : Plan) (ok : Plannable p) where
  abbrev f : List Link → ℕ
  f = completion_cost p

  abbrev ts : List (List Link)
  ts = arborescences p

  abbrev best : ℕ → List Link
  best n = argmin f [] (take n ts)

  best_of : (n : ℕ) → n ≤ arborescence_count p → best n ≡ best_arborescence p n
  unfolding best_arborescence tried_count arborescence_count
  best_of n l = ap best (let e : n ≡ min n (length ts) = omega arith in e)

  went_on : (m n : ℕ) → 1 ≤ m → m ≤ arborescence_count p
      → advance f (held (f (best m)) (best m) m n) ts ≡ held (f (best (m + n))) (best (m + n)) 0 (m + n - length ts)
  unfolding arborescence_count
  went_on m n one few =
      let b = some_bound f ts in
      let some = some_arborescence p ok in
      ap (λ (h : Held). advance f (held h.cost h.links m n) ts) (sym (tried_first f b.0 [] m ts one some b.1))
      ∙ goes_on f b.0 [] m n ts few ∙ tried_first f b.0 [] (m + n) ts (omega arith) some b.1

  -- ---- what is held after a turn

  -- its two cases
  pub first_on : (c : ℕ) (l : List Link) (m n : ℕ) → m ≡ 0 → tried_on p c l m n ≡ held (best_cost p n) (best_arborescence p n) 0 0
  unfolding tried_on
  first_on c l m n e = let t : eqb m 0 ≡ true = eq-eqb m 0 e in rw t

  pub later_on : (c : ℕ) (l : List Link) (m n : ℕ) → 1 ≤ m → tried_on p c l m n ≡ advance f (held c l m n) ts
  unfolding tried_on
  later_on c l m n o = let t : eqb m 0 ≡ false = ne_eqb m 0 (λ e. (let a = e in absurd (omega arith))) in rw t

  -- THE BEST OF THE TREES TRIED, if the best of those before was held
  pub best_after : (g : Reached) (n : ℕ) → 1 ≤ g.tried + n → g.tried + n ≤ arborescence_count p → IsReachedBy p g
      → ((tried_on p g.cost (links_by p g) g.tried n).cost ≡ best_cost p (g.tried + n))
      × ((tried_on p g.cost (links_by p g) g.tried n).links ≡ best_arborescence p (g.tried + n))
  best_after g n one few r = elim (ℕ_discrete g.tried 0) [
    | yes e ↦ (let x = first_on g.cost (links_by p g) g.tried n e in
        let k : n ≡ g.tried + n = omega arith in
        (ap (λ (h : Held). h.cost) x ∙ ap (best_cost p) k, ap (λ (h : Held). h.links) x ∙ ap (best_arborescence p) k))
    | no o ↦ (let some = some_arborescence p ok in
        let m : 1 ≤ g.tried = some_of g.tried o in
        let cost : g.cost ≡ f (best g.tried) =
        r.cost_is m ∙ sym (best_value p g.tried m some) ∙ sym (ap f (best_of g.tried r.within)) in
        let links : links_by p g ≡ best g.tried = r.links_are m ∙ sym (best_of g.tried r.within) in
        let e = later_on g.cost (links_by p g) g.tried n m
        ∙ ap₂ (λ (x : ℕ) (l : List Link). advance f (held x l g.tried n) ts) cost links ∙ went_on g.tried n m r.within in
        let l = best_of (g.tried + n) few in
        (ap (λ (x : Held). x.cost) e ∙ ap f l ∙ best_value p (g.tried + n) one some, ap (λ (x : Held). x.links) e ∙ l))
  ]

  -- ---- what is held is a tree and its cost, if it was one before or no tree was tried

  abbrev pub HoldsCost : Held → Type 0
  HoldsCost h = IsArborescence p h.links × (h.cost ≡ f h.links)

  tried_priced : (h : Held) (t : List Link) → IsArborescence p t → HoldsCost h → HoldsCost (try_tree f h t)
  unfolding try_tree
  tried_priced h t a i = at (ltb 0 h.skip) (ltb 0 h.left) (ltb (f t) h.cost)
    where
      at : (x y z : Bool) → HoldsCost (cond x (pass_over h 1) (cond y (pass_over (cond z (held (f t) t h.skip h.left) h) 1) h))
      at true y z = i
      at false true true = (a, refl)
      at false true false = i
      at false false z = i

  advance_priced : (h : Held) (us : List (List Link)) → ((t : List Link) → Memᴰ t us → IsArborescence p t) → HoldsCost h
      → HoldsCost (advance f h us)
  unfolding advance
  advance_priced h [] a i = i
  advance_priced h (t ∷ us) a i =
      advance_priced (try_tree f h t) us (λ u m. a u (Memᴰ.tail m)) (tried_priced h t (a t (Memᴰ.head refl)) i)

  pub on_priced : component_count p ≤ 8 → (c : ℕ) (l : List Link) (m n : ℕ) → 1 ≤ m + n → (1 ≤ m → HoldsCost (held c l m n))
      → HoldsCost (tried_on p c l m n)
  on_priced few c l m n one i = elim (ℕ_discrete m 0) [
    | yes e ↦ subst⁻¹ HoldsCost (first_on c l m n e)
        (best_tree p ok few n (omega arith), sym (best_value p n (omega arith) (some_arborescence p ok)))
    | no o ↦ subst⁻¹ HoldsCost (later_on c l m n (some_of m o))
        (advance_priced (held c l m n) ts (λ t x. arborescences_mem p x) (i (some_of m o)))
  ]

  -- ---- the trees that are tried

  pub some_tried : (budget : ℕ) → 1 ≤ budget → 1 ≤ tried_count p budget
  unfolding tried_count
  some_tried budget one = let s = some_arborescence p ok in omega arith

  pub tried_few : (budget : ℕ) → tried_count p budget ≤ arborescence_count p
  unfolding tried_count
  tried_few budget = omega arith
