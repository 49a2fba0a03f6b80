-- Amounts and legs are two ways to say the same: amounts f(i,j) are f(i,j) legs from i to j each, and legs are counted into amounts. So the
-- least assignment is the least cost of all amounts that balance.
use Rattle.std.specs.Prelude.{◌≡◌, refl, length, replicate, ℤ, ◌-ℤ◌}
use Rattle.std.proofs.Math.Path.{sym, ap, ap₂, subst}
use Rattle.std.proofs.Common.{◌∙◌, suc-mul, mul_comm, mul_right_comm}
use mathlib.Core.List.{List, [], ◌∷◌, ◌++◌, Memᴰ}
use Prim.Native.Nat.{ℕ, zero, suc, ◌+◌, ◌*◌, ◌≤◌, ◌<◌}
use Rattle.std.proofs.Math.Nat.{zero-mul, mul-zero, add-mul, mul-one}
use Rattle.std.proofs.Math.Decide.{dec_le}
use native.Mathlib.Omega.{arith}
use Rattle.std.proofs.Math.IntN.{pos}
use Rattle.integers.specs.Linear.{minus_eq}
use Rattle.postman.specs.Lists.{delta, occurrences}
use Rattle.postman.specs.Balancing.{sum_over, IsBalancing, balancing_cost, assignment}
use Rattle.postman_laws.specs.Laws.Occurrences.{delta_yes, delta_sym, mem_of_occurrences, occurrences_of_mem}
use Rattle.postman_laws.specs.Laws.Sum.{sum_cong, sum_add, sum_zero, sum_delta, out_sum, in_sum, once}
use Rattle.postman_laws.specs.Laws.Assignment.{Legs, weight, legs_le, pairing}

-- units that arrive at ss and are lacking at ts, vertex by vertex
unfoldable pub difference : List ℕ → List ℕ → ℕ → ℤ
unfolding occurrences
difference ss ts i = pos (occurrences i ss) -ℤ pos (occurrences i ts)

row : ℕ → List ℕ → (ℕ → ℕ → ℕ) → Legs
row i [] f = []
row i (j ∷ ws) f = replicate (f i j) (i, j) ++ row i ws f

legs_of : List ℕ → List ℕ → (ℕ → ℕ → ℕ) → Legs
legs_of [] ws f = []
legs_of (i ∷ vs) ws f = row i ws f ++ legs_of vs ws f

weight_append : (w : ℕ → ℕ → ℕ) (ls ms : Legs) → weight w (ls ++ ms) ≡ weight w ls + weight w ms
unfolding weight
weight_append w [] ms = omega arith
weight_append w (l ∷ ls) ms = let h = weight_append w ls ms in omega arith

weight_replicate : (w : ℕ → ℕ → ℕ) (k i j : ℕ) → weight w (replicate k (i, j)) ≡ k * w i j
unfolding weight
weight_replicate w zero i j = sym (zero-mul (w i j))
weight_replicate w (suc k) i j = let h = weight_replicate w k i j in let e = suc-mul k (w i j) in omega arith

weight_row : (w f : ℕ → ℕ → ℕ) (i : ℕ) (ws : List ℕ) → weight w (row i ws f) ≡ sum_over ws (λ j. f i j * w i j)
unfolding row weight sum_over
weight_row w f i [] = refl
weight_row w f i (j ∷ ws) =
    weight_append w (replicate (f i j) (i, j)) (row i ws f) ∙ ap₂ ◌+◌ (weight_replicate w (f i j) i j) (weight_row w f i ws)

weight_legs : (w f : ℕ → ℕ → ℕ) (vs ws : List ℕ) → weight w (legs_of vs ws f) ≡ sum_over vs (λ i. sum_over ws (λ j. f i j * w i j))
unfolding legs_of weight sum_over
weight_legs w f [] ws = refl
weight_legs w f (i ∷ vs) ws = weight_append w (row i ws f) (legs_of vs ws f) ∙ ap₂ ◌+◌ (weight_row w f i ws) (weight_legs w f vs ws)

-- vs has each vertex at most once, and those of us among them
pub record Within (vs us : List ℕ) : Type 0 where
  pub once : (i : ℕ) → occurrences i vs ≤ 1
  pub among : (i : ℕ) → Memᴰ i us → Memᴰ i vs

pub within_once : {vs us : List ℕ} → Within vs us → (i : ℕ) → Memᴰ i us → occurrences i vs ≡ 1
within_once h i m = once h.once (h.among i m)

within_none : {vs us : List ℕ} → Within vs us → (i : ℕ) → occurrences i vs ≤ 0 → occurrences i us ≡ 0
within_none {us = us} h i z = elim (dec_le 1 (occurrences i us)) [
  | yes g ↦ let m = occurrences_of_mem (h.among i (mem_of_occurrences i us g)) in absurd (omega arith)
  | no g ↦ omega arith
]

module _ (d : ℕ → ℕ → ℕ) (triangle : (i k j : ℕ) → d i j ≤ d i k + d k j) (self : (i : ℕ) → d i i ≡ 0) where
  -- every balancing costs at least the assignment
  pub assignment_le : (vs ss ts : List ℕ) (f : ℕ → ℕ → ℕ) → length ss ≡ length ts → Within vs ss → Within vs ts
      → IsBalancing vs (difference ss ts) f → assignment d ss ts ≤ balancing_cost vs d f
  unfolding IsBalancing difference balancing_cost
  assignment_le vs ss ts f l ws wt b =
      subst (λ x. assignment d ss ts ≤ x) (weight_legs d f vs vs) (legs_le d triangle self (legs_of vs vs f) ss ts l at)
    where
      at : (i : ℕ)
          → weight (λ a b. delta i b) (legs_of vs vs f) + occurrences i ss ≡ weight (λ a b. delta i a) (legs_of vs vs f) + occurrences i ts
      at i = elim (dec_le 1 (occurrences i vs)) [
        | yes g ↦
            let o = ws.once i in
            let c : occurrences i vs ≡ 1 = omega arith in
            let e₁ = weight_legs (λ a b. delta i b) f vs vs ∙ in_sum f vs i ∙ ap (λ z. sum_over vs (λ j. f j i) * z) c
            ∙ mul-one (sum_over vs (λ j. f j i)) in
            let e₂ = weight_legs (λ a b. delta i a) f vs vs ∙ out_sum f vs i ∙ ap (λ z. sum_over vs (λ j. f i j) * z) c
            ∙ mul-one (sum_over vs (λ j. f i j)) in
            let h = minus_eq (sum_over vs (λ j. f i j)) (sum_over vs (λ j. f j i)) (occurrences i ss) (occurrences i ts)
            (b i (mem_of_occurrences i vs g)) in
            omega arith
        | no g ↦
            let c : occurrences i vs ≡ 0 = omega arith in
            let e₁ = weight_legs (λ a b. delta i b) f vs vs ∙ in_sum f vs i ∙ ap (λ z. sum_over vs (λ j. f j i) * z) c
            ∙ mul-zero (sum_over vs (λ j. f j i)) in
            let e₂ = weight_legs (λ a b. delta i a) f vs vs ∙ out_sum f vs i ∙ ap (λ z. sum_over vs (λ j. f i j) * z) c
            ∙ mul-zero (sum_over vs (λ j. f i j)) in
            let s = within_none ws i (omega arith) in
            let t = within_none wt i (omega arith) in
            omega arith
      ]

-- ---- a cheapest assignment as amounts

-- how many of the legs go from i to j
unfoldable pub amounts : Legs → ℕ → ℕ → ℕ
unfolding weight delta
amounts ls i j = weight (λ a b. delta i a * delta j b) ls

module _ (vs : List ℕ) where
  abbrev Inside : Legs → Type 0
  Inside ls = (l : ℕ × ℕ) → Memᴰ l ls → (occurrences l.0 vs ≡ 1) × (occurrences l.1 vs ≡ 1)

  -- one leg, seen through a weight
  one : (a b : ℕ) (w : ℕ → ℕ → ℕ) → occurrences a vs ≡ 1 → occurrences b vs ≡ 1
      → sum_over vs (λ i. sum_over vs (λ j. delta i a * delta j b * w i j)) ≡ w a b
  one a b w ca cb =
      sum_cong vs _ (λ i. w i b * delta a i) (λ i.
      sum_cong vs (λ j. delta i a * delta j b * w i j) (λ j. delta i a * w i j * delta b j) (λ j.
      ap (λ z. delta i a * z * w i j) (delta_sym j b) ∙ mul_right_comm (delta i a) (delta b j) (w i j))
      ∙ sum_delta vs (λ j. delta i a * w i j) b ∙ ap (λ z. delta i a * w i b * z) cb ∙ mul-one (delta i a * w i b)
      ∙ mul_comm (delta i a) (w i b) ∙ ap (λ z. w i b * z) (delta_sym i a))
      ∙ sum_delta vs (λ i. w i b) a ∙ ap (λ z. w a b * z) ca ∙ mul-one (w a b)

  -- the amounts of legs have the weights of the legs
  amounts_weight : (ls : Legs) → Inside ls → (w : ℕ → ℕ → ℕ) → sum_over vs (λ i. sum_over vs (λ j. amounts ls i j * w i j)) ≡ weight w ls
  unfolding amounts weight
  amounts_weight [] h w =
      sum_cong vs _ (λ i. 0) (λ i. sum_cong vs (λ j. 0 * w i j) (λ j. 0) (λ j. zero-mul (w i j)) ∙ sum_zero vs) ∙ sum_zero vs
  amounts_weight (l ∷ ls) h w =
      let m = h l (Memᴰ.head refl) in
      sum_cong vs _ (λ i. sum_over vs (λ j. delta i l.0 * delta j l.1 * w i j) + sum_over vs (λ j. amounts ls i j * w i j)) (λ i.
      sum_cong vs _ (λ j. delta i l.0 * delta j l.1 * w i j + amounts ls i j * w i j)
      (λ j. add-mul (delta i l.0 * delta j l.1) (amounts ls i j) (w i j))
      ∙ sum_add vs (λ j. delta i l.0 * delta j l.1 * w i j) (λ j. amounts ls i j * w i j))
      ∙ sum_add vs (λ i. sum_over vs (λ j. delta i l.0 * delta j l.1 * w i j)) (λ i. sum_over vs (λ j. amounts ls i j * w i j))
      ∙ ap₂ ◌+◌ (one l.0 l.1 w m.0 m.1) (amounts_weight ls (λ k n. h k (Memᴰ.tail n)) w)

-- a leg's ends are among the ends
ends_of : (l : ℕ × ℕ) (ls : Legs) → Memᴰ l ls → (0 < weight (λ a b. delta l.0 a) ls) × (0 < weight (λ a b. delta l.1 b) ls)
unfolding weight
ends_of l ls (Memᴰ.head e) =
    let s = delta_yes (ap (λ (q : ℕ × ℕ). q.0) e) in
    let t = delta_yes (ap (λ (q : ℕ × ℕ). q.1) e) in
    (omega arith, omega arith)
ends_of l ls (Memᴰ.tail m) = let h = ends_of l _ m in (omega arith, omega arith)

module _ (d : ℕ → ℕ → ℕ) where
  -- some balancing costs just the assignment
  pub assignment_at : (vs ss ts : List ℕ) → length ss ≡ length ts → Within vs ss → Within vs ts
      → (f : ℕ → ℕ → ℕ) × IsBalancing vs (difference ss ts) f × (balancing_cost vs d f ≡ assignment d ss ts)
  unfolding IsBalancing difference balancing_cost
  assignment_at vs ss ts l ws wt =
      let p = pairing d ss ts l in
      let f = amounts p.legs in
      let single : (i : ℕ) → Memᴰ i vs → occurrences i vs ≡ 1 = λ i m. once ws.once m in
      let inside : Inside vs p.legs = λ l m. (
      let e = ends_of l p.legs m in
      let x = p.from l.0 in
      let y = p.to l.1 in (
        within_once ws l.0 (mem_of_occurrences l.0 ss (omega arith)),
        within_once wt l.1 (mem_of_occurrences l.1 ts (omega arith)),
      )) in
      let out : (i : ℕ) → Memᴰ i vs → sum_over vs (λ j. f i j) ≡ occurrences i ss = λ i m.
      sym (out_sum f vs i ∙ ap (λ z. sum_over vs (λ j. f i j) * z) (single i m) ∙ mul-one (sum_over vs (λ j. f i j)))
      ∙ amounts_weight vs p.legs inside (λ a b. delta i a) ∙ p.from i in
      let into : (i : ℕ) → Memᴰ i vs → sum_over vs (λ j. f j i) ≡ occurrences i ts = λ i m.
      sym (in_sum f vs i ∙ ap (λ z. sum_over vs (λ j. f j i) * z) (single i m) ∙ mul-one (sum_over vs (λ j. f j i)))
      ∙ amounts_weight vs p.legs inside (λ a b. delta i b) ∙ p.to i in
      (f, (λ i m. ap₂ (λ (x y : ℕ). pos x -ℤ pos y) (out i m) (into i m)), amounts_weight vs p.legs inside d ∙ p.costs)
