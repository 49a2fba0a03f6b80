-- What the test of multipliers says: raised to heights they are feasible for every pair of vs, and tight wherever something is sent.
use Rattle.std.proofs.Math.Path.{subst, subst⁻¹}
use Rattle.std.specs.Prelude.{Bool, true, cond, ◌&&◌, ℕ, zero, suc, ◌<◌, ltb, length, get_or, ℤ, pos, ◌+ℤ◌, ◌-ℤ◌, ◌≤ℤ◌}
use mathlib.Core.List.{List, Memᴰ}
use Rattle.std.proofs.Math.Decide.{ℕ_discrete}
use Rattle.std.proofs.Common.{arith, lt-ltb}
use Rattle.std.proofs.Math.Dec.{T}
use Rattle.std.specs.Int.Signed.{le_z, le_z_yes}
use Rattle.integers.specs.Linear.{zl}
use Rattle.postman.specs.Laws.Tests.{and_parts}
use Rattle.postman.specs.Laws.Membership.{mem_get_d}
use Rattle.balance.specs.Optimality.{ArePotentials, Tight}
use Rattle.residual_search.specs.Search.{beyond}
use Rattle.postman.specs.Steps.{cell, amount}
use Rattle.multiplier_steps.specs.Turns.{turns}
use Rattle.multiplier_steps.specs.Steps.{AreSmall}
use Rattle.multiplier_steps.specs.Lawful.{passes, is_pair_lawful, is_vertex_lawful, are_lawful}
use Rattle.multiplier_steps.specs.Laws.Steps.{raised, raised_is}

-- a loop that gathers tests
all_turns : (t : ℕ → Bool) (n : ℕ) → T (turns (λ b a. b && t a) true n) → (a : ℕ) → a < n → T (t a)
unfolding turns
all_turns t zero h a l = absurd (omega arith)
all_turns t (suc n) h a l =
    let p = and_parts (turns (λ b a. b && t a) true n) (t n) h in
    elim (ℕ_discrete a n) [
      | yes e ↦ subst⁻¹ (λ i. T (t i)) e p.1
      | no e ↦ all_turns t n p.0 a (omega arith)
    ]

module _ (d f : ℕ) (xi xj : ℤ) (h : T (passes d f xi xj)) where
  abbrev c : ℤ
  c = pos d -ℤ xi +ℤ xj

  not_negative : pos 0 ≤ℤ c
  not_negative = le_z_yes {a = pos 0} {b = c} (and_parts (le_z (pos 0) c) (cond (ltb 0 f) (le_z c (pos 0)) true) h).0

  not_positive : 0 < f → c ≤ℤ pos 0
  not_positive l =
      le_z_yes {a = c} {b = pos 0}
      (subst (λ b. T (cond b (le_z c (pos 0)) true)) (lt-ltb 0 f l) (and_parts (le_z (pos 0) c) (cond (ltb 0 f) (le_z c (pos 0)) true) h).1)

module _ (d : List (List ℕ)) (f vs : List ℕ) (x : List ℤ) (h : T (are_lawful d f x vs)) where
  pair : (i j : ℕ) → Memᴰ i vs → Memᴰ j vs → T (is_pair_lawful d f x i j)
  unfolding are_lawful is_vertex_lawful
  pair i j mi mj =
      let a = mem_get_d 0 mi in
      let b = mem_get_d 0 mj in
      let row = all_turns (λ a. is_vertex_lawful d f x vs (get_or vs a 0)) (length vs) h a.0 a.1 in
      let row' : T (is_vertex_lawful d f x vs i) = subst (λ i. T (is_vertex_lawful d f x vs i)) a.2 row in
      let one = all_turns (λ a. is_pair_lawful d f x i (get_or vs a 0)) (length vs) row' b.0 b.1 in
      subst (λ j. T (is_pair_lawful d f x i j)) b.2 one

  module _ (small : (i : ℕ) → Memᴰ i vs → i < 64) (s : AreSmall beyond x) where
    -- AS HEIGHTS THEY ARE FEASIBLE
    pub lawful_feasible : ArePotentials (cell d) vs (raised vs small x)
    lawful_feasible i j mi mj =
        let a = raised_is vs small x s i mi in
        let b = raised_is vs small x s j mj in
        let e = not_negative (cell d i j) (amount f i j) (get_or x i (pos 0)) (get_or x j (pos 0)) (pair i j mi mj) in
        omega (arith, simp zl at a, simp zl at b, simp zl at e)

    -- AND TIGHT
    pub lawful_tight : Tight (cell d) vs (amount f) (raised vs small x)
    lawful_tight i j mi mj l =
        let a = raised_is vs small x s i mi in
        let b = raised_is vs small x s j mj in
        let e = not_negative (cell d i j) (amount f i j) (get_or x i (pos 0)) (get_or x j (pos 0)) (pair i j mi mj) in
        let g = not_positive (cell d i j) (amount f i j) (get_or x i (pos 0)) (get_or x j (pos 0)) (pair i j mi mj) l in
        omega (arith, simp zl at a, simp zl at b, simp zl at e, simp zl at g)
