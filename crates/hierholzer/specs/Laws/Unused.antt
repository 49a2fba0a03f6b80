-- Legs that are in no list yet: what the search for the next leg finds, and how many legs are in the lists at most.
use Rattle.std.specs.Prelude.{◌≡◌, List, ◌∷◌, ◌++◌, ℕ, ◌+◌, ◌≤◌, ◌<◌, length, get_or, eqb}
use Rattle.std.proofs.Math.Path.{ap}
use Rattle.std.proofs.Math.Decide.{dec_le}
use native.Mathlib.Omega.{arith}
use Rattle.std.proofs.Common.{length-append, T_not}
use Rattle.std.proofs.Math.Dec.{eqb→eq}
use Rattle.postman.specs.Lists.{below, delta, occurrences}
use Rattle.postman.specs.Laws.Tests.{and_both, and_parts, eqb_same}
use Rattle.postman.specs.Laws.Membership.{length_below}
use Rattle.postman_laws.specs.Laws.Occurrences.{delta_yes, delta_pos, occurrences_append}
use Rattle.hierholzer.specs.Circuit.{is_free, next_leg}
use Rattle.hierholzer.specs.Laws.Counting.{length_le, below_once}
use Rattle.hierholzer.specs.Laws.Search.{first_test, first_fails}

-- how often a leg is in the two lists
abbrev pub uses : ℕ → List ℕ → List ℕ → ℕ
uses e w d = occurrences e w + occurrences e d

module _ (tails : List ℕ) where
  -- ---- no leg is in the lists twice

  abbrev pub Tidy : List ℕ → List ℕ → Type 0
  Tidy w d = (e : ℕ) → uses e w d ≤ occurrences e (below (length tails))

  pub tidy_length : (w d : List ℕ) → Tidy w d → length w + length d ≤ length tails
  tidy_length w d h =
      let r = length_le (w ++ d) (below (length tails)) (λ k. let a = h k in let b = occurrences_append k w d in omega arith) in
      let a = length-append w d in
      let b = length_below (length tails) in
      omega arith

  -- ---- what the search for the next leg finds

  -- a free leg: there, out of v, and unused
  pub record Free (w d : List ℕ) (v e : ℕ) : Type 0 where
    pub there : e < length tails
    pub leaves : get_or tails e 0 ≡ v
    pub unused : uses e w d ≡ 0

  pub next_free : (w d : List ℕ) (v : ℕ) → next_leg tails w d v < length tails → Free w d v (next_leg tails w d v)
  unfolding next_leg is_free
  next_free w d v l =
      let e = next_leg tails w d v in
      let t = first_test (is_free tails w d v) (length tails) l in
      let b = and_parts (eqb (get_or tails e 0) v) (eqb (uses e w d) 0) t in
      record { there = l; leaves = eqb→eq (get_or tails e 0) v b.0; unused = eqb→eq (uses e w d) 0 b.1 }

  -- no leg out of v is free
  abbrev pub Spent : List ℕ → List ℕ → ℕ → Type 0
  Spent w d v = (e : ℕ) → e < length tails → get_or tails e 0 ≡ v → 0 < uses e w d

  pub next_none : (w d : List ℕ) (v : ℕ) → length tails ≤ next_leg tails w d v → Spent w d v
  unfolding next_leg is_free
  next_none w d v l e m o = elim (dec_le 1 (uses e w d)) [
    | yes g ↦ g
    | no g ↦
        let z : uses e w d ≡ 0 = omega arith in
        absurd (T_not (is_free tails w d v e) (first_fails (is_free tails w d v) (length tails) e (omega arith))
        (and_both (eqb (get_or tails e 0) v) (eqb (uses e w d) 0) (eqb_same o) (eqb_same z)))
  ]

  -- a free leg more
  pub tidy_more : (w d : List ℕ) (v e : ℕ) → Tidy w d → Free w d v e → Tidy (e ∷ w) d
  unfolding occurrences
  tidy_more w d v e h f x = elim (dec_le 1 (delta x e)) [
    | yes g ↦ (
        let i = delta_pos x e g in
        let a = ap (λ z. uses z w d) i in
        let b = below_once (length tails) e f.there in
        let c = ap (λ z. occurrences z (below (length tails))) i in
        let o = delta_yes i in
        let u = f.unused in
        omega arith)
    | no g ↦ (let a = h x in omega arith)
  ]
