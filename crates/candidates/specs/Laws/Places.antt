-- The places of the candidates: how they follow each other, and that they are few, since a pair is a candidate
-- of one component at most, that of its head.
use Rattle.std.specs.Prelude.{◌≡◌, Bool, true, false, not, ◌&&◌, get_or, set, replicate, eqb, ltb}
use Rattle.std.proofs.Math.Path.{refl, ap}
use Rattle.std.proofs.Common.{sym, ◌∙◌, subst, length-append, get_or-append-add, get_or-set_same, get_or-set_other, lt-ltb, le-ltb, ne_eqb}
use Rattle.std.proofs.Math.Logic.{inl, inr}
use mathlib.Core.List.Memᴰ
use mathlib.Core.List.{List, [], ◌++◌, Memᴰ}
use Prim.Native.Nat.{ℕ, zero, suc, ◌+◌, ◌/◌, ◌%◌, ◌≤◌, ◌<◌, zero-le}
use Rattle.std.proofs.Math.Nat.{le_trans}
use Rattle.std.proofs.Math.Decide.{dec_lt, ℕ_discrete}
use native.Mathlib.Omega.{arith}
use Rattle.std.proofs.Math.ListN.{length, get_or-append}
use Rattle.postman.specs.Lists.{select, below}
use Rattle.postman.specs.Laws.Membership.{length_below, select_mem, below_mem, get_d_mem}
use Rattle.postman_laws.specs.Laws.Selection.{select_length}
use Rattle.candidates.specs.Places.{enters, is_candidate, places_of, places_before}
use Rattle.candidates.specs.Laws.Selection.{one, at_most_one, disjoint_length}

module _ (links : List Bool) (component : List ℕ) where
  abbrev before : ℕ → List ℕ
  before = places_before links component

  abbrev of : ℕ → List ℕ
  of = places_of links component

  pub before_one : before 1 ≡ []
  unfolding places_before
  before_one = refl

  pub before_more : (q : ℕ) → 1 ≤ q → before (q + 1) ≡ before q ++ of q
  unfolding places_before
  before_more zero l = absurd (omega arith)
  before_more (suc q) l = let e : suc q + 1 ≡ suc (suc q) = omega arith in ap before e

  -- ---- they are few

  -- the pairs whose head is in a component below q
  abbrev head_below : ℕ → ℕ → Bool
  head_below q x = ltb (get_or component (x % 64) 0) q

  none_entered : (l : Bool) (t h q : ℕ) → eqb h q ≡ false → enters l t h q ≡ false
  none_entered true t h q e = ap (λ b. b && not (eqb t q)) e
  none_entered false t h q e = refl

  one_each : (q x : ℕ) → one (head_below q x) + one (is_candidate links component q x) ≤ one (head_below (q + 1) x)
  one_each q x = step (get_or links x false) (get_or component (x / 64) 0) (get_or component (x % 64) 0)
    where
      step : (l : Bool) (t h : ℕ) → one (ltb h q) + one (enters l t h q) ≤ one (ltb h (q + 1))
      step l t h = elim (dec_lt h q) [
        | yes b ↦
            let x = ap one (lt-ltb h q b) in
            let y = ap one (lt-ltb h (q + 1) (omega arith)) in
            let z = ap one (none_entered l t h q (ne_eqb h q (λ e. omega arith))) in
            omega arith
        | no b ↦ elim (ℕ_discrete h q) [
          | yes e ↦
              let x = ap one (le-ltb h q (omega arith)) in
              let y = ap one (lt-ltb h (q + 1) (omega arith)) in
              let z = at_most_one (enters l t h q) in
              omega arith
          | no o ↦
              let x = ap one (le-ltb h q (omega arith)) in
              let z = ap one (none_entered l t h q (ne_eqb h q o)) in
              omega arith
        ]
      ]

  before_few : (q : ℕ) → length (before (suc q)) ≤ length (select (head_below (suc q)) (below 4096))
  unfolding places_before places_of
  before_few zero = zero-le
  before_few (suc q) =
      let e : suc q + 1 ≡ suc (suc q) = omega arith in
      let d = disjoint_length (head_below (suc q)) (is_candidate links component (suc q)) (head_below (suc q + 1)) (below 4096)
      (one_each (suc q)) in
      sums (length (before (suc q))) (length (of (suc q))) (length (select (head_below (suc q)) (below 4096))) (before_few q)
      (length-append (before (suc q)) (of (suc q))) d
      (ap (λ z. length (select (head_below z) (below 4096))) e)
    where
      sums : (a b c : ℕ) {d e f : ℕ} → a ≤ c → d ≡ a + b → c + b ≤ e → e ≡ f → d ≤ f
      sums a b c h g i j = omega arith

  pub before_fits : (q : ℕ) → length (before q) ≤ 4096
  unfolding places_before
  before_fits zero = zero-le
  before_fits (suc q) =
      le_trans (before_few q)
      (subst (λ n. length (select (head_below (suc q)) (below 4096)) ≤ n) (length_below 4096)
      (select_length (head_below (suc q)) (below 4096)))

  pub before_length : (q : ℕ) → 1 ≤ q → length (before (q + 1)) ≡ length (before q) + length (of q)
  before_length q l = ap length (before_more q l) ∙ length-append (before q) (of q)

  -- ---- where they stand

  pub before_at : (q : ℕ) → 1 ≤ q → (k i : ℕ) → q < k → i < length (of q)
      → (length (before q) + i < length (before k)) × (get_or (before k) (length (before q) + i) 0 ≡ get_or (of q) i 0)
  before_at q l zero i m b = absurd (omega arith)
  before_at q l (suc k) i m b =
      let s : k + 1 ≡ suc k = omega arith in
      let e = sym (ap before s) ∙ before_more k (omega arith) in
      let n = ap length e ∙ length-append (before k) (of k) in
      elim (ℕ_discrete q k) [
        | yes g ↦
            let x = ap (λ z. length (before z)) g in
            let y = ap (λ z. length (of z)) g in (
              omega arith,
              ap (λ (l : List ℕ). get_or l (length (before q) + i) 0) e
                  ∙ ap (λ z. get_or (before k ++ of k) (z + i) 0) x ∙ get_or-append-add (before k) (of k) i 0
                  ∙ ap (λ z. get_or (of z) i 0) (sym g),
            )
        | no o ↦
            let r = before_at q l k i (omega arith) b in
            let f = r.0 in (
              omega arith,
              ap (λ (l : List ℕ). get_or l (length (before q) + i) 0) e
                  ∙ get_or-append (before k) (of k) 0 (length (before q) + i) f ∙ r.1,
            )
      ]

  -- every one is the place of a pair
  before_mem : (q : ℕ) {x : ℕ} → Memᴰ x (before q) → x < 4096
  unfolding places_before places_of
  before_mem zero m = elim m [ ]
  before_mem (suc zero) m = elim m [ ]
  before_mem (suc (suc q)) m = elim (Memᴰ.append_cases (before (suc q)) m) [
    | inl n ↦ before_mem (suc q) n
    | inr n ↦ below_mem (select_mem (is_candidate links component (suc q)) (below 4096) n).0
  ]

  pub before_place : (q m : ℕ) → m < length (before q) → get_or (before q) m 0 < 4096
  before_place q m l = before_mem q (get_d_mem (before q) 0 m l)

  -- ---- the array of their starts, up to component q

  abbrev pub StartsTo : ℕ → List ℕ → Type 0
  StartsTo q start = (i : ℕ) → i ≤ q → get_or start i 0 ≡ length (before i)

  pub starts_none : StartsTo 1 (replicate 9 0)
  unfolding places_before
  starts_none zero l = refl
  starts_none (suc zero) l = refl
  starts_none (suc (suc i)) l = absurd (omega arith)

  pub starts_more : (q : ℕ) (start : List ℕ) (n : ℕ) → q + 1 < length start → StartsTo q start → n ≡ length (before (q + 1))
      → StartsTo (q + 1) (set start (q + 1) n)
  starts_more q start n l h e i b = elim (ℕ_discrete i (q + 1)) [
    | yes s ↦ ap (λ x. get_or (set start (q + 1) n) x 0) s ∙ get_or-set_same start (q + 1) n 0 l ∙ e ∙ ap (λ x. length (before x)) (sym s)
    | no o ↦ get_or-set_other start (q + 1) i n 0 o ∙ h i (omega arith)
  ]

  -- there is room for one component more
  pub room_for : (q count : ℕ) → 1 ≤ q → count ≡ length (before q) → count + length (of q) ≤ 4096
  room_for q count l e = let a = before_length q l in let b = before_fits (q + 1) in omega arith
