-- What each turn of thinning does to the flags, by what its search has found; and a turn more.
use Rattle.std.specs.Prelude.{◌≡◌, Bool, true, false, not, ◌&&◌, get_or, set, T, eqb}
use Rattle.std.proofs.Math.Path.{refl, sym, ap, ap₂}
use Rattle.std.proofs.Common.{◌∙◌, subst, add-one, get_or-set_other, eqb-true, lt-ltb}
use mathlib.Core.List.{List, [], ◌∷◌}
use Rattle.std.proofs.Math.Bool.{cond, and-false}
use Prim.Native.Nat.{ℕ, zero, suc, ◌+◌, ◌*◌, ◌/◌, ◌%◌, ◌<◌, ◌≤◌}
use native.Mathlib.Omega.{arith}
use Rattle.std.proofs.lemmas.Bool.{not-true}
use Rattle.std.proofs.Math.Decide.{ℕ_discrete}
use Rattle.postman.specs.Lists.{any_of, below}
use Rattle.postman.specs.Steps.{cell}
use Rattle.network.specs.Thinning.{flag, far, nearby, between, turn_at, row_thinned, rows_thinned}
use Rattle.required.specs.Laws.Search.{some_below, none_below}

-- a conjunction that fails by a part, and one that holds by both
pub no_left : {a : Bool} (b : Bool) → a ≡ false → (a && b) ≡ false
no_left b e = rw e

pub no_right : (a : Bool) {b : Bool} → b ≡ false → (a && b) ≡ false
no_right a e = rw e (and-false a)

pub both : {a b : Bool} → a ≡ true → b ≡ true → (a && b) ≡ true
both e f = rw (e, f)

module _ (d : List (List ℕ)) (held : List Bool) (i j : ℕ) where
  turn_by : {b : Bool} → (flag held i j && any_of (between d held i j) (below 64)) ≡ b
      → turn_at d held i j ≡ cond b (set held (i * 64 + j) false) held
  unfolding turn_at
  turn_by e = ap (λ b. cond b (set held (i * 64 + j) false) held) e

  -- it was not held; it goes by k; or no k was found
  pub turn_not_held : not (flag held i j) ≡ true → turn_at d held i j ≡ held
  turn_not_held e = turn_by (no_left _ (not-true (flag held i j) e))

  pub turn_drops : flag held i j ≡ true → (k : ℕ) → k < 64 → between d held i j k ≡ true → turn_at d held i j ≡ set held (i * 64 + j) false
  turn_drops e k l f = turn_by (both e (some_below (between d held i j) 64 k l f))

  pub turn_keeps : ((k : ℕ) → k < 64 → between d held i j k ≡ false) → turn_at d held i j ≡ held
  turn_keeps h = turn_by (no_right (flag held i j) (none_below (between d held i j) 64 h))

  -- a step of the search
  module _ (k : ℕ) where
    pub via_found : flag held i k ≡ true → flag held k j ≡ true → eqb (cell d i j) (cell d i k + cell d k j) ≡ true
        → between d held i j k ≡ true
    via_found a b e = both (both a b) e

    pub via_first : flag held i k ≡ false → between d held i j k ≡ false
    via_first e = no_left _ (no_left _ e)

    pub via_second : flag held k j ≡ false → between d held i j k ≡ false
    via_second e = no_left _ (no_right (flag held i k) e)

    pub via_long : eqb (cell d i j) (cell d i k + cell d k j) ≡ false → between d held i j k ≡ false
    via_long e = no_right (flag held i k && flag held k j) e

-- what is held is among the pairs
abbrev pub Fewer : List Bool → List Bool → Type 0
Fewer pairs held = (x : ℕ) → get_or held x false ≡ true → get_or pairs x false ≡ true

-- ---- where no distances add up to that of the pair, it is kept

module _ (d : List (List ℕ)) (pairs held : List Bool) (i j : ℕ) (row columns : List ℕ) (fewer : Fewer pairs held)
    (row_is : (k : ℕ) → k < 64 → get_or row k 0 ≡ nearby (flag pairs i k) (cell d i k))
    (columns-are : (x : ℕ) → x < 4096 → get_or columns x 0 ≡ nearby (flag pairs (x % 64) (x / 64)) (cell d (x % 64) (x / 64))) where
  -- a distance below 2 to the 30 stands as it is
  as_it_is : {b : Bool} {n : ℕ} → b ≡ true → n < far → nearby b n ≡ n
  as_it_is e l = rw (e, lt-ltb _ far l)

  column_is : j < 64 → (k : ℕ) → k < 64 → get_or columns (j * 64 + k) 0 ≡ nearby (flag pairs k j) (cell d k j)
  column_is l k m =
      let a : (j * 64 + k) % 64 ≡ k = omega arith in
      let b : (j * 64 + k) / 64 ≡ j = omega arith in
      columns-are (j * 64 + k) (omega arith) ∙ ap₂ (λ (p q : ℕ). nearby (flag pairs p q) (cell d p q)) a b

  short_between : j < 64 → cell d i j < far → ((k : ℕ) → k < 64 → get_or row k 0 + get_or columns (j * 64 + k) 0 ≡ cell d i j → ⊥) → (k : ℕ)
      → k < 64 → between d held i j k ≡ false
  short_between l f h k m = cases (flag held i k) (flag held k j) (eqb (cell d i j) (cell d i k + cell d k j)) (λ a b e.
      let s : cell d i j ≡ cell d i k + cell d k j = eqb-true (cell d i j) (cell d i k + cell d k j) e in
      let p : get_or row k 0 ≡ cell d i k = row_is k m ∙ as_it_is (fewer (i * 64 + k) a) (omega arith) in
      let q : get_or columns (j * 64 + k) 0 ≡ cell d k j = column_is l k m ∙ as_it_is (fewer (k * 64 + j) b) (omega arith) in
      h k m (omega arith))
    where
      cases : (a b c : Bool) → (a ≡ true → b ≡ true → c ≡ true → ⊥) → (a && b && c) ≡ false
      cases true true true g = absurd (g refl refl refl)
      cases true true false g = refl
      cases true false c g = refl
      cases false b c g = refl

  pub turn_short : j < 64 → cell d i j < far → ((k : ℕ) → k < 64 → get_or row k 0 + get_or columns (j * 64 + k) 0 ≡ cell d i j → ⊥)
      → turn_at d held i j ≡ held
  turn_short l f h = turn_keeps d held i j (short_between l f h)

-- whatever is dropped
pub fewer_dropped : (pairs held : List Bool) (x : ℕ) → Fewer pairs held → Fewer pairs (set held x false)
fewer_dropped pairs held x h y e = elim (ℕ_discrete y x) [
  | yes q ↦ absurd (subst (λ (b : Bool). T b) (sym (rw q at e) ∙ dropped held x) tt)
  | no n ↦ h y (sym (get_or-set_other held x y false false n) ∙ e)
]
  where
    dropped : (held : List Bool) (x : ℕ) → get_or (set held x false) x false ≡ false
    dropped [] x = refl
    dropped (b ∷ held) zero = refl
    dropped (b ∷ held) (suc x) = dropped held x

-- ---- a turn more, and a row more

module _ (d : List (List ℕ)) (held : List Bool) where
  pub row_none : (i : ℕ) → row_thinned d held i 0 ≡ held
  unfolding row_thinned
  row_none i = refl

  row_more : (i j : ℕ) → row_thinned d held i (j + 1) ≡ turn_at d (row_thinned d held i j) i j
  unfolding row_thinned
  row_more i j = ap (row_thinned d held i) (add-one j)

  -- after the turn of (i, j), by what it did
  pub row_turn : (i j : ℕ) (before after : List Bool) → before ≡ row_thinned d held i j → turn_at d before i j ≡ after
      → after ≡ row_thinned d held i (j + 1)
  row_turn i j before after e f = sym f ∙ ap (λ (h : List Bool). turn_at d h i j) e ∙ sym (row_more i j)

  pub rows_none : rows_thinned d held 0 ≡ held
  unfolding rows_thinned
  rows_none = refl

  -- after row i
  pub rows_turn : (i j : ℕ) (before after : List Bool) → before ≡ rows_thinned d held i → after ≡ row_thinned d before i j → j ≡ 64
      → after ≡ rows_thinned d held (i + 1)
  unfolding rows_thinned
  rows_turn i j before after e f g = f ∙ ap₂ (λ (h : List Bool) (k : ℕ). row_thinned d h i k) e g
      ∙ sym (ap (rows_thinned d held) (add-one i))

  -- by places, as the pair (i, j) has the place 64 i + j
  unfoldable pub places_thinned : ℕ → List Bool
  unfolding turn_at
  places_thinned zero = held
  places_thinned (suc n) = turn_at d (places_thinned n) (n / 64) (n % 64)

  row_places : (i j : ℕ) → j ≤ 64 → row_thinned d (places_thinned (i * 64)) i j ≡ places_thinned (i * 64 + j)
  unfolding row_thinned places_thinned
  row_places i zero l = let e : i * 64 ≡ i * 64 + 0 = omega arith in ap places_thinned e
  row_places i (suc j) l =
      let s : suc (i * 64 + j) ≡ i * 64 + suc j = omega arith in
      let a : i ≡ (i * 64 + j) / 64 = omega arith in
      let b : j ≡ (i * 64 + j) % 64 = omega arith in
      ap (λ (h : List Bool). turn_at d h i j) (row_places i j (omega arith)) ∙ ap₂ (turn_at d (places_thinned (i * 64 + j))) a b
      ∙ ap places_thinned s

  pub rows_places : (i : ℕ) → rows_thinned d held i ≡ places_thinned (i * 64)
  unfolding rows_thinned places_thinned
  rows_places zero = refl
  rows_places (suc i) =
      let e : i * 64 + 64 ≡ suc i * 64 = omega arith in
      ap (λ (h : List Bool). row_thinned d h i 64) (rows_places i) ∙ row_places i 64 (omega arith) ∙ ap places_thinned e
