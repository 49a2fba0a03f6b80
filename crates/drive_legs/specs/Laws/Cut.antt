-- In a balanced graph, a set that no leg leaves is a set that no leg enters: as many tails as heads lie in it.
use Rattle.std.specs.Prelude.{◌≡◌, Bool, cond, length, get_or, T}
use Rattle.std.proofs.Math.Path.{refl}
use Rattle.std.proofs.Math.Bool.{true, false}
use mathlib.Core.List.{List, [], ◌∷◌, map}
use Prim.Native.Nat.{ℕ, zero, suc, ◌+◌, ◌≤◌, ◌<◌}
use native.Mathlib.Omega.{arith}
use Rattle.postman.specs.Lists.{delta, occurrences}
use Rattle.postman_laws.specs.Laws.Occurrences.{delta_yes, delta_no}
use Rattle.hierholzer.specs.Laws.Counting.{map_le}

module _ (X : ℕ → Bool) where
  -- 1 in the set, 0 outside
  abbrev mark : Bool → ℕ
  mark b = cond b 1 0

  inside : List ℕ → ℕ
  inside [] = 0
  inside (v ∷ vs) = mark (X v) + inside vs

  inside_marks : (vs : List ℕ) → occurrences 1 (map (λ v. mark (X v)) vs) ≡ inside vs
  unfolding occurrences inside
  inside_marks [] = refl
  inside_marks (v ∷ vs) = let h = inside_marks vs in let e = one (X v) in omega arith
    where
      one : (b : Bool) → delta 1 (mark b) ≡ mark b
      one true = delta_yes {i = 1} refl
      one false = delta_no 1 0 (λ e. omega arith)

  inside_le : (xs ys : List ℕ) → ((v : ℕ) → occurrences v xs ≤ occurrences v ys) → inside xs ≤ inside ys
  inside_le xs ys h = let a = map_le (λ v. mark (X v)) 1 xs ys (λ k e. h k) in let b = inside_marks xs in let c = inside_marks ys in
      omega arith

  abbrev Forward : List ℕ → List ℕ → Type 0
  Forward ts hs = (e : ℕ) → e < length ts → T (X (get_or ts e 0)) → T (X (get_or hs e 0))

  mark_le : (b c : Bool) → (T b → T c) → mark b ≤ mark c
  mark_le true true f = omega arith
  mark_le true false f = absurd (f tt)
  mark_le false true f = omega arith
  mark_le false false f = omega arith

  mark_ge : (b c : Bool) → mark c ≤ mark b → T c → T b
  mark_ge true c l t = tt
  mark_ge false true l t = absurd (omega arith)
  mark_ge false false l t = t

  forward_le : (ts hs : List ℕ) → length hs ≡ length ts → Forward ts hs → inside ts ≤ inside hs
  unfolding inside
  forward_le [] hs l f = omega arith
  forward_le (t ∷ ts) [] l f = absurd (omega arith)
  forward_le (t ∷ ts) (h ∷ hs) l f =
      let r = forward_le ts hs (omega arith) (λ e k. f (suc e) (omega arith)) in
      let m = mark_le (X t) (X h) (f 0 (omega arith)) in
      omega arith

  backward : (ts hs : List ℕ) → length hs ≡ length ts → Forward ts hs → inside hs ≤ inside ts → (e : ℕ) → e < length ts
      → T (X (get_or hs e 0)) → T (X (get_or ts e 0))
  unfolding inside
  backward [] hs l f c e k x = absurd (omega arith)
  backward (t ∷ ts) [] l f c e k x = absurd (omega arith)
  backward (t ∷ ts) (h ∷ hs) l f c zero k x =
      let r = forward_le ts hs (omega arith) (λ e k. f (suc e) (omega arith)) in
      mark_ge (X t) (X h) (omega arith) x
  backward (t ∷ ts) (h ∷ hs) l f c (suc e) k x =
      let m = mark_le (X t) (X h) (f 0 (omega arith)) in
      backward ts hs (omega arith) (λ e k. f (suc e) (omega arith)) (omega arith) e (omega arith) x

  pub entered_too : (ts hs : List ℕ) → length hs ≡ length ts → ((v : ℕ) → occurrences v ts ≡ occurrences v hs) → Forward ts hs
      → (e : ℕ) → e < length ts → T (X (get_or hs e 0)) → T (X (get_or ts e 0))
  entered_too ts hs l b f = backward ts hs l f (inside_le hs ts (λ v. let e = b v in omega arith))
