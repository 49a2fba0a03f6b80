-- Arrays that `std::array::from_fn` and `map` make, by a closure that changes nothing: each element is what its call gave.
use Rattle.std.specs.Prelude.{◌≡◌, List, ℕ, zero, suc, ◌+◌, ◌≤◌, ◌<◌, get_or}
use Rattle.std.proofs.Common.{subst, arith}
use Rattle.std.proofs.Math.Decide.{ℕ_discrete}
use Rattle.std.specs.Array.{IsFromFnResult, IsFromFnResultFrom, IsMapOf, MapsFrom}
use Rattle.std.specs.Fn.{Called}
use denote.Param.Members.{Mut}

module _ {F B : Type 0} (g : Mut F (ℕ × Unit {0}) B) (P : ℕ → B → Type 0) (f : F)
    (step : (i : ℕ) (y : B) (f' : F) → Called g f (i, tt) y f' → P i y × (f' ≡ f)) where
  made_from : (ys : List B) (i n : ℕ) → IsFromFnResultFrom g f ys i n → (k : ℕ) (d : B) → i ≤ k → k < i + n → P k (get_or ys k d)
  made_from ys i zero h k d a b = absurd (omega arith)
  made_from ys i (suc n) h k d a b =
      let s = step i h.1 h.0 h.3 in
      elim (ℕ_discrete k i) [
        | yes e ↦ rw (e, h.2.1 d) s.0
        | no e ↦ made_from ys (i + 1) n (subst (λ (q : F). IsFromFnResultFrom g q ys (i + 1) n) s.1 h.4) k d (omega arith) (omega arith)
      ]

  pub from_fn_each : (ys : List B) (n : ℕ) → IsFromFnResult g f ys n → (k : ℕ) (d : B) → k < n → P k (get_or ys k d)
  from_fn_each ys n h k d l = made_from ys 0 n h.each k d (omega arith) (omega arith)

module _ {F A B : Type 0} (g : Mut F (A × Unit {0}) B) (P : A → B → Type 0) (f : F)
    (step : (x : A) (y : B) (f' : F) → Called g f (x, tt) y f' → P x y × (f' ≡ f)) where
  mapped_from : (xs : List A) (ys : List B) (i n : ℕ) → MapsFrom g f xs ys i n → (k : ℕ) (d : A) (e : B) → i ≤ k → k < i + n
      → P (get_or xs k d) (get_or ys k e)
  mapped_from xs ys i zero h k d e a b = absurd (omega arith)
  mapped_from xs ys i (suc n) h k d e a b =
      let s = step h.1 h.2 h.0 h.5 in
      elim (ℕ_discrete k i) [
        | yes q ↦ rw (q, h.3.1 d, h.4.1 e) s.0
        | no q ↦ mapped_from xs ys (i + 1) n (subst (λ (p : F). MapsFrom g p xs ys (i + 1) n) s.1 h.6) k d e (omega arith) (omega arith)
      ]

  pub map_each : (xs : List A) (ys : List B) (n : ℕ) → IsMapOf g f xs ys n → (k : ℕ) (d : A) (e : B) → k < n
      → P (get_or xs k d) (get_or ys k e)
  map_each xs ys n h k d e l = mapped_from xs ys 0 n h.each k d e (omega arith) (omega arith)
