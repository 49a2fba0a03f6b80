-- Repeated elements, and one element more.
use Rattle.std.specs.Prelude.{◌≡◌, refl, ℕ, zero, suc, ◌+◌, ◌<◌, length, get_or, take, replicate}
use Rattle.std.proofs.Common.{sym, ap, ◌∙◌, inl, inr, arith, take-suc}
use mathlib.Core.List.Memᴰ
use mathlib.Core.List.{List, [], ◌∷◌, ◌++◌, map, Memᴰ}

pub map_replicate : {A B : Type 0} (f : A → B) (n : ℕ) (x : A) → map f (replicate n x) ≡ replicate n (f x)
map_replicate f zero x = refl
map_replicate f (suc n) x = ap (λ l. f x ∷ l) (map_replicate f n x)

pub replicate_mem : {A : Type 0} {y : A} (n : ℕ) (x : A) → Memᴰ y (replicate n x) → (0 < n) × (y ≡ x)
replicate_mem zero x m = elim m [ ]
replicate_mem (suc n) x m = elim (Memᴰ.cases_cons m) [ inl e ↦ (omega arith, e) | inr k ↦ (omega arith, (replicate_mem n x k).1) ]

pub take_one : (xs : List ℕ) (i : ℕ) → i < length xs → take i xs ++ get_or xs i 0 ∷ [] ≡ take (i + 1) xs
take_one xs i l = let e : suc i ≡ i + 1 = omega arith in sym (take-suc xs i 0 l) ∙ ap (λ z. take z xs) e
