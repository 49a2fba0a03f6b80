-- The least value of a list is at most each of its values, and is one of them. By induction on the list.
use Rattle.std.specs.Prelude.{◌≡◌, ℕ, ◌≤◌, ◌<◌, min, length}
use Rattle.std.proofs.Math.Path.{refl, ap}
use Rattle.std.proofs.Common.{subst}
use mathlib.Core.List.{List, [], ◌∷◌, map, Memᴰ}
use Rattle.std.proofs.Math.Nat.{le_refl}
use Rattle.std.proofs.Math.Decide.{dec_le}
use native.Mathlib.Omega.{arith}
use Rattle.postman.specs.Lists.{least, minimum}

module _ {A : Type 0} where
  pub least_le : (b : ℕ) (f : A → ℕ) {x : A} {xs : List A} → Memᴰ x xs → least b f xs ≤ f x
  unfolding least
  least_le b f (Memᴰ.head e) = let h = ap f e in omega arith
  least_le b f (Memᴰ.tail m) = let h = least_le b f m in omega arith

  pub least_le_base : (b : ℕ) (f : A → ℕ) (xs : List A) → least b f xs ≤ b
  unfolding least
  least_le_base b f [] = le_refl b
  least_le_base b f (x ∷ xs) = let h = least_le_base b f xs in omega arith

  -- a least value below the base is some element's
  pub least_at : (b : ℕ) (f : A → ℕ) (xs : List A) → least b f xs < b → (x : A) × Memᴰ x xs × (f x ≡ least b f xs)
  unfolding least
  least_at b f [] h = absurd (omega arith)
  least_at b f (x ∷ xs) h = elim (dec_le (f x) (least b f xs)) [
    | yes k ↦ (x, Memᴰ.head refl, omega arith)
    | no k ↦ let l : least b f xs < b = omega arith in
        let r = least_at b f xs l in
        let e = r.2 in
        (r.0, Memᴰ.tail r.1, omega arith)
  ]

-- of a list that is mapped
pub least_map : {A B : Type 0} (b : ℕ) (f : B → ℕ) (g : A → B) (xs : List A) → least b f (map g xs) ≡ least b (λ x. f (g x)) xs
unfolding least
least_map b f g [] = refl
least_map b f g (x ∷ xs) = ap (min (f (g x))) (least_map b f g xs)

pub minimum_le : {x : ℕ} {xs : List ℕ} → Memᴰ x xs → minimum xs ≤ x
unfolding minimum
minimum_le (Memᴰ.head {x = y} {xs = ys} e) = let h = least_le_base y (λ z. z) ys in omega arith
minimum_le (Memᴰ.tail {x = y} {xs = ys} m) = least_le y (λ z. z) m

pub minimum_at : (xs : List ℕ) → 0 < length xs → Memᴰ (minimum xs) xs
unfolding minimum
minimum_at [] h = absurd (omega arith)
minimum_at (x ∷ xs) h = elim (dec_le x (least x (λ y. y) xs)) [
  | yes g ↦ Memᴰ.head {x = x} (let b = least_le_base x (λ y. y) xs in omega arith)
  | no g ↦ let r = least_at x (λ y. y) xs (omega arith) in Memᴰ.tail (subst (λ z. Memᴰ z xs) r.2 r.1)
]
