-- Words about lists that the definitions use. None of them is about plans.
use Rattle.std.specs.Prelude.{Bool, true, false, cond, ◌&&◌, ◌||◌, ℕ, zero, suc, ◌+◌, min, eqb, ltb, ℤ, pos, ◌+ℤ◌}
use mathlib.Core.List.{List, [], ◌∷◌, map, flat_map}
use Rattle.std.specs.Int.Signed.{le_z}

-- The elements that pass a test, in their order.
unfoldable pub select {ℓ} : {A : Type ℓ} → (A → Bool) → List A → List A
select f [] = []
select f (x ∷ xs) = cond (f x) (x ∷ select f xs) (select f xs)

-- Whether some element passes a test; whether every element does.
unfoldable pub any_of {ℓ} : {A : Type ℓ} → (A → Bool) → List A → Bool
any_of f [] = false
any_of f (x ∷ xs) = f x || any_of f xs

unfoldable pub all_of {ℓ} : {A : Type ℓ} → (A → Bool) → List A → Bool
all_of f [] = true
all_of f (x ∷ xs) = f x && all_of f xs

-- The place of the first element that passes a test; the length where none does.
unfoldable pub first_index {ℓ} : {A : Type ℓ} → (A → Bool) → List A → ℕ
first_index f [] = 0
first_index f (x ∷ xs) = cond (f x) 0 (suc (first_index f xs))

-- The n numbers a, a + 1, and so on; the numbers 0 to n − 1.
unfoldable pub up_from : ℕ → ℕ → List ℕ
up_from a zero = []
up_from a (suc n) = a ∷ up_from (suc a) n

unfoldable pub below : ℕ → List ℕ
unfolding up_from
below n = up_from 0 n

-- The sum.
unfoldable pub sum_of : List ℕ → ℕ
sum_of [] = 0
sum_of (x ∷ xs) = x + sum_of xs

unfoldable pub sum_ofℤ : List ℤ → ℤ
sum_ofℤ [] = pos 0
sum_ofℤ (x ∷ xs) = x +ℤ sum_ofℤ xs

-- The least of b and the values of f over a list; the least number of a list, 0 where there is none.
unfoldable pub least {ℓ} : {A : Type ℓ} → ℕ → (A → ℕ) → List A → ℕ
least b f [] = b
least b f (x ∷ xs) = min (f x) (least b f xs)

unfoldable pub minimum : List ℕ → ℕ
unfolding least
minimum [] = 0
minimum (x ∷ xs) = least x (λ y. y) xs

-- The first element of least value: of x, the best so far, and a list, where an element replaces those before it only if its value is
-- less; and of a list, d where there is none.
unfoldable pub argmin_from {ℓ} : {A : Type ℓ} → (A → ℕ) → A → List A → A
argmin_from f x [] = x
argmin_from f x (y ∷ ys) = argmin_from f (cond (ltb (f y) (f x)) y x) ys

unfoldable pub argmin {ℓ} : {A : Type ℓ} → (A → ℕ) → A → List A → A
unfolding argmin_from
argmin f d [] = d
argmin f d (x ∷ xs) = argmin_from f x xs

-- The lesser and the greater of two integers, and the least integer of a list, 0 where there is none.
unfoldable pub minℤ : ℤ → ℤ → ℤ
minℤ a b = cond (le_z a b) a b

unfoldable pub maxℤ : ℤ → ℤ → ℤ
maxℤ a b = cond (le_z a b) b a

unfoldable pub minimumℤ : List ℤ → ℤ
unfolding minℤ
minimumℤ [] = pos 0
minimumℤ (x ∷ []) = x
minimumℤ (x ∷ y ∷ ys) = minℤ x (minimumℤ (y ∷ ys))

-- 1 where the two numbers are equal, else 0; how often a number occurs in a list.
unfoldable pub delta : ℕ → ℕ → ℕ
delta i j = cond (eqb i j) 1 0

unfoldable pub occurrences : ℕ → List ℕ → ℕ
unfolding delta
occurrences i [] = 0
occurrences i (x ∷ xs) = delta i x + occurrences i xs

-- Whether a number occurs in a list; the numbers of a list, each once.
unfoldable pub occurs : ℕ → List ℕ → Bool
unfolding any_of
occurs x xs = any_of (eqb x) xs

unfoldable pub distinct : List ℕ → List ℕ
unfolding occurs
distinct [] = []
distinct (x ∷ xs) = cond (occurs x xs) (distinct xs) (x ∷ distinct xs)

-- One element of each list, in every way, ascending by the choice from the first list, then from the second, and so on.
unfoldable pub choices {ℓ} : {A : Type ℓ} → List (List A) → List (List A)
unfolding flat_map
choices [] = [] ∷ []
choices (c ∷ cs) = flat_map (λ x. map (λ xs. x ∷ xs) (choices cs)) c

-- An element and the list without it, in every way.
unfoldable pub picks : List ℕ → List (ℕ × List ℕ)
picks [] = []
picks (y ∷ ys) = (y, ys) ∷ map (λ r. (r.0, y ∷ r.1)) (picks ys)

-- f, applied n times.
unfoldable pub iterate : ℕ → (ℕ → ℕ) → ℕ → ℕ
iterate zero f x = x
iterate (suc n) f x = iterate n f (f x)
