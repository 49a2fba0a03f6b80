-- A search that keeps the best so far finds the first element of least value; and it may pass over an element whose lower bound is no less
-- than the best so far. By induction on the elements left.
use Rattle.std.specs.Prelude.{◌≡◌, cond, ℕ, ◌≤◌, ◌<◌, min, length, take, ltb}
use Rattle.std.proofs.Math.Path.{refl, ap}
use Rattle.std.proofs.Common.{sym, ◌∙◌, ltb→lt, nltb→le}
use Rattle.std.proofs.Math.Logic.{inl, inr}
use mathlib.Core.List.Memᴰ
use mathlib.Core.List.{List, [], ◌∷◌, map, Memᴰ}
use native.Mathlib.Omega.{arith}
use Rattle.std.proofs.Math.ListN.{length-take}
use Rattle.postman.specs.Lists.{least, minimum, argmin_from, argmin}
use Rattle.postman.specs.Plan.{Plan}
use Rattle.postman.specs.Link.{Link}
use Rattle.postman.specs.Arborescence.{arborescences, arborescence_count}
use Rattle.postman.specs.Balancing.{completion_cost}
use Rattle.postman.specs.PlanCall.{tried_count, best_cost, best_arborescence}
use Rattle.postman.specs.Laws.Tests.{cond_ind}
use Rattle.postman_laws.specs.Laws.Minimum.{least_map}

module _ {A : Type 0} (f : A → ℕ) where
  -- the element that is kept of the best so far and the next
  abbrev pub better : A → A → A
  better x y = cond (ltb (f y) (f x)) y x

  better_value : (x y : A) → f (better x y) ≡ min (f y) (f x)
  better_value x y =
      cond_ind (ltb (f y) (f x)) y x (λ w. f w ≡ min (f y) (f x)) (λ t. (let l = ltb→lt (f y) (f x) t in omega arith))
      (λ t. (let l = nltb→le (f y) (f x) t in omega arith))

  least_base : (a b : ℕ) (xs : List A) → least (min a b) f xs ≡ min a (least b f xs)
  unfolding least
  least_base a b [] = refl
  least_base a b (x ∷ xs) = let h = least_base a b xs in omega arith

  -- its value is the least
  pub argmin_from_value : (x : A) (xs : List A) → f (argmin_from f x xs) ≡ least (f x) f xs
  unfolding argmin_from least
  argmin_from_value x [] = refl
  argmin_from_value x (y ∷ ys) =
      argmin_from_value (better x y) ys ∙ ap (λ n. least n f ys) (better_value x y) ∙ least_base (f y) (f x) ys

  pub argmin_from_mem : (x : A) (xs : List A) → Memᴰ (argmin_from f x xs) (x ∷ xs)
  unfolding argmin_from
  argmin_from_mem x [] = Memᴰ.head refl
  argmin_from_mem x (y ∷ ys) =
      elim (Memᴰ.cases_cons (argmin_from_mem (better x y) ys)) [
        | inl e ↦ cond_ind (ltb (f y) (f x)) y x
            (λ w. argmin_from f (better x y) ys ≡ w → Memᴰ (argmin_from f (better x y) ys) (x ∷ y ∷ ys))
            (λ t q. Memᴰ.tail (Memᴰ.head q)) (λ t q. Memᴰ.head q) e
        | inr m ↦ Memᴰ.tail (Memᴰ.tail m)
      ]

-- ---- the arborescence of least completion cost among those tried

argmin_mem : {A : Type 0} (f : A → ℕ) (d : A) (xs : List A) → 0 < length xs → Memᴰ (argmin f d xs) xs
unfolding argmin
argmin_mem f d [] h = absurd (omega arith)
argmin_mem f d (x ∷ xs) h = argmin_from_mem f x xs

argmin_value : {A : Type 0} (f : A → ℕ) (d : A) (xs : List A) → 0 < length xs → f (argmin f d xs) ≡ minimum (map f xs)
unfolding argmin minimum
argmin_value f d [] h = absurd (omega arith)
argmin_value f d (x ∷ xs) h = argmin_from_value f x xs ∙ sym (least_map (f x) (λ n. n) f xs)

module _ (p : Plan) (budget : ℕ) (some : 1 ≤ budget) (count : 0 < arborescence_count p) where
  abbrev tried : List (List Link)
  tried = take (tried_count p budget) (arborescences p)

  some_tried : 0 < length tried
  unfolding tried_count arborescence_count
  some_tried = let n = length-take (tried_count p budget) (arborescences p) in omega arith

  pub best_mem : Memᴰ (best_arborescence p budget) tried
  unfolding best_arborescence
  best_mem = argmin_mem (completion_cost p) [] tried some_tried

  pub best_value : completion_cost p (best_arborescence p budget) ≡ best_cost p budget
  unfolding best_arborescence best_cost
  best_value = argmin_value (completion_cost p) [] tried some_tried
