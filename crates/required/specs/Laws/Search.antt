-- What a search that counts up finds: a number that passes, or that none below the end does.
use Rattle.std.specs.Prelude.{◌≡◌, Bool, true, false, ◌||◌, ℕ, zero, suc, ◌<◌}
use mathlib.Core.List.{List, [], ◌∷◌, Memᴰ}
use Rattle.std.proofs.Math.Path.{refl, ap}
use Rattle.std.specs.List.{list_any, range_with_len}
use Rattle.std.proofs.Common.{T_not, ◌∙◌, add-one}
use Rattle.std.proofs.Math.Dec.{not_T}
use Rattle.postman.specs.Lists.{any_of, up_from, below}
use Rattle.postman.specs.Laws.Membership.{any_of_mem, any_of_at, mem_below, below_mem}
use Rattle.postman.specs.Laws.Tests.{is_true, of_not}

module _ {A : Type 0} (f : A → Bool) where
  pub any_some : {x : A} {xs : List A} → Memᴰ x xs → f x ≡ true → any_of f xs ≡ true
  any_some m e = is_true (any_of_mem f m (rw e tt))

  pub any_none : (xs : List A) → ((x : A) → Memᴰ x xs → f x ≡ false) → any_of f xs ≡ false
  any_none xs h = of_not (not_T (any_of f xs) (λ t. let r = any_of_at f xs t in T_not (f r.0) (rw (h r.0 r.1) tt) r.2))

module _ (f : ℕ → Bool) where
  pub some_below : (n k : ℕ) → k < n → f k ≡ true → any_of f (below n) ≡ true
  some_below n k l e = any_some f (mem_below l) e

  pub none_below : (n : ℕ) → ((k : ℕ) → k < n → f k ≡ false) → any_of f (below n) ≡ false
  none_below n h = any_none f (below n) (λ k m. h k (below_mem m))

-- and the same of a search by an iterator
list_any_of : {A : Type 0} (f : A → Bool) (xs : List A) → list_any f xs ≡ any_of f xs
unfolding any_of
list_any_of f [] = refl
list_any_of f (x ∷ xs) = ap (λ b. f x || b) (list_any_of f xs)

range_up : (a n : ℕ) → range_with_len a n ≡ up_from a n
unfolding up_from
range_up a zero = refl
range_up a (suc n) = ap (λ (xs : List ℕ). a ∷ xs) (ap (λ k. range_with_len k n) (add-one a) ∙ range_up (suc a) n)

pub any_counted : (f : ℕ → Bool) (n : ℕ) → list_any f (range_with_len 0 n) ≡ any_of f (below n)
unfolding below
any_counted f n = ap (list_any f) (range_up 0 n) ∙ list_any_of f (up_from 0 n)
