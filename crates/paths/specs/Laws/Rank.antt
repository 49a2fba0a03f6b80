-- How many elements of a list pass a test: fewer where the test asks more and some element fails it. By induction on the list.
use Rattle.std.proofs.Common.{subst, arith, T_not}
use Rattle.std.specs.Prelude.{Bool, not, cond}
use mathlib.Core.List.{List, [], ◌∷◌, Memᴰ}
use Prim.Native.Nat.{suc, ◌≤◌, ◌<◌, zero-le}
use Rattle.std.proofs.Math.ListN.{length}
use Rattle.std.proofs.Math.Dec.{T}
use Rattle.postman.specs.Lists.{select}
use Rattle.postman.specs.Laws.Tests.{cond_ind}

module _ {A : Type 0} (f g : A → Bool) (implies : (x : A) → T (f x) → T (g x)) where
  select_le : (xs : List A) → length (select f xs) ≤ length (select g xs)
  unfolding select
  select_le [] = zero-le
  select_le (x ∷ xs) =
      let r = select_le xs in
      cond_ind (f x) (x ∷ select f xs) (select f xs) (λ l. length l ≤ length (cond (g x) (x ∷ select g xs) (select g xs)))
      (λ t. cond_ind (g x) (x ∷ select g xs) (select g xs) (λ l. suc (length (select f xs)) ≤ length l) (λ u. omega arith)
      (λ u. absurd (T_not (g x) u (implies x t))))
      (λ t. cond_ind (g x) (x ∷ select g xs) (select g xs) (λ l. length (select f xs) ≤ length l) (λ u. omega arith) (λ u. r))

  pub select_lt : {x : A} {xs : List A} → Memᴰ x xs → T (g x) → T (not (f x)) → length (select f xs) < length (select g xs)
  unfolding select
  select_lt {x} (Memᴰ.head {x = y} {xs = xs} e) t u =
      let r = select_le xs in
      cond_ind (f y) (y ∷ select f xs) (select f xs) (λ l. length l < length (cond (g y) (y ∷ select g xs) (select g xs)))
      (λ v. absurd (T_not (f y) (subst (λ z. T (not (f z))) e u) v))
      (λ v. cond_ind (g y) (y ∷ select g xs) (select g xs) (λ l. length (select f xs) < length l) (λ w. omega arith)
      (λ w. absurd (T_not (g y) w (subst (λ z. T (g z)) e t))))
  select_lt {x} (Memᴰ.tail {x = y} {xs = xs} m) t u =
      let r = select_lt m t u in
      cond_ind (f y) (y ∷ select f xs) (select f xs) (λ l. length l < length (cond (g y) (y ∷ select g xs) (select g xs)))
      (λ v. cond_ind (g y) (y ∷ select g xs) (select g xs) (λ l. suc (length (select f xs)) < length l) (λ w. omega arith)
      (λ w. absurd (T_not (g y) w (implies y v))))
      (λ v. cond_ind (g y) (y ∷ select g xs) (select g xs) (λ l. length (select f xs) < length l) (λ w. omega arith) (λ w. r))
