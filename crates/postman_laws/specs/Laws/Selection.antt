-- Selections of a list: their order, one after another, and the place of an element among those of
-- numbers in a row. By induction on the list.
use Rattle.std.specs.Prelude.{◌≡◌, Bool, ◌&&◌}
use Rattle.std.proofs.Math.Path.{refl, ap}
use Rattle.std.proofs.Common.{◌∙◌, zero-add}
use Rattle.std.proofs.Math.Bool.{true, false, cond}
use mathlib.Core.List.{List, [], ◌∷◌, ◌++◌, append-nil, Memᴰ}
use Prim.Native.Nat.{ℕ, zero, suc, ◌+◌, ◌-◌, ◌≤◌, ◌<◌}
use native.Mathlib.Omega.{arith}
use Rattle.std.proofs.Math.ListN.{length, get_or, length-append}
use Rattle.std.proofs.Math.Seq.{get_or-append_seam}
use Rattle.postman.specs.Lists.{select, below, up_from}
use Rattle.postman.specs.Laws.Tests.{cond_ind}
use Rattle.postman.specs.Laws.Membership.{up_from_mem}

module _ {A : Type 0} where
  pub select_append : (f : A → Bool) (xs ys : List A) → select f (xs ++ ys) ≡ select f xs ++ select f ys
  unfolding select
  select_append f [] ys = refl
  select_append f (x ∷ xs) ys = chosen (f x) x (select f (xs ++ ys)) (select f xs) (select f ys) (select_append f xs ys)
    where
      chosen : (b : Bool) (x : A) (l m n : List A) → l ≡ m ++ n → cond b (x ∷ l) l ≡ cond b (x ∷ m) m ++ n
      chosen true x l m n e = ap (λ (k : List A). x ∷ k) e
      chosen false x l m n e = e

  pub select_length : (f : A → Bool) (xs : List A) → length (select f xs) ≤ length xs
  unfolding select
  select_length f [] = omega arith
  select_length f (x ∷ xs) =
      let h = select_length f xs in
      cond_ind (f x) (x ∷ select f xs) (select f xs) (λ l. length l ≤ suc (length xs)) (λ t. omega arith) (λ t. omega arith)

  pub select_select : (f g : A → Bool) (xs : List A) → select f (select g xs) ≡ select (λ x. g x && f x) xs
  unfolding select
  select_select f g [] = refl
  select_select f g (x ∷ xs) = again (g x) (select_select f g xs)
    where
      again : (b : Bool) → select f (select g xs) ≡ select (λ x. g x && f x) xs
          → select f (cond b (x ∷ select g xs) (select g xs))
          ≡ cond (b && f x) (x ∷ select (λ x. g x && f x) xs) (select (λ x. g x && f x) xs)
      again true e = ap (λ (l : List A). cond (f x) (x ∷ l) l) e
      again false e = e

  pub select_none : (f : A → Bool) (xs : List A) → ((x : A) → Memᴰ x xs → f x ≡ false) → select f xs ≡ []
  unfolding select
  select_none f [] h = refl
  select_none f (x ∷ xs) h = rw (h x (Memᴰ.head refl)) (select_none f xs (λ y m. h y (Memᴰ.tail m)))

  pub select_all : (f : A → Bool) (xs : List A) → ((x : A) → Memᴰ x xs → f x ≡ true) → select f xs ≡ xs
  unfolding select
  select_all f [] h = refl
  select_all f (x ∷ xs) h = rw (h x (Memᴰ.head refl), select_all f xs (λ y m. h y (Memᴰ.tail m)))

pub up_from_append : (a m n : ℕ) → up_from a (m + n) ≡ up_from a m ++ up_from (a + m) n
unfolding up_from
up_from_append a zero n = let e : 0 + n ≡ n = omega arith in let g : a ≡ a + 0 = omega arith in ap (up_from a) e ∙ ap (λ x. up_from x n) g
up_from_append a (suc m) n =
    let e : suc m + n ≡ suc (m + n) = omega arith in
    let g : suc a + m ≡ a + suc m = omega arith in
    ap (up_from a) e ∙ ap (λ (l : List ℕ). a ∷ l) (up_from_append (suc a) m n ∙ ap (λ x. up_from (suc a) m ++ up_from x n) g)

-- the numbers below n, cut at v
pub below_split : (v n : ℕ) → v ≤ n → below n ≡ below v ++ up_from v (n - v)
unfolding below
below_split v n l = let e : n ≡ v + (n - v) = omega arith in
    ap (up_from 0) e ∙ up_from_append 0 v (n - v) ∙ ap (λ a. up_from 0 v ++ up_from a (n - v)) (zero-add v)

module _ (f : ℕ → Bool) where
  cut : (v n : ℕ) → v ≤ n → select f (below n) ≡ select f (below v) ++ select f (up_from v (n - v))
  cut v n l = ap (select f) (below_split v n l) ∙ select_append f (below v) (up_from v (n - v))

  -- one number more
  pub select_more : (v : ℕ) → length (select f (below (v + 1))) ≡ length (select f (below v)) + cond (f v) 1 0
  unfolding select up_from
  select_more v =
      let e : v + 1 - v ≡ 1 = omega arith in
      ap length (cut v (v + 1) (omega arith) ∙ ap (λ n. select f (below v) ++ select f (up_from v n)) e)
      ∙ length-append (select f (below v)) (cond (f v) (v ∷ []) []) ∙ ap (λ x. length (select f (below v)) + x) (size (f v))
    where
      size : (b : Bool) → length (cond b (v ∷ []) []) ≡ cond b 1 0
      size true = refl
      size false = refl

  -- those from n on do not count, where none passes
  pub select_past : (n m : ℕ) → n ≤ m → ((v : ℕ) → n ≤ v → v < m → f v ≡ false) → select f (below m) ≡ select f (below n)
  select_past n m l h =
      cut n m l ∙ ap (λ (r : List ℕ). select f (below n) ++ r)
      (select_none f (up_from n (m - n)) (λ v q. let b = up_from_mem n (m - n) q in h v b.0 (omega arith)))
      ∙ append-nil (select f (below n))

  -- the place of an element is how many are before it
  pub select_place : (v n : ℕ) → v < n → f v ≡ true
      → (length (select f (below v)) < length (select f (below n))) × (get_or (select f (below n)) (length (select f (below v))) 0 ≡ v)
  unfolding select up_from
  select_place v n l e =
      let g : n - v ≡ suc (n - suc v) = omega arith in
      let r : List ℕ = select f (up_from (suc v) (n - suc v)) in
      let s : select f (below n) ≡ select f (below v) ++ v ∷ r =
      cut v n (omega arith) ∙ ap (λ k. select f (below v) ++ select f (up_from v k)) g ∙ ap (λ b. select f (below v) ++ cond b (v ∷ r) r) e
      in
      let a = ap length s in
      let b = length-append (select f (below v)) (v ∷ r) in
      (omega arith, ap (λ (k : List ℕ). get_or k (length (select f (below v))) 0) s ∙ get_or-append_seam (select f (below v)) v r 0)
