-- Sums over vertices of terms that are 0 outside a list, and over 64 rows of 64; and sums over lists in another order.
use Rattle.std.specs.Prelude.{◌≡◌, refl, Bool, not, ℕ, zero, suc, ◌+◌, ◌*◌, ◌/◌, ◌%◌, ◌≤◌, T}
use Rattle.std.proofs.Common.{sym, ap, ap₂, ◌∙◌, arith}
use mathlib.Core.List.{List, [], ◌∷◌, map, Memᴰ}
use Rattle.postman.specs.Lists.{select, up_from, below, sum_of}
use Rattle.postman.specs.Balancing.{sum_over}
use Rattle.postman.specs.Laws.Tests.{cond_ind}
use Rattle.postman_laws.specs.Laws.Sum.{sum_append}
use Rattle.postman.specs.Steps.{Permutation, Pick, here, there, none, more}
use Rattle.postman_laws.specs.Laws.Selection.{up_from_append}

-- terms that fail the test are 0
pub sum_select : (f : ℕ → Bool) (vs : List ℕ) (g : ℕ → ℕ) → ((i : ℕ) → Memᴰ i vs → T (not (f i)) → g i ≡ 0)
    → sum_over (select f vs) g ≡ sum_over vs g
unfolding sum_over select
sum_select f [] g z = refl
sum_select f (v ∷ vs) g z =
    let r = sum_select f vs g (λ i m. z i (Memᴰ.tail m)) in
    cond_ind (f v) (v ∷ select f vs) (select f vs) (λ l. sum_over l g ≡ g v + sum_over vs g)
    (λ t. omega arith) (λ t. let e = z v (Memᴰ.head refl) t in omega arith)

-- ---- 64 rows of 64, one after the other

row_sum : (g : ℕ → ℕ → ℕ) (a b n : ℕ) → b + n ≤ 64 → sum_over (up_from (a * 64 + b) n) (λ x. g (x / 64) (x % 64)) ≡ sum_over (up_from b n)
    (g a)
unfolding sum_over up_from
row_sum g a b zero l = refl
row_sum g a b (suc n) l =
    let i : (a * 64 + b) / 64 ≡ a = omega arith in
    let j : (a * 64 + b) % 64 ≡ b = omega arith in
    let k : suc (a * 64 + b) ≡ a * 64 + suc b = omega arith in
    ap₂ ◌+◌ (ap₂ g i j) (ap (λ z. sum_over (up_from z n) (λ x. g (x / 64) (x % 64))) k ∙ row_sum g a (suc b) n (omega arith))

pub flat_sum : (g : ℕ → ℕ → ℕ) (a n : ℕ)
    → sum_over (up_from (a * 64) (n * 64)) (λ x. g (x / 64) (x % 64)) ≡ sum_over (up_from a n) (λ i. sum_over (below 64) (g i))
unfolding sum_over up_from below
flat_sum g a zero = refl
flat_sum g a (suc n) =
    let i : suc n * 64 ≡ 64 + n * 64 = omega arith in
    let j : a * 64 + 64 ≡ suc a * 64 = omega arith in
    let k : a * 64 ≡ a * 64 + 0 = omega arith in
    let f : ℕ → ℕ = λ x. g (x / 64) (x % 64) in
    ap (λ z. sum_over (up_from (a * 64) z) f) i
    ∙ ap (λ l. sum_over l f) (up_from_append (a * 64) 64 (n * 64))
    ∙ sum_append (up_from (a * 64) 64) (up_from (a * 64 + 64) (n * 64)) f
    ∙ ap₂ ◌+◌ (ap (λ z. sum_over (up_from z 64) f) k ∙ row_sum g a 0 64 (omega arith))
    (ap (λ z. sum_over (up_from z (n * 64)) f) j ∙ flat_sum g (suc a) n)

-- ---- sums over lists in another order

pick_sum : {A : Type 0} (f : A → ℕ) {x : A} {xs ys : List A} → Pick x xs ys → sum_of (map f xs) ≡ f x + sum_of (map f ys)
unfolding sum_of
pick_sum f (here {xs = xs} e) = ap (λ z. f z + sum_of (map f xs)) (sym e)
pick_sum f (there q) = let h = pick_sum f q in omega arith

pub permutation_sum : {A : Type 0} (f : A → ℕ) {xs ys : List A} → Permutation xs ys → sum_of (map f xs) ≡ sum_of (map f ys)
unfolding sum_of
permutation_sum f none = refl
permutation_sum f (more q s) = let h = permutation_sum f s in let k = pick_sum f q in omega arith
