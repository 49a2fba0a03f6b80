-- Ascending lists, and the place of the first element that passes a test. By induction on the list.
use Rattle.std.specs.Prelude.{◌≡◌, refl, Bool, not, cond, ℕ, zero, suc, ◌≤◌, ◌<◌, length, get_or, T}
use Rattle.std.proofs.Common.{ap, ap₂, subst, le_refl, le_trans, arith, T_not}
use mathlib.Core.List.{List, [], ◌∷◌, Memᴰ}
use Rattle.postman.specs.Lists.{select, up_from, first_index}
use Rattle.postman.specs.Laws.Tests.{cond_ind}

-- the list ascends, from b or more on
abbrev pub Ascends : ℕ → List ℕ → Type 0
Ascends b [] = Unit {0}
Ascends b (x ∷ xs) = (b ≤ x) × Ascends (suc x) xs

ascends_weaken : (a b : ℕ) (xs : List ℕ) → a ≤ b → Ascends b xs → Ascends a xs
ascends_weaken a b [] l h = tt
ascends_weaken a b (x ∷ xs) l h = (le_trans l h.0, h.1)

pub ascends_up_from : (a n : ℕ) → Ascends a (up_from a n)
unfolding up_from
ascends_up_from a zero = tt
ascends_up_from a (suc n) = (le_refl a, ascends_up_from (suc a) n)

pub ascends_select : (f : ℕ → Bool) (b : ℕ) (xs : List ℕ) → Ascends b xs → Ascends b (select f xs)
unfolding select
ascends_select f b [] h = tt
ascends_select f b (x ∷ xs) h =
    let r = ascends_select f (suc x) xs h.1 in
    let l = h.0 in
    cond_ind (f x) (x ∷ select f xs) (select f xs) (Ascends b) (λ t. (l, r)) (λ t. ascends_weaken b (suc x) (select f xs) (omega arith) r)

pub ascends_at : (b : ℕ) (xs : List ℕ) (q : ℕ) → Ascends b xs → q < length xs → b ≤ get_or xs q 0
ascends_at b [] q h l = absurd (omega arith)
ascends_at b (x ∷ xs) zero h l = h.0
ascends_at b (x ∷ xs) (suc q) h l = let r = ascends_at (suc x) xs q h.1 (omega arith) in let k = h.0 in omega arith

pub ascends_lt : (b : ℕ) (xs : List ℕ) (q r : ℕ) → Ascends b xs → q < r → r < length xs → get_or xs q 0 < get_or xs r 0
ascends_lt b [] q r h k l = absurd (omega arith)
ascends_lt b (x ∷ xs) q zero h k l = absurd (omega arith)
ascends_lt b (x ∷ xs) zero (suc r) h k l = ascends_at (suc x) xs r h.1 (omega arith)
ascends_lt b (x ∷ xs) (suc q) (suc r) h k l = ascends_lt (suc x) xs q r h.1 (omega arith) (omega arith)

pub index_lt : (f : ℕ → Bool) {x : ℕ} {xs : List ℕ} → Memᴰ x xs → T (f x) → first_index f xs < length xs
unfolding first_index
index_lt f (Memᴰ.head {x = y} {xs = ys} e) t =
    cond_ind (f y) 0 (suc (first_index f ys)) (λ z. z < suc (length ys)) (λ u. omega arith)
    (λ u. absurd (T_not (f y) u (subst (λ z. T (f z)) e t)))
index_lt f (Memᴰ.tail {x = y} {xs = ys} m) t =
    let r = index_lt f m t in
    cond_ind (f y) 0 (suc (first_index f ys)) (λ z. z < suc (length ys)) (λ u. omega arith) (λ u. omega arith)

pub index_at : (f : ℕ → Bool) (xs : List ℕ) (q : ℕ) → q < length xs → T (f (get_or xs q 0))
    → ((r : ℕ) → r < q → T (not (f (get_or xs r 0))))
    → first_index f xs ≡ q
unfolding first_index
index_at f [] q l t h = absurd (omega arith)
index_at f (x ∷ xs) zero l t h = cond_ind (f x) 0 (suc (first_index f xs)) (λ z. z ≡ 0) (λ u. refl) (λ u. absurd (T_not (f x) u t))
index_at f (x ∷ xs) (suc q) l t h =
    let r = index_at f xs q (omega arith) t (λ r k. h (suc r) (omega arith)) in
    cond_ind (f x) 0 (suc (first_index f xs)) (λ z. z ≡ suc q) (λ u. absurd (T_not (f x) (h 0 (omega arith)) u)) (λ u. ap suc r)

pub index_cong : (f g : ℕ → Bool) (xs : List ℕ) → ((x : ℕ) → Memᴰ x xs → f x ≡ g x) → first_index f xs ≡ first_index g xs
unfolding first_index
index_cong f g [] h = refl
index_cong f g (x ∷ xs) h =
    ap₂ (λ (b : Bool) (n : ℕ). cond b 0 (suc n)) (h x (Memᴰ.head refl)) (index_cong f g xs (λ y m. h y (Memᴰ.tail m)))

-- the element in that place passes
pub index_test : (f : ℕ → Bool) (xs : List ℕ) → first_index f xs < length xs → T (f (get_or xs (first_index f xs) 0))
unfolding first_index
index_test f [] = λ l. absurd (omega arith)
index_test f (x ∷ xs) =
    let r = index_test f xs in
    cond_ind (f x) 0 (suc (first_index f xs)) (λ z. z < suc (length xs) → T (f (get_or (x ∷ xs) z 0))) (λ t l. t) (λ t l. r (omega arith))
