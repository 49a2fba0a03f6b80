-- The first number below n that passes a test.
use Rattle.std.specs.Prelude.{◌≡◌, refl, Bool, not, ℕ, zero, suc, ◌+◌, ◌≤◌, ◌<◌, T}
use Rattle.std.proofs.Common.{ap, subst, zero-add, arith, T_not}
use Rattle.std.proofs.Math.Path.{subst⁻¹}
use Rattle.std.proofs.Math.Decide.{dec_le}
use Rattle.postman.specs.Lists.{below, up_from, first_index}
use Rattle.postman.specs.Laws.Tests.{cond_ind}

-- from a on
from_none : (f : ℕ → Bool) (a n : ℕ) → ((k : ℕ) → a ≤ k → k < a + n → T (not (f k))) → first_index f (up_from a n) ≡ n
unfolding first_index up_from
from_none f a zero h = refl
from_none f a (suc n) h =
    let r = from_none f (suc a) n (λ k l m. h k (omega arith) (omega arith)) in
    cond_ind (f a) 0 (suc (first_index f (up_from (suc a) n))) (λ z. z ≡ suc n)
    (λ u. absurd (T_not (f a) (h a (omega arith) (omega arith)) u)) (λ u. ap suc r)

from_at : (f : ℕ → Bool) (a n q : ℕ) → q < n → T (f (a + q)) → ((k : ℕ) → a ≤ k → k < a + q → T (not (f k)))
    → first_index f (up_from a n) ≡ q
unfolding first_index up_from
from_at f a zero q l t h = absurd (omega arith)
from_at f a (suc n) zero l t h =
    let e : a + 0 ≡ a = omega arith in
    cond_ind (f a) 0 (suc (first_index f (up_from (suc a) n))) (λ z. z ≡ 0) (λ u. refl)
    (λ u. absurd (T_not (f a) u (subst (λ z. T (f z)) e t)))
from_at f a (suc n) (suc q) l t h =
    let e : a + suc q ≡ suc a + q = omega arith in
    let r = from_at f (suc a) n q (omega arith) (subst (λ z. T (f z)) e t) (λ k m o. h k (omega arith) (omega arith)) in
    cond_ind (f a) 0 (suc (first_index f (up_from (suc a) n))) (λ z. z ≡ suc q)
    (λ u. absurd (T_not (f a) (h a (omega arith) (omega arith)) u)) (λ u. ap suc r)

from_le : (f : ℕ → Bool) (a n : ℕ) → first_index f (up_from a n) ≤ n
unfolding first_index up_from
from_le f a zero = omega arith
from_le f a (suc n) =
    let r = from_le f (suc a) n in
    cond_ind (f a) 0 (suc (first_index f (up_from (suc a) n))) (λ z. z ≤ suc n) (λ u. omega arith) (λ u. omega arith)

from_test : (f : ℕ → Bool) (a n : ℕ) → first_index f (up_from a n) < n → T (f (a + first_index f (up_from a n)))
unfolding first_index up_from
from_test f a zero = λ l. absurd (omega arith)
from_test f a (suc n) =
    let r = from_test f (suc a) n in
    let x = first_index f (up_from (suc a) n) in
    cond_ind (f a) 0 (suc x) (λ z. z < suc n → T (f (a + z)))
    (λ t l. let e : a ≡ a + 0 = omega arith in subst (λ z. T (f z)) e t)
    (λ t l. let e : suc a + x ≡ a + suc x = omega arith in subst (λ z. T (f z)) e (r (omega arith)))

from_fails : (f : ℕ → Bool) (a n k : ℕ) → a ≤ k → k < a + first_index f (up_from a n) → T (not (f k))
unfolding first_index up_from
from_fails f a zero k l = λ m. absurd (omega arith)
from_fails f a (suc n) k l =
    let r = from_fails f (suc a) n k in
    let x = first_index f (up_from (suc a) n) in
    cond_ind (f a) 0 (suc x) (λ z. k < a + z → T (not (f k)))
    (λ t m. absurd (omega arith))
    (λ t m. elim (dec_le (suc a) k) [ yes g ↦ r g (omega arith) | no g ↦ (let e : a ≡ k = omega arith in subst (λ z. T (not (f z))) e t) ])

pub first_le : (f : ℕ → Bool) (n : ℕ) → first_index f (below n) ≤ n
unfolding below
first_le f n = from_le f 0 n

pub first_none : (f : ℕ → Bool) (n : ℕ) → ((k : ℕ) → k < n → T (not (f k))) → first_index f (below n) ≡ n
unfolding below
first_none f n h = from_none f 0 n (λ k l m. h k (omega arith))

pub first_at : (f : ℕ → Bool) (n q : ℕ) → q < n → T (f q) → ((k : ℕ) → k < q → T (not (f k))) → first_index f (below n) ≡ q
unfolding below
first_at f n q l t h = from_at f 0 n q l (subst⁻¹ (λ z. T (f z)) (zero-add q) t) (λ k m o. h k (omega arith))

pub first_test : (f : ℕ → Bool) (n : ℕ) → first_index f (below n) < n → T (f (first_index f (below n)))
unfolding below
first_test f n l = subst (λ z. T (f z)) (zero-add (first_index f (up_from 0 n))) (from_test f 0 n l)

pub first_fails : (f : ℕ → Bool) (n k : ℕ) → k < first_index f (below n) → T (not (f k))
unfolding below
first_fails f n k l = from_fails f 0 n k (omega arith) (omega arith)
