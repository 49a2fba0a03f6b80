-- Sets of components as numbers: x is in the set s where bit x of s is 1. What `&`, `|` and
-- single bits do to a set, by induction on the bit.
use Rattle.std.specs.Prelude.{◌≡◌, refl, ◌⊎◌, ◌≢◌, ℕ, zero, suc, ◌-◌, ◌*◌, ◌/◌, ◌%◌, ◌^◌, ◌≤◌, ◌<◌, min, max}
use Rattle.std.proofs.Common.{sym, ap, ◌∙◌, inl, inr, pow-suc, mod-eq_of_lt, arith, pow_pos}
use Rattle.std.proofs.Math.Decide.{ℕ_discrete}
use Rattle.std.specs.Int.Bits.{bit_and, bit_or, and_step, or_step}
use Rattle.std.proofs.Math.Pow.{pow-lt}

unfoldable pub bit : ℕ → ℕ → ℕ
bit s zero = s % 2
bit s (suc x) = bit (s / 2) x

-- x is in s
abbrev pub Has : ℕ → ℕ → Type 0
Has s x = bit s x ≡ 1

pub bit_le : (s x : ℕ) → bit s x ≤ 1
unfolding bit
bit_le s zero = omega arith
bit_le s (suc x) = bit_le (s / 2) x

pub has? : (s x : ℕ) → Has s x ⊎ (bit s x ≡ 0)
has? s x = elim (ℕ_discrete (bit s x) 1) [ yes e ↦ inl e | no n ↦ let h = bit_le s x in inr (omega arith) ]

and_half : (a b : ℕ) → bit_and a b / 2 ≡ bit_and (a / 2) (b / 2)
and_half a b = let h = and_step a b in omega arith

or_half : (a b : ℕ) → bit_or a b / 2 ≡ bit_or (a / 2) (b / 2)
or_half a b = let h = or_step a b in omega arith

pub bit_and_lem : (a b x : ℕ) → bit (bit_and a b) x ≡ min (bit a x) (bit b x)
unfolding bit
bit_and_lem a b zero = let h = and_step a b in omega arith
bit_and_lem a b (suc x) = ap (λ s. bit s x) (and_half a b) ∙ bit_and_lem (a / 2) (b / 2) x

pub bit_or_lem : (a b x : ℕ) → bit (bit_or a b) x ≡ max (bit a x) (bit b x)
unfolding bit
bit_or_lem a b zero = let h = or_step a b in omega arith
bit_or_lem a b (suc x) = ap (λ s. bit s x) (or_half a b) ∙ bit_or_lem (a / 2) (b / 2) x

pub bit_zero : (x : ℕ) → bit 0 x ≡ 0
unfolding bit
bit_zero zero = refl
bit_zero (suc x) = bit_zero x

-- ---- the set of one component

pub has_single : (i : ℕ) → Has (2 ^ i) i
unfolding bit
has_single zero = refl
has_single (suc i) = ap (λ s. bit s i) (half i) ∙ has_single i
  where
    half : (i : ℕ) → 2 ^ suc i / 2 ≡ 2 ^ i
    half i = let h = pow-suc 2 i in omega arith

pub single_has : (i x : ℕ) → Has (2 ^ i) x → x ≡ i
unfolding bit
single_has zero zero h = refl
single_has zero (suc x) h = let z = bit_zero x in absurd (omega arith)
single_has (suc i) zero h = let e = pow-suc 2 i in absurd (omega arith)
single_has (suc i) (suc x) h = ap suc (single_has i x (ap (λ s. bit s x) (sym half) ∙ h))
  where
    half : 2 ^ suc i / 2 ≡ 2 ^ i
    half = let h = pow-suc 2 i in omega arith

-- ---- sets that meet

some_within : (n s : ℕ) → s < n → s ≢ 0 → (x : ℕ) × Has s x
unfolding bit
some_within zero s l h = absurd (omega arith)
some_within (suc n) s l h = elim (ℕ_discrete (s % 2) 1) [
  | yes e ↦ (zero, e)
  | no o ↦ let r = some_within n (s / 2) (omega arith) (omega arith) in (suc r.0, r.1)
]

-- a set that is not empty has a member
pub some_member : (s : ℕ) → s ≢ 0 → (x : ℕ) × Has s x
some_member s h = some_within (suc s) s (omega arith) h

pub meet : (a b : ℕ) → bit_and a b ≢ 0 → (x : ℕ) × Has a x × Has b x
meet a b h =
    let r = some_member (bit_and a b) h in
    let x = r.0 in
    let e = bit_and_lem a b x in
    let g = r.1 in
    let la = bit_le a x in
    let lb = bit_le b x in
    (x, omega arith, omega arith)

pub meet_of : (a b x : ℕ) → Has a x → Has b x → bit_and a b ≢ 0
meet_of a b x ha hb e = let s = bit_and_lem a b x in let z = ap (λ c. bit c x) e ∙ bit_zero x in omega arith

-- ---- the set of all components below k

pub has_lt : (k s x : ℕ) → s < 2 ^ k → Has s x → x < k
unfolding bit
has_lt zero s zero l h = absurd (omega arith)
has_lt zero s (suc x) l h = let e : s / 2 ≡ 0 = omega arith in let z = ap (λ c. bit c x) e ∙ bit_zero x in absurd (omega arith)
has_lt (suc k) s zero l h = omega arith
has_lt (suc k) s (suc x) l h = let e = pow-suc 2 k in let r = has_lt k (s / 2) x (omega arith) h in omega arith

pub all_has : (k s : ℕ) → s < 2 ^ k → ((x : ℕ) → x < k → Has s x) → s ≡ 2 ^ k - 1
unfolding bit
all_has zero s l h = omega arith
all_has (suc k) s l h =
    let e = pow-suc 2 k in
    let r = all_has k (s / 2) (omega arith) (λ x g. h (suc x) (omega arith)) in
    let b = h 0 (omega arith) in
    omega arith

pub has_all : (k x : ℕ) → x < k → Has (2 ^ k - 1) x
unfolding bit
has_all zero x l = absurd (omega arith)
has_all (suc k) zero l = let e = pow-suc 2 k in let p = pow_pos k in omega arith
has_all (suc k) (suc x) l = ap (λ s. bit s x) half ∙ has_all k x (omega arith)
  where
    half : (2 ^ suc k - 1) / 2 ≡ 2 ^ k - 1
    half = let e = pow-suc 2 k in let p = pow_pos k in omega arith

-- a bit as the machine shifts it
pub shifted : (i : ℕ) → i < 64 → 1 * 2 ^ i % 18446744073709551616 ≡ 2 ^ i
shifted i l = let h = pow-lt l in let e : 1 * 2 ^ i ≡ 2 ^ i = omega arith in mod-eq_of_lt (rw e h) ∙ e
