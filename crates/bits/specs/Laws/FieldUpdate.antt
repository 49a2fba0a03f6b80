-- What putting a field changes, and what it leaves. Everything goes by single bits.
use Rattle.std.specs.Prelude.{◌≡◌, List, ◌⊎◌, set}
use Rattle.std.proofs.Math.Path.{refl, sym, ap}
use Rattle.std.proofs.Common.{◌∙◌, pow-suc, mod-lt, add-one, length-set, pow-add, pow_pos, shr-shr, get_or-set_same}
use Rattle.std.proofs.Math.Logic.{⊎_elim, inl, inr}
use Prim.Native.Nat.{ℕ, zero, suc, ◌+◌, ◌*◌, ◌-◌, ◌/◌, ◌%◌, ◌^◌, ◌<◌, ◌≤◌}
use Rattle.std.proofs.Math.Decide.{ℕ_discrete, dec_lt}
use native.Mathlib.Omega.{arith}
use Rattle.std.proofs.Math.Arith.{digits_lt}
use Rattle.std.proofs.Math.ListN.{length, get_or}
use Rattle.std.proofs.Math.Pow.{shr_lt, high, low, field, mod-mod-pow}
use Rattle.std.proofs.Math.Seq.{get_or-set_other}
use Rattle.postman.specs.BitField.{bit_at}
use Rattle.bits.specs.FieldUpdate.{with_bit, set_bit, put_bits, put_field}

-- ---- one byte

pub with_as : (x k b p : ℕ) → p ≡ 2 ^ k → (x / (p * 2) * 2 + b) * p + x % p ≡ with_bit x k b
unfolding with_bit
with_as x k b p e = rw (e, add-one, pow-suc 2 k)

module _ (x k b : ℕ) (hb : b < 2) where
  pub with_lt : x < 256 → k < 8 → with_bit x k b < 256
  unfolding with_bit
  with_lt hx hk =
      let e : (7 - k) + (k + 1) ≡ 8 = omega arith in
      let f : suc (7 - k) + k ≡ 8 = omega arith in
      let h : x / 2 ^ (k + 1) < 2 ^ (7 - k) = shr_lt (7 - k) (k + 1) (rw e hx) in
      let q : x / 2 ^ (k + 1) * 2 + b < 2 ^ (7 - k) * 2 = omega arith in
      let d = digits_lt q (mod-lt x (pow_pos k)) in
      let g : 2 ^ (7 - k) * 2 * 2 ^ k ≡ 256 =
      ap (λ (z : ℕ). z * 2 ^ k) (sym (pow-suc 2 (7 - k))) ∙ sym (pow-add 2 (suc (7 - k)) k) ∙ ap (λ (z : ℕ). 2 ^ z) f in
      rw g at d

  with_high : with_bit x k b / 2 ^ k ≡ x / 2 ^ (k + 1) * 2 + b
  unfolding with_bit
  with_high = high (x / 2 ^ (k + 1) * 2 + b) k (mod-lt x (pow_pos k))

  with_same : with_bit x k b / 2 ^ k % 2 ≡ b
  with_same = rw with_high (omega arith)

  with_above : (j : ℕ) → k < j → with_bit x k b / 2 ^ j ≡ x / 2 ^ j
  with_above j h =
      let d = j - (k + 1) in
      let e : k + (1 + d) ≡ j = omega arith in
      let f : (k + 1) + d ≡ j = omega arith in
      let two : (x / 2 ^ (k + 1) * 2 + b) / 2 ≡ x / 2 ^ (k + 1) = omega arith in
      ap (λ (z : ℕ). with_bit x k b / 2 ^ z) (sym e)
      ∙ sym (shr-shr (with_bit x k b) k (1 + d))
      ∙ ap (λ (z : ℕ). z / 2 ^ (1 + d)) with_high
      ∙ sym (shr-shr (x / 2 ^ (k + 1) * 2 + b) 1 d)
      ∙ ap (λ (z : ℕ). z / 2 ^ d) two
      ∙ shr-shr x (k + 1) d
      ∙ ap (λ (z : ℕ). x / 2 ^ z) f

  with_low : with_bit x k b % 2 ^ k ≡ x % 2 ^ k
  unfolding with_bit
  with_low = low (x / 2 ^ (k + 1) * 2 + b) k (mod-lt x (pow_pos k))

  with_below : (j : ℕ) → j < k → with_bit x k b / 2 ^ j % 2 ≡ x / 2 ^ j % 2
  with_below j h = sym (field (with_bit x k b) 1 j) ∙ ap (λ (z : ℕ). z / 2 ^ j) same ∙ field x 1 j
    where
      cut : (n : ℕ) → n % 2 ^ k % 2 ^ (1 + j) ≡ n % 2 ^ (1 + j)
      cut n = let e : (k - (1 + j)) + (1 + j) ≡ k = omega arith in rw e at (mod-mod-pow n (k - (1 + j)) (1 + j))

      same : with_bit x k b % 2 ^ (1 + j) ≡ x % 2 ^ (1 + j)
      same = sym (cut (with_bit x k b)) ∙ ap (λ (z : ℕ). z % 2 ^ (1 + j)) with_low ∙ cut x

-- ---- one bit of a list of bytes

module _ (l : List ℕ) (n b : ℕ) (hb : b < 2) where
  set_bit_same : n < 8 * length l → bit_at (set_bit l n b) n ≡ b
  unfolding bit_at set_bit
  set_bit_same h =
      let q : n / 8 < length l = omega arith in
      rw (get_or-set_same l (n / 8) (with_bit (get_or l (n / 8) 0) (7 - n % 8) b) 0 q) (with_same (get_or l (n / 8) 0) (7 - n % 8) b hb)

  set_bit_other : (m : ℕ) → n < 8 * length l → (m ≡ n → ⊥) → bit_at (set_bit l n b) m ≡ bit_at l m
  unfolding bit_at set_bit
  set_bit_other m h ne = at (ℕ_discrete (m / 8) (n / 8))
    where
      within
          : Dec (7 - m % 8 < 7 - n % 8)
          → m / 8 ≡ n / 8
          → with_bit (get_or l (n / 8) 0) (7 - n % 8) b / 2 ^ (7 - m % 8) % 2 ≡ get_or l (n / 8) 0 / 2 ^ (7 - m % 8) % 2
      within (yes lt) e = with_below (get_or l (n / 8) 0) (7 - n % 8) b hb (7 - m % 8) lt
      within (no ge) e =
          ap (λ (z : ℕ). z % 2) (with_above (get_or l (n / 8) 0) (7 - n % 8) b hb (7 - m % 8) (omega arith))

      at
          : Dec (m / 8 ≡ n / 8)
          → get_or (set l (n / 8) (with_bit (get_or l (n / 8) 0) (7 - n % 8) b)) (m / 8) 0 / 2 ^ (7 - m % 8) % 2
          ≡ get_or l (m / 8) 0 / 2 ^ (7 - m % 8) % 2
      at (yes e) =
          let q : n / 8 < length l = omega arith in
          rw (e, get_or-set_same l (n / 8) (with_bit (get_or l (n / 8) 0) (7 - n % 8) b) 0 q) (within (dec_lt (7 - m % 8) (7 - n % 8)) e)
      at (no e) = rw (get_or-set_other l (n / 8) (m / 8) (with_bit (get_or l (n / 8) 0) (7 - n % 8) b) 0 e)

length_set_bit : (l : List ℕ) (n b : ℕ) → length (set_bit l n b) ≡ length l
unfolding set_bit
length_set_bit l n b = length-set l (n / 8) (with_bit (get_or l (n / 8) 0) (7 - n % 8) b)

-- ---- a field of a list of bytes

pub length_put_bits : (l : List ℕ) (a w v n : ℕ) → length (put_bits l a w v n) ≡ length l
unfolding put_bits
length_put_bits l a w v zero = refl
length_put_bits l a w v (suc n) = length_set_bit (put_bits l a w v n) (a + n) (v / 2 ^ (w - 1 - n) % 2) ∙ length_put_bits l a w v n

module _ (l : List ℕ) (a w v : ℕ) where
  inside_upto : (n i : ℕ) → a + n ≤ 8 * length l → i < n → bit_at (put_bits l a w v n) (a + i) ≡ v / 2 ^ (w - 1 - i) % 2
  unfolding put_bits
  inside_upto zero i h l0 = absurd (omega arith)
  inside_upto (suc n) i h l0 = at (ℕ_discrete i n) (λ lt. inside_upto n i (omega arith) lt)
    where
      at
          : Dec (i ≡ n)
          → (i < n → bit_at (put_bits l a w v n) (a + i) ≡ v / 2 ^ (w - 1 - i) % 2)
          → bit_at (set_bit (put_bits l a w v n) (a + n) (v / 2 ^ (w - 1 - n) % 2)) (a + i) ≡ v / 2 ^ (w - 1 - i) % 2
      at (yes e) r =
          rw e (set_bit_same (put_bits l a w v n) (a + n) (v / 2 ^ (w - 1 - n) % 2) (omega arith)
          (omega (arith, length_put_bits l a w v n)))
      at (no e) r =
          set_bit_other (put_bits l a w v n) (a + n) (v / 2 ^ (w - 1 - n) % 2) (omega arith) (a + i)
          (omega (arith, length_put_bits l a w v n)) (λ q. omega arith)
          ∙ r (omega arith)

  outside_upto : (n m : ℕ) → a + n ≤ 8 * length l → (m < a) ⊎ (a + n ≤ m) → bit_at (put_bits l a w v n) m ≡ bit_at l m
  unfolding put_bits
  outside_upto zero m h o = refl
  outside_upto (suc n) m h o =
      set_bit_other (put_bits l a w v n) (a + n) (v / 2 ^ (w - 1 - n) % 2) (omega arith) m (omega (arith, length_put_bits l a w v n))
      (λ q. ⊎_elim (λ (x : m < a). omega arith) (λ (x : a + suc n ≤ m). omega arith) o)
      ∙ outside_upto n m (omega arith) (⊎_elim (λ (x : m < a). inl x) (λ (x : a + suc n ≤ m). inr (omega arith)) o)

  elsewhere_upto : (n j : ℕ) → a + n ≤ 8 * j → get_or (put_bits l a w v n) j 0 ≡ get_or l j 0
  unfolding put_bits set_bit
  elsewhere_upto zero j h = refl
  elsewhere_upto (suc n) j h = get_or-set_other (put_bits l a w v n) ((a + n) / 8) j _ 0 (λ e. omega arith)
      ∙ elsewhere_upto n j (omega arith)

  -- The length stays; the bits of the field are those of v; every other bit stays.
  pub length_put : length (put_field l a w v) ≡ length l
  unfolding put_field
  length_put = length_put_bits l a w v w

  pub put_inside : (i : ℕ) → a + w ≤ 8 * length l → i < w → bit_at (put_field l a w v) (a + i) ≡ v / 2 ^ (w - 1 - i) % 2
  unfolding put_field
  put_inside i h l0 = inside_upto w i h l0

  pub put_outside : (m : ℕ) → a + w ≤ 8 * length l → (m < a) ⊎ (a + w ≤ m) → bit_at (put_field l a w v) m ≡ bit_at l m
  unfolding put_field
  put_outside m h o = outside_upto w m h o

  -- The bytes after the field stay.
  pub put_elsewhere : (j : ℕ) → a + w ≤ 8 * j → get_or (put_field l a w v) j 0 ≡ get_or l j 0
  unfolding put_field
  put_elsewhere j h = elsewhere_upto w j h
