-- Bits and the numbers that they make. By induction on the width: a number of w + 1 bits is twice
-- that of its first w bits, and the last bit.
use Rattle.std.specs.Prelude.{◌≡◌, refl, List, [], ◌∷◌, ◌++◌, map, ℕ, zero, suc, ◌+◌, ◌*◌, ◌-◌, ◌/◌, ◌%◌, ◌^◌, ◌<◌, ◌≤◌, length, get_or}
use Rattle.std.proofs.Common.{sym, ap, ap₂, ◌∙◌, pow-suc, add-zero, zero-add, add-one, arith, lit<, shr-shr, length-append, get_or-append-add, ext_get_or}
use Rattle.std.proofs.Math.Nat.{zero-div}
use Rattle.std.proofs.Math.Decide.{ℕ_discrete}
use Rattle.std.proofs.lemmas.List.{length-map}
use Rattle.std.proofs.Math.ListN.{get_or-append, get_or-eq_default}
use Rattle.postman.specs.Lists.{up_from, below}
use Rattle.postman.specs.BitField.{bit_at, number, field_at, bits_of}
use Rattle.postman.specs.Laws.Membership.{length_up_from, get_d_map_up_from}
use Rattle.postman_laws.specs.Laws.Below.{get_d_map_below}

-- ---- numbers

pub number_lt : (b : ℕ → ℕ) (i w : ℕ) → ((j : ℕ) → j < w → b (i + j) < 2) → number b i w < 2 ^ w
unfolding number
number_lt b i zero h = lit< tt
number_lt b i (suc w) h = rw (pow-suc 2 w) (omega (arith, number_lt b i w (λ j l. h j (omega arith)), h w (omega arith)))

pub number_same : (b c : ℕ → ℕ) (i k w : ℕ) → ((j : ℕ) → j < w → b (i + j) ≡ c (k + j)) → number b i w ≡ number c k w
unfolding number
number_same b c i k zero h = refl
number_same b c i k (suc w) h = ap₂ (λ x y. x * 2 + y) (number_same b c i k w (λ j l. h j (omega arith))) (h w (omega arith))

pub number_zero : (b : ℕ → ℕ) (i w : ℕ) → number b i w ≡ 0 → (j : ℕ) → j < w → b (i + j) ≡ 0
unfolding number
number_zero b i zero e j l = absurd (omega arith)
number_zero b i (suc w) e j l = elim (ℕ_discrete j w) [
  | yes q ↦ rw q (omega arith)
  | no q ↦ number_zero b i w (omega arith) j (omega arith)
]

pub zero_number : (b : ℕ → ℕ) (i w : ℕ) → ((j : ℕ) → j < w → b (i + j) ≡ 0) → number b i w ≡ 0
unfolding number
zero_number b i zero h = refl
zero_number b i (suc w) h = omega (arith, zero_number b i w (λ j l. h j (omega arith)), h w (omega arith))

-- a half's bits
half_bits : (x w j : ℕ) → j < w → x / 2 / 2 ^ (w - 1 - j) ≡ x / 2 ^ (w - j)
half_bits x w j l =
    let e : 1 + (w - 1 - j) ≡ w - j = omega arith in
    rw (← e) (shr-shr x 1 (w - 1 - j))

-- the bits of the number that bits make
pub bits_of_number : (b : ℕ → ℕ) (i w : ℕ) → ((j : ℕ) → j < w → b (i + j) < 2) → (j : ℕ) → j < w
    → number b i w / 2 ^ (w - 1 - j) % 2 ≡ b (i + j)
unfolding number
bits_of_number b i zero h j l = absurd (omega arith)
bits_of_number b i (suc w) h j l =
    let last = h w (omega arith) in
    elim (ℕ_discrete j w) [
      | yes q ↦ let e : suc w - 1 - w ≡ 0 = omega arith in rw (q, e) (omega arith)
      | no q ↦ let g : j < w = omega arith in
          let e : suc w - 1 - j ≡ w - j = omega arith in
          let d : (number b i w * 2 + b (i + w)) / 2 ≡ number b i w = omega arith in
          rw (e, ← half_bits (number b i w * 2 + b (i + w)) w j g, d) (bits_of_number b i w (λ k f. h k (omega arith)) j g)
    ]

-- the number that its own bits make
pub number_of_bits : (b : ℕ → ℕ) (i w x : ℕ) → x < 2 ^ w → ((j : ℕ) → j < w → b (i + j) ≡ x / 2 ^ (w - 1 - j) % 2) → number b i w ≡ x
unfolding number
number_of_bits b i zero x l h = omega arith
number_of_bits b i (suc w) x l h =
    let p = pow-suc 2 w in
    let e : suc w - 1 - w ≡ 0 = omega arith in
    let last : b (i + w) ≡ x / 2 ^ 0 % 2 = rw e at (h w (omega arith)) in
    let half = number_of_bits b i w (x / 2) (omega arith)
    (λ j g. (let f : suc w - 1 - j ≡ w - j = omega arith in rw (half_bits x w j g, ← f) (h j (omega arith)))) in
    omega arith

-- ---- bits of bytes

pub bit_lt : (bytes : List ℕ) (i : ℕ) → bit_at bytes i < 2
unfolding bit_at
bit_lt bytes i = omega arith

pub field_lt : (bytes : List ℕ) (i w : ℕ) → field_at bytes i w < 2 ^ w
unfolding field_at
field_lt bytes i w = number_lt (bit_at bytes) i w (λ j l. bit_lt bytes (i + j))

-- one bit more, as a loop counts
pub field_more : (bytes : List ℕ) (i w : ℕ) → field_at bytes i (w + 1) ≡ field_at bytes i w * 2 + bit_at bytes (i + w)
unfolding field_at number
field_more bytes i w = rw add-one

pub field_zero : (bytes : List ℕ) (i w : ℕ) → field_at bytes i w ≡ 0 → (j : ℕ) → j < w → bit_at bytes (i + j) ≡ 0
unfolding field_at
field_zero bytes i w = number_zero (bit_at bytes) i w

-- past the last byte
pub bit_out : (bytes : List ℕ) (i : ℕ) → 8 * length bytes ≤ i → bit_at bytes i ≡ 0
unfolding bit_at
bit_out bytes i h =
    let l : length bytes ≤ i / 8 = omega arith in
    rw (get_or-eq_default bytes 0 l, zero-div)

-- bit j of byte k
pub bit_of_byte : (bytes : List ℕ) (k j : ℕ) → j < 8 → bit_at bytes (8 * k + j) ≡ get_or bytes k 0 / 2 ^ (7 - j) % 2
unfolding bit_at
bit_of_byte bytes k j l =
    let e : (8 * k + j) / 8 ≡ k = omega arith in
    let f : (8 * k + j) % 8 ≡ j = omega arith in
    rw (e, f)

pub byte_of_bits : (bytes : List ℕ) (k : ℕ) → get_or bytes k 0 < 256 → number (bit_at bytes) (8 * k) 8 ≡ get_or bytes k 0
byte_of_bits bytes k h = number_of_bits (bit_at bytes) (8 * k) 8 (get_or bytes k 0) h (bit_of_byte bytes k)

-- bits packed into n bytes
pub packed_bit : (b : ℕ → ℕ) (n : ℕ) → ((k : ℕ) → b k < 2) → (i : ℕ) → i < 8 * n → bit_at (map (λ q. number b (8 * q) 8) (below n)) i ≡ b i
packed_bit b n small i l =
    let bytes = map (λ q. number b (8 * q) 8) (below n) in
    let k = i / 8 in
    let j = i % 8 in
    let e : 8 * k + j ≡ i = omega arith in
    let g : j < 8 = omega arith in
    let byte = get_d_map_below (λ q. number b (8 * q) 8) n k 0 (omega arith) in
    ap (bit_at bytes) (sym e) ∙ bit_of_byte bytes k j g ∙ ap (λ x. x / 2 ^ (7 - j) % 2) byte
    ∙ bits_of_number b (8 * k) 8 (λ h f. small (8 * k + h)) j g ∙ ap b e

-- ---- the bits of a number, as a list

pub length_bits_of : (w x : ℕ) → length (bits_of w x) ≡ w
unfolding bits_of
length_bits_of zero x = refl
length_bits_of (suc w) x = ap suc (length_bits_of w x)

pub get_d_bits_of : (w x j : ℕ) → j < w → get_or (bits_of w x) j 0 ≡ x / 2 ^ (w - 1 - j) % 2
unfolding bits_of
get_d_bits_of zero x j l = absurd (omega arith)
get_d_bits_of (suc w) x zero l = let e : suc w - 1 - 0 ≡ w = omega arith in rw e
get_d_bits_of (suc w) x (suc j) l = let e : suc w - 1 - suc j ≡ w - 1 - j = omega arith in rw e (get_d_bits_of w x j (omega arith))

pub bits_of_lt : (w x j : ℕ) → get_or (bits_of w x) j 0 < 2
unfolding bits_of
bits_of_lt zero x j = lit< tt
bits_of_lt (suc w) x zero = omega arith
bits_of_lt (suc w) x (suc j) = bits_of_lt w x j

-- the w bits from place i on
unfoldable pub run : (ℕ → ℕ) → ℕ → ℕ → List ℕ
unfolding up_from
run b i w = map b (up_from i w)

pub run_zero : (b : ℕ → ℕ) (i : ℕ) → run b i 0 ≡ []
unfolding run
run_zero b i = refl

pub length_run : (b : ℕ → ℕ) (i w : ℕ) → length (run b i w) ≡ w
unfolding run
length_run b i w = length-map (up_from i w) b ∙ length_up_from i w

pub get_d_run : (b : ℕ → ℕ) (i w j : ℕ) → j < w → get_or (run b i w) j 0 ≡ b (i + j)
unfolding run
get_d_run b i w j l = get_d_map_up_from b i w j 0 l

-- the bits of the number that a run makes are the run
pub bits_of_numbers : (b : ℕ → ℕ) (i w : ℕ) → ((k : ℕ) → b k < 2) → bits_of w (number b i w) ≡ run b i w
bits_of_numbers b i w small =
    ext_get_or 0 (bits_of w x) (run b i w) (length_bits_of w x ∙ sym (length_run b i w)) (λ j l. at j (rw length_bits_of at l))
  where
    x : ℕ
    x = number b i w

    at : (j : ℕ) → j < w → get_or (bits_of w x) j 0 ≡ get_or (run b i w) j 0
    at j l = get_d_bits_of w x j l ∙ bits_of_number b i w (λ k f. small (i + k)) j l ∙ sym (get_d_run b i w j l)

-- a run goes on where another ends
pub run_append : (b : ℕ → ℕ) (i w v : ℕ) → run b i w ++ run b (i + w) v ≡ run b i (w + v)
unfolding run
run_append b i zero v = simp (add-zero, zero-add)
run_append b i (suc w) v =
    let e : i + suc w ≡ suc i + w = omega arith in
    let f : suc w + v ≡ suc (w + v) = omega arith in
    rw (e, f) (ap (λ l. b i ∷ l) (run_append b (suc i) w v))

-- ---- reading from a list of bits

-- bit i of a list of bits; past them, 0
abbrev pub bit_in : List ℕ → ℕ → ℕ
bit_in bits i = get_or bits i 0

pub read_left : (l r : List ℕ) (i w : ℕ) → i + w ≤ length l → number (bit_in (l ++ r)) i w ≡ number (bit_in l) i w
read_left l r i w h = number_same (bit_in (l ++ r)) (bit_in l) i i w (λ j g. get_or-append l r 0 (i + j) (omega arith))

pub read_right : (l r : List ℕ) (i w : ℕ) → number (bit_in (l ++ r)) (length l + i) w ≡ number (bit_in r) i w
read_right l r i w =
    number_same (bit_in (l ++ r)) (bit_in r) (length l + i) i w
    (λ j g. (let e : length l + i + j ≡ length l + (i + j) = omega arith in rw e (get_or-append-add l r (i + j) 0)))

pub append_lt : (l r : List ℕ) → ((k : ℕ) → bit_in l k < 2) → ((k : ℕ) → bit_in r k < 2) → (k : ℕ) → bit_in (l ++ r) k < 2
append_lt [] r f g k = g k
append_lt (x ∷ l) r f g zero = f 0
append_lt (x ∷ l) r f g (suc k) = append_lt l r (λ j. f (suc j)) g k

-- the field that stands after `before`, and before `after`
pub read_last : (before : List ℕ) {i : ℕ} (w x : ℕ) → length before ≡ i → x < 2 ^ w → number (bit_in (before ++ bits_of w x)) i w ≡ x
read_last before w x e l =
    number_of_bits (bit_in (before ++ bits_of w x)) _ w x l (λ j g. rw (← e) (get_or-append-add before (bits_of w x) j 0
    ∙ get_d_bits_of w x j g))

pub read_back : (before after : List ℕ) {i : ℕ} (w x : ℕ) → length before ≡ i → x < 2 ^ w
    → number (bit_in (before ++ bits_of w x ++ after)) i w ≡ x
read_back before after {i} w x e l =
    let f = length-append before (bits_of w x) in
    let g = length_bits_of w x in
    read_left (before ++ bits_of w x) after i w (omega arith) ∙ read_last before w x e l

-- three fields, and the bits after them
module _ (u v w x y z : ℕ) where
  abbrev pub three : List ℕ
  three = bits_of u x ++ bits_of v y ++ bits_of w z

  pub length_three : length three ≡ u + v + w
  length_three = simp (length-append, length_bits_of)

module _ (u v w x y z : ℕ) (after : List ℕ) where
  pub three_lt : ((k : ℕ) → bit_in after k < 2) → (k : ℕ) → bit_in (three u v w x y z ++ after) k < 2
  three_lt =
      append_lt (three u v w x y z) after
      (append_lt (bits_of u x ++ bits_of v y) (bits_of w z) (append_lt (bits_of u x) (bits_of v y) (bits_of_lt u x) (bits_of_lt v y))
      (bits_of_lt w z))

  pub read_first : x < 2 ^ u → number (bit_in (three u v w x y z ++ after)) 0 u ≡ x
  read_first h =
      read_left (three u v w x y z) after 0 u (rw length_three (omega arith))
      ∙ read_left (bits_of u x ++ bits_of v y) (bits_of w z) 0 u (simp (length-append, length_bits_of) (omega arith))
      ∙ read_back [] (bits_of v y) u x refl h

  pub read_second : y < 2 ^ v → number (bit_in (three u v w x y z ++ after)) u v ≡ y
  read_second h =
      read_left (three u v w x y z) after u v (rw length_three (omega arith))
      ∙ read_back (bits_of u x) (bits_of w z) v y (length_bits_of u x) h

  pub read_third : z < 2 ^ w → number (bit_in (three u v w x y z ++ after)) (u + v) w ≡ z
  read_third h = read_back (bits_of u x ++ bits_of v y) after w z (simp (length-append, length_bits_of)) h

  pub read_after : (i s : ℕ) → number (bit_in (three u v w x y z ++ after)) (u + v + w + i) s ≡ number (bit_in after) i s
  read_after i s = rw length_three at (read_right (three u v w x y z) after i s)
