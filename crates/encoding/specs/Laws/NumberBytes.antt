-- Bytes that are put one after the other are put together, since each begins where the one before it ended; and what was put is read from
-- there, since what stands before it has that length.
use Rattle.std.specs.Prelude.{◌≡◌, refl, List, [], ◌∷◌, ◌++◌, ℕ, ◌+◌, ◌*◌, ◌/◌, ◌%◌, ◌^◌, ◌<◌, ◌≤◌, length, get_or, take, drop, set}
use Rattle.std.proofs.Common.{sym, ap, ap₂, ◌∙◌, append_assoc, div-add-mod', arith, length-append, take_at, drop_at, drop-drop, length-take-le}
use Rattle.std.proofs.Math.Seq.{drop-append-add, append_snoc}
use Rattle.std.proofs.lemmas.List.Edits.{sets-eq}
use Rattle.std.proofs.lemmas.List.{get_or_at, get_or-take, get_or-drop}
use Rattle.std.specs.Int.{w16, w32, w64, to_be_bytes, from_be_bytes}
use Rattle.encoding.specs.RecordBytes.{number_in}
use Rattle.encoding.specs.NumberBytes.{put_at, number_bytes, word_in, word_bytes, long_in, long_bytes}

pub length_word : (k : ℕ) → length (word_bytes k) ≡ 4
unfolding word_bytes
length_word k = refl

pub length_long : (k : ℕ) → length (long_bytes k) ≡ 8
unfolding long_bytes word_bytes
length_long k = refl

-- ---- the bytes of a number are those of the library, and its number is

pub number_is : (k : ℕ) → k < 2 ^ 16 → to_be_bytes w16 k ≡ number_bytes k
number_is k h = let high : k / 256 ^ 1 % 256 ≡ k / 256 = omega arith in ap (λ (x : ℕ). x ∷ k % 256 ∷ []) high

pub word_is : (k : ℕ) → k < 2 ^ 32 → to_be_bytes w32 k ≡ word_bytes k
unfolding word_bytes
word_is k h =
    let a : k / 256 ^ 3 % 256 ≡ k / 65536 / 256 = omega arith in
    let b : k / 256 ^ 2 % 256 ≡ k / 65536 % 256 = omega arith in
    let c : k / 256 ^ 1 % 256 ≡ k % 65536 / 256 = omega arith in
    let d : k % 256 ≡ k % 65536 % 256 = omega arith in
    λ j. a j ∷ b j ∷ c j ∷ d j ∷ []

pub long_is : (k : ℕ) → k < 2 ^ 64 → to_be_bytes w64 k ≡ long_bytes k
unfolding long_bytes word_bytes
long_is k h =
    let a : k / 256 ^ 7 % 256 ≡ k / 4294967296 / 65536 / 256 = omega arith in
    let b : k / 256 ^ 6 % 256 ≡ k / 4294967296 / 65536 % 256 = omega arith in
    let c : k / 256 ^ 5 % 256 ≡ k / 4294967296 % 65536 / 256 = omega arith in
    let d : k / 256 ^ 4 % 256 ≡ k / 4294967296 % 65536 % 256 = omega arith in
    let e : k / 256 ^ 3 % 256 ≡ k % 4294967296 / 65536 / 256 = omega arith in
    let f : k / 256 ^ 2 % 256 ≡ k % 4294967296 / 65536 % 256 = omega arith in
    let g : k / 256 ^ 1 % 256 ≡ k % 4294967296 % 65536 / 256 = omega arith in
    let i : k % 256 ≡ k % 4294967296 % 65536 % 256 = omega arith in
    λ j. a j ∷ b j ∷ c j ∷ d j ∷ e j ∷ f j ∷ g j ∷ i j ∷ []

-- what stands at a place of n bytes from byte i on
byte_from : (l : List ℕ) (i n j k : ℕ) → j < n → i + j ≡ k → get_or (take n (drop i l)) j 0 ≡ get_or l k 0
byte_from l i n j k h e = get_or-take n (drop i l) j 0 h ∙ get_or-drop i l j 0 ∙ ap (λ (m : ℕ). get_or l m 0) e

pub long_read : (l : List ℕ) (i : ℕ) → from_be_bytes w64 (take 8 (drop i l)) ≡ long_in l i
long_read l i =
    let a = byte_from l i 8 0 i (omega arith) (omega arith) in
    let b = byte_from l i 8 1 (i + 1) (omega arith) refl in
    let c = byte_from l i 8 2 (i + 2) (omega arith) refl in
    let d = byte_from l i 8 3 (i + 2 + 1) (omega arith) (omega arith) in
    let e = byte_from l i 8 4 (i + 4) (omega arith) refl in
    let f = byte_from l i 8 5 (i + 4 + 1) (omega arith) (omega arith) in
    let g = byte_from l i 8 6 (i + 4 + 2) (omega arith) (omega arith) in
    let h = byte_from l i 8 7 (i + 4 + 2 + 1) (omega arith) (omega arith) in
    omega arith

-- ---- bytes that are put

-- one store
pub put_byte : (l : List ℕ) (i x : ℕ) → i + 1 ≤ length l → set l i x ≡ put_at l i (x ∷ [])
unfolding put_at
put_byte l i x room = sets-eq (x ∷ []) l i room

-- one after the other
pub put_more : (l : List ℕ) (i : ℕ) (a : List ℕ) (j : ℕ) (b : List ℕ) → j ≡ i + length a → j + length b ≤ length l
    → put_at (put_at l i a) j b ≡ put_at l i (a ++ b)
unfolding put_at
put_more l i a j b e room =
    let t = take i l ++ a in
    let r = drop (i + length a) l in
    let size : length t ≡ j = length-append (take i l) a ∙ ap (λ (k : ℕ). k + length a) (length-take-le i l (omega arith)) ∙ sym e in
    let q : j + length b ≡ length t + length b = ap (λ (k : ℕ). k + length b) (sym size) in
    let c = length-append a b in
    let s : i + length a + length b ≡ i + length (a ++ b) = omega arith in
    ap₂ (λ (x y : List ℕ). x ++ b ++ y) (take_at t r j size)
    (ap (λ (k : ℕ). drop k (t ++ r)) q ∙ drop-append-add t r (length b) ∙ drop-drop (length b) (i + length a) l
    ∙ ap (λ (k : ℕ). drop k l) s)
    ∙ ap (λ (x : List ℕ). x ++ drop (i + length (a ++ b)) l) (append_assoc (take i l) a b)

pub put_next : (l : List ℕ) (i : ℕ) (a b : List ℕ) (n m : ℕ) → length a ≡ n → length b ≡ m → i + n + m ≤ length l → (x x' : List ℕ)
    → x ≡ put_at l i a → x' ≡ put_at x (i + n) b → x' ≡ put_at l i (a ++ b)
put_next l i a b n m e f h x x' p q =
    q ∙ ap (λ (y : List ℕ). put_at y (i + n) b) p ∙ put_more l i a (i + n) b (ap (λ (k : ℕ). i + k) (sym e)) (omega arith)

-- from the start
pub put_start : (l new : List ℕ) (n : ℕ) → length new ≡ n → put_at l 0 new ≡ new ++ drop n l
unfolding put_at
put_start l new n e = ap (λ (k : ℕ). new ++ drop k l) (let f : 0 + length new ≡ n = omega arith in f)

-- ---- bytes that are read

-- `new` is at byte i.
pub record IsAt (all : List ℕ) (i : ℕ) (new : List ℕ) : Type 0 where
  pub done : List ℕ
  pub rest : List ℕ
  pub size : length done ≡ i
  pub is : all ≡ done ++ new ++ rest

module _ {all : List ℕ} {i : ℕ} where
  pub first : (a b : List ℕ) → IsAt all i (a ++ b) → IsAt all i a
  first a b s = record {
    done = s.done;
    rest = b ++ s.rest;
    size = s.size;
    is = s.is ∙ ap (λ (x : List ℕ). x ++ s.rest) (sym (append_assoc s.done a b)) ∙ append_assoc (s.done ++ a) b s.rest;
  }

  pub second : (a b : List ℕ) (j : ℕ) → j ≡ i + length a → IsAt all i (a ++ b) → IsAt all j b
  second a b j e s = record {
    done = s.done ++ a;
    rest = s.rest;
    size = length-append s.done a ∙ ap (λ (k : ℕ). k + length a) s.size ∙ sym e;
    is = s.is ∙ ap (λ (x : List ℕ). x ++ s.rest) (sym (append_assoc s.done a b));
  }

  pub byte_back : (x : ℕ) → IsAt all i (x ∷ []) → get_or all i 0 ≡ x
  byte_back x s = ap (λ (l : List ℕ). get_or l i 0) (s.is ∙ append_snoc s.done x s.rest) ∙ get_or_at s.done x s.rest 0 i s.size

  pub bytes_back : (new : List ℕ) (n : ℕ) → length new ≡ n → IsAt all i new → take n (drop i all) ≡ new
  bytes_back new n e s =
      ap (λ (l : List ℕ). take n (drop i l)) (s.is ∙ append_assoc s.done new s.rest)
      ∙ ap (take n) (drop_at s.done (new ++ s.rest) i s.size)
      ∙ take_at new s.rest n e

pub number_back : {all : List ℕ} {i : ℕ} (k : ℕ) → IsAt all i (number_bytes k) → number_in all i ≡ k
number_back {all} {i} k s =
    let high = byte_back (k / 256) (first (k / 256 ∷ []) (k % 256 ∷ []) s) in
    let low = byte_back (k % 256) (second (k / 256 ∷ []) (k % 256 ∷ []) (i + 1) refl s) in
    ap₂ (λ (x y : ℕ). x * 256 + y) high low ∙ div-add-mod' k 256

pub word_back : {all : List ℕ} {i : ℕ} (k : ℕ) → IsAt all i (word_bytes k) → word_in all i ≡ k
unfolding word_bytes
word_back {all} {i} k s =
    let high = number_back (k / 65536) (first (number_bytes (k / 65536)) (number_bytes (k % 65536)) s) in
    let low = number_back (k % 65536) (second (number_bytes (k / 65536)) (number_bytes (k % 65536)) (i + 2) refl s) in
    ap₂ (λ (x y : ℕ). x * 65536 + y) high low ∙ div-add-mod' k 65536

pub long_back : {all : List ℕ} {i : ℕ} (k : ℕ) → IsAt all i (long_bytes k) → long_in all i ≡ k
unfolding long_bytes
long_back {all} {i} k s =
    let h = k / 4294967296 in
    let l = k % 4294967296 in
    let high = word_back h (first (word_bytes h) (word_bytes l) s) in
    let low = word_back l (second (word_bytes h) (word_bytes l) (i + 4) (ap (λ (n : ℕ). i + n) (sym (length_word h))) s) in
    ap₂ (λ (x y : ℕ). x * 4294967296 + y) high low ∙ div-add-mod' k 4294967296
