-- A field that can be taken_within is the field, and the position moves behind it; one that cannot is 0, and the position stays.
use Rattle.std.specs.Prelude.{◌≡◌, Bool, ◌&&◌, List, [], ◌∷◌, ℕ, ◌+◌, ◌*◌, ◌/◌, ◌<◌, ◌≤◌}
use Rattle.std.proofs.Math.Path.{refl, subst⁻¹}
use Rattle.std.proofs.Common.{sym, arith}
use Rattle.std.proofs.Math.Bool.{true, false}
use borrow.Author.Tests.{leb-true, leb-false, le-leb, lt-leb}
use Rattle.std.proofs.Math.Dec.{T, leb}
use Rattle.std.proofs.Math.ListN.{length}
use Rattle.postman.specs.BitField.{bit_at, number, field_at}
use Rattle.bits.specs.Taking.{can_take, taken_field, taken_at}

-- what it takes for a field to be within the file
abbrev pub IsTakeable : List ℕ → ℕ → ℕ → Type 0
IsTakeable l at w = (w ≤ 16) × (at + w ≤ 8 * length l) × (at ≤ 12000)

-- so many bits end within so many bytes
pub by_bytes : (a n : ℕ) → leb ((a + 7) / 8) n ≡ leb a (8 * n)
by_bytes a n = at (leb ((a + 7) / 8) n) refl
  where
    at : (b : Bool) → leb ((a + 7) / 8) n ≡ b → b ≡ leb a (8 * n)
    at true e = let l = leb-true ((a + 7) / 8) n e in sym (le-leb a (8 * n) (omega arith))
    at false e = let l = leb-false ((a + 7) / 8) n e in sym (lt-leb a (8 * n) (omega arith))

module _ (l : List ℕ) (at w : ℕ) where
  pub can_take_lem : IsTakeable l at w → can_take l at w ≡ true
  unfolding can_take
  can_take_lem h = rw (le-leb w 16 h.0, le-leb at 12000 h.2, le-leb (at + w) (8 * length l) h.1) refl

  pub takes_within : can_take l at w ≡ true → IsTakeable l at w
  unfolding can_take
  takes_within e = by (leb w 16) (leb at 12000) (leb (at + w) (8 * length l)) refl refl refl e
    where
      by : (a b c : Bool) → leb w 16 ≡ a → leb at 12000 ≡ b → leb (at + w) (8 * length l) ≡ c → a && (b && c) ≡ true → IsTakeable l at w
      by true true true i j k e = (leb-true w 16 i, leb-true (at + w) (8 * length l) k, leb-true at 12000 j)
      by true true false i j k e = absurd (subst⁻¹ T e tt)
      by true false c i j k e = absurd (subst⁻¹ T e tt)
      by false b c i j k e = absurd (subst⁻¹ T e tt)

  pub too_wide : 16 < w → false ≡ can_take l at w
  unfolding can_take
  too_wide h = rw (lt-leb w 16 h) refl

  pub too_far : w ≤ 16 → 12000 < at → false ≡ can_take l at w
  unfolding can_take
  too_far h g = rw (le-leb w 16 h, lt-leb at 12000 g) refl

  pub if_it_ends : w ≤ 16 → at ≤ 12000 → leb ((at + w + 7) / 8) (length l) ≡ can_take l at w
  unfolding can_take
  if_it_ends h g = rw (le-leb w 16 h, le-leb at 12000 g) (by_bytes (at + w) (length l))

  pub taken_is : can_take l at w ≡ true → (field_at l at w ≡ taken_field l at w) × (at + w ≡ taken_at l at w)
  unfolding taken_field taken_at
  taken_is e = (rw e refl, rw e refl)

  pub nothing_taken : can_take l at w ≡ false → (0 ≡ taken_field l at w) × (at ≡ taken_at l at w)
  unfolding taken_field taken_at
  nothing_taken e = (rw e refl, rw e refl)

  -- for callers that know it to be within
  pub taken_within : IsTakeable l at w → (taken_field l at w ≡ field_at l at w) × (taken_at l at w ≡ at + w)
  unfolding taken_field taken_at
  taken_within h = let e = can_take_lem h in (rw e refl, rw e refl)

-- the fields of a file's first three bytes
pub header_taken : (l : List ℕ) (at w : ℕ) → 3 ≤ length l → w ≤ 16 → at + w ≤ 24 → taken_field l at w ≡ field_at l at w
header_taken l at w long wide within = (taken_within l at w (omega arith, omega arith, omega arith)).0

-- the first bits of a file, at most eight: of an empty one they are zeros
pub first_taken : (l : List ℕ) → taken_field l 0 4 ≡ field_at l 0 4
unfolding taken_field can_take field_at number bit_at
first_taken [] = refl
first_taken (x ∷ l) = (taken_within (x ∷ l) 0 4 (omega arith, omega arith, omega arith)).0
