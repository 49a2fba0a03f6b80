-- How long a file is. Its arcs are of 46 bits in edition 2 and of 30 otherwise, and for each of the two widths the claims are linear.
use Rattle.std.specs.Prelude.{◌≡◌, true, ℕ, ◌+◌, ◌*◌, ◌≤◌, ◌<◌}
use native.Mathlib.Omega.{arith}
use Rattle.postman.specs.PlanFile.{is_second, arc_width, file_bits, file_length}
use Rattle.postman.specs.Laws.Tests.{cond_ind}

-- arcs of 46 bits in edition 2, else of 30
pub by_edition : (e : ℕ) (P : ℕ → Type 0) → P 46 → P 30 → P (arc_width e)
unfolding arc_width
by_edition e P x y = cond_ind (is_second e) 46 30 P (λ t. x) (λ t. y)

module _ (e : ℕ) where
  pub width_le : (30 ≤ arc_width e) × (arc_width e ≤ 46)
  width_le = by_edition e (λ w. (30 ≤ w) × (w ≤ 46)) (omega arith, omega arith) (omega arith, omega arith)

  pub second_width : is_second e ≡ true → arc_width e ≡ 46
  unfolding arc_width
  second_width q = rw q

  pub bits_none : file_bits e 0 ≡ 20
  unfolding file_bits
  bits_none = by_edition e (λ w. 20 + w * 0 ≡ 20) (omega arith) (omega arith)

  pub bits_least : (k : ℕ) → 20 ≤ file_bits e k
  unfolding file_bits
  bits_least k = by_edition e (λ w. 20 ≤ 20 + w * k) (omega arith) (omega arith)

  -- one arc more
  pub bits_more : (k : ℕ) → file_bits e (k + 1) ≡ file_bits e k + arc_width e
  unfolding file_bits
  bits_more k = by_edition e (λ w. 20 + w * (k + 1) ≡ 20 + w * k + w) (omega arith) (omega arith)

  -- arc k of m ends before the file's bits do
  pub bits_within : (k m : ℕ) → k < m → file_bits e k + arc_width e ≤ file_bits e m
  unfolding file_bits
  bits_within k m l = by_edition e (λ w. 20 + w * k + w ≤ 20 + w * m) (omega arith) (omega arith)

  -- the longest file: "now 1,475 bytes"
  pub bits_limit : (m : ℕ) → m ≤ 256 → (20 + 30 * m ≤ file_bits e m) × (file_bits e m ≤ 20 + 46 * m)
  unfolding file_bits
  bits_limit m l =
      by_edition e (λ w. (20 + 30 * m ≤ 20 + w * m) × (20 + w * m ≤ 20 + 46 * m)) (omega arith, omega arith) (omega arith, omega arith)

  pub file_length_le : (m : ℕ) → m ≤ 256 → file_length e m ≤ 1475
  unfolding file_length
  file_length_le m l = let b = (bits_limit m l).1 in omega arith

  -- the bytes hold the bits
  pub bits_fit : (m : ℕ) → file_bits e m ≤ 8 * file_length e m
  unfolding file_length
  bits_fit m = omega arith

  -- a file of some arc has the three bytes that say how long it is
  pub counted : (m : ℕ) → 1 ≤ m → 3 ≤ file_length e m
  unfolding file_length
  counted m h = let b = bits_within 0 m h in let c = bits_none in let w = width_le.0 in omega arith
