-- An arc that the file has room for is the file's.
use Rattle.std.specs.Prelude.{◌≡◌, Bool, ◌&&◌, List, ℕ, ◌+◌, ◌*◌, ◌/◌, ◌%◌, min, ◌<◌, ◌≤◌}
use Rattle.std.proofs.Math.Path.{refl, sym, subst⁻¹}
use Rattle.std.proofs.Math.Bool.{true, false}
use native.Mathlib.Omega.{arith}
use borrow.Author.Tests.{leb-true, le-leb, lt-leb}
use Rattle.std.proofs.Math.Dec.{T, leb}
use Rattle.std.proofs.Math.ListN.{length}
use Rattle.postman.specs.PlanFile.{edition, arc_width, file_bits, arc_of}
use Rattle.postman_laws.specs.Laws.FileLength.{bits_more}
use Rattle.bits.specs.Laws.Taking.{by_bytes}
use Rattle.plan.specs.Records.{record_of, zero_record}
use Rattle.plan_file.specs.Reading.{has_arc, record_in}

-- The bytes that so many bits take, counted by one more for what is left over.
pub in_bytes : (n : ℕ) → n / 8 + min 1 (n % 8) ≡ (n + 7) / 8
in_bytes n = omega arith

module _ (bytes : List ℕ) (e k : ℕ) where
  pub beyond : 255 < k → false ≡ has_arc bytes e k
  unfolding has_arc
  beyond h = rw (lt-leb k 255 h) refl

  pub by_length : k ≤ 255 → (n : ℕ) → n ≡ file_bits e (k + 1) → leb ((n + 7) / 8) (length bytes) ≡ has_arc bytes e k
  unfolding has_arc
  by_length h n q = rw (le-leb k 255 h, sym q) (by_bytes n (length bytes))

  pub has_within : has_arc bytes e k ≡ true → (k < 256) × (file_bits e k + arc_width e ≤ 8 * length bytes)
  unfolding has_arc
  has_within q = by (leb k 255) (leb (file_bits e (k + 1)) (8 * length bytes)) refl refl q
    where
      by : (a b : Bool) → leb k 255 ≡ a → leb (file_bits e (k + 1)) (8 * length bytes) ≡ b → a && b ≡ true
          → (k < 256) × (file_bits e k + arc_width e ≤ 8 * length bytes)
      by true true i j q = let l = leb-true k 255 i in let m = leb-true (file_bits e (k + 1)) (8 * length bytes) j in
          let d = bits_more e k in (omega arith, omega arith)
      by true false i j q = absurd (subst⁻¹ T q tt)
      by false b i j q = absurd (subst⁻¹ T q tt)

  pub within_has : k < 256 → file_bits e k + arc_width e ≤ 8 * length bytes → has_arc bytes e k ≡ true
  unfolding has_arc
  within_has l m = let d = bits_more e k in
      rw (le-leb k 255 (omega arith), le-leb (file_bits e (k + 1)) (8 * length bytes) (omega arith)) refl

module _ (bytes : List ℕ) (k : ℕ) where
  pub record_there : has_arc bytes (edition bytes) k ≡ true → record_in bytes k ≡ record_of (arc_of bytes (edition bytes) k)
  unfolding record_in
  record_there q = rw q refl

  pub no_record : has_arc bytes (edition bytes) k ≡ false → record_in bytes k ≡ zero_record
  unfolding record_in
  no_record q = rw q refl

  -- for callers that know it to be there
  pub record_in_lem : k < 256 → file_bits (edition bytes) k + arc_width (edition bytes) ≤ 8 * length bytes
      → record_in bytes k ≡ record_of (arc_of bytes (edition bytes) k)
  record_in_lem l m = record_there (within_has bytes (edition bytes) k l m)
