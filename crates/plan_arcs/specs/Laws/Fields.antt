-- Where the fields of arc k lie: within the file, and below the position that a bit field may begin at.
use Rattle.std.specs.Prelude.{◌≡◌, ℕ, ◌+◌, ◌<◌, ◌≤◌}
use Rattle.std.proofs.Common.{arith}
use Rattle.postman.specs.PlanFile.{arc_width, file_bits}
use Rattle.postman_laws.specs.Laws.FileLength.{width_le, bits_limit}

pub arc_within : (e k at len : ℕ) → at ≡ file_bits e k → k < 256 → file_bits e k + arc_width e ≤ len
    → (at ≤ 11800) × (at + 30 ≤ len) × (at + arc_width e ≤ len)
arc_within e k at len q l h =
    let b = (bits_limit e k (omega arith)).1 in
    let w = (width_le e).0 in
    (omega arith, omega arith, omega arith)
