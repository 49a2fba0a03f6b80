-- The number that reading a plan file answers.
use Rattle.std.specs.Prelude.{ℕ, ◌+◌, ◌*◌}
use Rattle.postman.specs.Refusal.{Answer, refused, given}

-- "It answers n and m", and "the edition too": 65,536 times the edition, and 512 n + m; n is at most 64, m at most 256.
abbrev pub packed : Answer (ℕ × ℕ × ℕ) → Answer ℕ
packed (given x) = given (x.0 * 65536 + x.1 * 512 + x.2)
packed (refused r) = refused r
