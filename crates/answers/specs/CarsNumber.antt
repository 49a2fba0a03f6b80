-- One number for two cars.
use Rattle.std.specs.Prelude.{Bool, cond, ◌||◌, ℕ, ◌+◌, ◌*◌, ℤ, pos, neg_ℤ, eqb, leb}
use Rattle.std.proofs.Math.Option.{Option, none, some}

-- "Only 1 to 7 and 13 reach both": the numbers that only the file is refused for.
abbrev pub reaches_both : ℕ → Bool
reaches_both k = leb k 7 || eqb k 13

-- A car's own refusal, or 0.
abbrev pub own_number : Option ℕ → ℕ
own_number none = 0
own_number (some k) = k

-- One number for both cars: minus the number of a refusal that reaches both, else 256 times the first car's own refusal and the second's.
abbrev pub cars_number : Option ℕ → Option ℕ → ℤ
cars_number none second = pos (own_number second)
cars_number (some k) second = cond (reaches_both k) (neg_ℤ (pos k)) (pos (256 * k + own_number second))
