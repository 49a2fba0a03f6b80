-- What the one number for two cars says of each of them.
use Rattle.std.specs.Prelude.{◌/◌, ◌%◌, ℤ, pos, negsuc, neg_ℤ}

-- As every other call answers it: 0, or minus the number of the refusal. A number below 0 reaches both cars; any other is 256 times the
-- first car's own refusal plus the second's.
abbrev pub first_number : ℤ → ℤ
first_number (pos k) = neg_ℤ (pos (k / 256))
first_number (negsuc k) = negsuc k

abbrev pub second_number : ℤ → ℤ
second_number (pos k) = neg_ℤ (pos (k % 256))
second_number (negsuc k) = negsuc k
