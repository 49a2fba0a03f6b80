-- "Bit fields, most significant bit first, without gaps."
use Rattle.std.specs.Prelude.{List, [], ◌∷◌, ℕ, zero, suc, ◌+◌, ◌-◌, ◌*◌, ◌/◌, ◌%◌, ◌^◌, get_or}

-- Bit i of a list of bytes.
unfoldable pub bit_at : List ℕ → ℕ → ℕ
bit_at bytes i = get_or bytes (i / 8) 0 / 2 ^ (7 - i % 8) % 2

-- The number that the w bits from place i on make, the bits being given by b.
unfoldable pub number : (ℕ → ℕ) → ℕ → ℕ → ℕ
number b i zero = 0
number b i (suc w) = number b i w * 2 + b (i + w)

-- The field of w bits from bit i on.
unfoldable pub field_at : List ℕ → ℕ → ℕ → ℕ
unfolding number bit_at
field_at bytes i w = number (bit_at bytes) i w

-- The w bits of a number.
unfoldable pub bits_of : ℕ → ℕ → List ℕ
bits_of zero x = []
bits_of (suc w) x = x / 2 ^ w % 2 ∷ bits_of w x
