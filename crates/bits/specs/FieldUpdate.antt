-- Putting a field into a list of bytes. `Laws.FieldUpdate` says what this changes and what it leaves.
use Rattle.std.specs.Prelude.{List, ℕ, zero, suc, ◌+◌, ◌*◌, ◌-◌, ◌/◌, ◌%◌, ◌^◌, get_or, set}

-- The byte x with b at the place of 2 ^ k.
unfoldable pub with_bit : ℕ → ℕ → ℕ → ℕ
with_bit x k b = (x / 2 ^ (k + 1) * 2 + b) * 2 ^ k + x % 2 ^ k

-- The bytes with b as bit n.
unfoldable pub set_bit : List ℕ → ℕ → ℕ → List ℕ
unfolding with_bit
set_bit bytes n b = set bytes (n / 8) (with_bit (get_or bytes (n / 8) 0) (7 - n % 8) b)

-- The bytes with the first n of the w bits of v from bit i on.
unfoldable pub put_bits : List ℕ → ℕ → ℕ → ℕ → ℕ → List ℕ
unfolding set_bit
put_bits bytes i w v zero = bytes
put_bits bytes i w v (suc n) = set_bit (put_bits bytes i w v n) (i + n) (v / 2 ^ (w - 1 - n) % 2)

-- The bytes with the w bits of v from bit i on.
unfoldable pub put_field : List ℕ → ℕ → ℕ → ℕ → List ℕ
unfolding put_bits
put_field bytes i w v = put_bits bytes i w v w
