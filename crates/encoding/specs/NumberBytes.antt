-- Numbers of two, four and eight bytes, the high byte first, and bytes that are put into a lent slice.
use Rattle.std.specs.Prelude.{List, [], ◌∷◌, ◌++◌, ℕ, ◌+◌, ◌*◌, ◌/◌, ◌%◌, length, take, drop}
use Rattle.encoding.specs.RecordBytes.{number_in}

-- The bytes from byte i on become `new`.
unfoldable pub put_at : List ℕ → ℕ → List ℕ → List ℕ
put_at lent i new = take i lent ++ new ++ drop (i + length new) lent

abbrev pub number_bytes : ℕ → List ℕ
number_bytes k = k / 256 ∷ k % 256 ∷ []

-- The number whose four bytes start at byte i; the bytes of one.
abbrev pub word_in : List ℕ → ℕ → ℕ
word_in lent i = number_in lent i * 65536 + number_in lent (i + 2)

unfoldable pub word_bytes : ℕ → List ℕ
word_bytes k = number_bytes (k / 65536) ++ number_bytes (k % 65536)

-- The same of eight bytes.
abbrev pub long_in : List ℕ → ℕ → ℕ
long_in lent i = word_in lent i * 4294967296 + word_in lent (i + 4)

unfoldable pub long_bytes : ℕ → List ℕ
unfolding word_bytes
long_bytes k = word_bytes (k / 4294967296) ++ word_bytes (k % 4294967296)
