-- What the bit reader takes.
use Rattle.std.specs.Prelude.{Bool, cond, ◌&&◌, List, ℕ, ◌+◌, ◌*◌, leb, length}
use Rattle.postman.specs.BitField.{field_at}

-- A field of at most 16 bits that lies within the file, from a bit up to 12,000: a plan file has fewer bits.
unfoldable pub can_take : List ℕ → ℕ → ℕ → Bool
can_take file at width = leb width 16 && (leb at 12000 && leb (at + width) (8 * length file))

-- The field, and the position after it. Where there is no such field, 0, and the position stays.
unfoldable pub taken_field : List ℕ → ℕ → ℕ → ℕ
unfolding can_take field_at
taken_field file at width = cond (can_take file at width) (field_at file at width) 0

unfoldable pub taken_at : List ℕ → ℕ → ℕ → ℕ
unfolding can_take
taken_at file at width = cond (can_take file at width) (at + width) at
