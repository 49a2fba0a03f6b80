-- Putting a plan's fields into a list of bytes, in the file's order.
use Rattle.std.specs.Prelude.{List, cond, ℕ, zero, suc, ◌+◌}
use Rattle.postman.specs.Plan.{Arc}
use Rattle.postman.specs.PlanFile.{is_second, file_bits}
use Rattle.bits.specs.FieldUpdate.{put_field}

-- "edition 4 bits […]; vertex count n, 7 bits […]; arc count m, 9 bits"
unfoldable pub put_header : List ℕ → ℕ → ℕ → ℕ → List ℕ
unfolding put_field
put_header bytes e n m = put_field (put_field (put_field bytes 0 4 e) 4 7 n) 11 9 m

-- "tail 6, head 6, standing 2, cost 16"
unfoldable pub put_core : List ℕ → ℕ → Arc → List ℕ
unfolding put_field
put_core bytes i a =
    put_field (put_field (put_field (put_field bytes i 6 a.tail) (i + 6) 6 a.head) (i + 12) 2 a.standing) (i + 14) 16 a.cost

-- and in edition 2 "then a checking cost of 16 bits"
unfoldable pub put_arc : List ℕ → ℕ → ℕ → Arc → List ℕ
unfolding put_core put_field
put_arc bytes e i a = cond (is_second e) (put_field (put_core bytes i a) (i + 30) 16 a.service) (put_core bytes i a)

-- The first k arcs of f, in their order.
unfoldable pub put_arcs : List ℕ → ℕ → (ℕ → Arc) → ℕ → List ℕ
unfolding put_arc
put_arcs bytes e f zero = bytes
put_arcs bytes e f (suc k) = put_arc (put_arcs bytes e f k) e (file_bits e k) (f k)
