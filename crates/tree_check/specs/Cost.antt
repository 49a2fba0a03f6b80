-- The d of links, by a table.
use Rattle.std.specs.Prelude.{List, map, ℕ, ◌<◌, length, get_or}
use Rattle.postman.specs.Lists.{sum_of}
use Rattle.postman.specs.Link.{Link}
use Rattle.postman.specs.Steps.{cell}

unfoldable pub table_cost : List (List ℕ) → List Link → ℕ
unfolding sum_of
table_cost d t = sum_of (map (λ (l : Link). cell d l.tail l.head) t)

abbrev pub AreVertices : List ℕ → Type 0
AreVertices vs = (i : ℕ) → i < length vs → get_or vs i 0 < 64
