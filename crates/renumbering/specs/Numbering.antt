-- Numberings by value: in place v of the one array the new number of the vertex v, in place i of the other the vertex of the new number i.
use Rattle.std.specs.Prelude.{◌≡◌, ℕ, length, get_or, set}
use Rattle.postman.specs.Lists.{below}
use Rattle.postman.specs.Renumbering.{IsNumbering, number_in}
use Rattle.renumbering.specs.declared.numbering.Numbering.{Numbering}

-- Both arrays have 64 places, and they are a numbering of the vertices 0 to n − 1.
pub record IsNumberingOf (n : ℕ) (x : Numbering) : Type 0 where
  pub long_to : length x.to ≡ 64
  pub long_from : length x.from ≡ 64
  pub numbers : IsNumbering n (number_in x.to) (number_in x.from)

-- Every vertex keeps its number.
unfoldable pub unchanged : Numbering
unfolding below
unchanged = record { to = below 64; from = below 64 }

-- The vertices of the new numbers i and j exchange these.
unfoldable pub exchanged : ℕ → ℕ → Numbering → Numbering
exchanged i j x =
    record {
      to = set (set x.to (get_or x.from i 0) j) (get_or x.from j 0) i;
      from = set (set x.from i (get_or x.from j 0)) j (get_or x.from i 0);
    }
