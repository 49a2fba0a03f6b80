-- Records as bytes, seven each.
use Rattle.std.specs.Prelude.{List, [], ◌∷◌, ◌++◌, map, ℕ, ◌+◌, ◌*◌, ◌/◌, ◌%◌, length, get_or, take, drop}
use Rattle.postman.specs.Lists.{below}
use Rattle.postman.specs.Plan.{Arc}

-- "A record has tail, head and standing of 8 bits each and a cost of 16", and a checking cost of 16: tail, head, standing, and
-- the two costs, each with its high byte first.
unfoldable pub arc_bytes : Arc → List ℕ
arc_bytes a = a.tail ∷ a.head ∷ a.standing ∷ a.cost / 256 ∷ a.cost % 256 ∷ a.service / 256 ∷ a.service % 256 ∷ []

-- The number whose two bytes start at byte i.
abbrev pub number_in : List ℕ → ℕ → ℕ
number_in lent i = get_or lent i 0 * 256 + get_or lent (i + 1) 0

-- The record whose bytes start at byte i.
abbrev pub arc_in : List ℕ → ℕ → Arc
arc_in lent i =
    record {
      tail = get_or lent i 0;
      head = get_or lent (i + 1) 0;
      standing = get_or lent (i + 2) 0;
      cost = number_in lent (i + 3);
      service = number_in lent (i + 5);
    }

-- The records that are lent: a seventh as many as bytes. Up to six bytes that are left over are no record.
unfoldable pub arcs_in : List ℕ → List Arc
unfolding below
arcs_in lent = map (λ k. arc_in lent (7 * k)) (below (length lent / 7))

-- The bytes from byte i on become those of a record.
unfoldable pub with_arc : List ℕ → ℕ → Arc → List ℕ
unfolding arc_bytes
with_arc lent i a = take i lent ++ arc_bytes a ++ drop (i + 7) lent
