-- The plan file, in both editions: what reading and writing answer, and what each lent slice then holds.
use Rattle.std.specs.Prelude.{Bool, false, not, cond, ◌&&◌, ◌||◌, ℕ, ◌+◌, ◌-◌, ◌*◌, ◌/◌, ◌<◌, length, get_or, drop, eqb, ltb, leb}
use mathlib.Core.List.{List, [], ◌∷◌, ◌++◌, map, flat_map}
use Rattle.std.proofs.Math.Option.{Option}
use Rattle.postman.specs.Lists.{any_of, below}
use Rattle.postman.specs.Plan.{Arc, Plan, is_required_arc}
use Rattle.postman.specs.BitField.{field_at, number, bits_of}
use Rattle.postman.specs.Refusal.{Conditions, first_refusal, Answer, answer, unless}

-- ---- the fields

-- "edition 4 bits […]; vertex count n, 7 bits, 1 to 64; arc count m, 9 bits, 1 to 256"
unfoldable pub edition : List ℕ → ℕ
unfolding field_at
edition bytes = field_at bytes 0 4

unfoldable pub vertex_count : List ℕ → ℕ
unfolding field_at
vertex_count bytes = field_at bytes 4 7

unfoldable pub arc_count : List ℕ → ℕ
unfolding field_at
arc_count bytes = field_at bytes 11 9

-- "Editions 1 and 2 are both read": whether e is one of them, and whether it is the second.
unfoldable pub is_edition : ℕ → Bool
is_edition e = eqb e 1 || eqb e 2

abbrev pub is_second : ℕ → Bool
is_second e = eqb e 2

-- "Then m arcs of 30 bits"; "Edition 2 has arcs of 46 bits". The bits of a file of m arcs, which are those before arc m of a longer one.
unfoldable pub arc_width : ℕ → ℕ
arc_width e = cond (is_second e) 46 30

unfoldable pub file_bits : ℕ → ℕ → ℕ
unfolding arc_width
file_bits e m = 20 + arc_width e * m

-- "In edition 1 a must arc's checking cost is its cost, any other arc's is 0."
unfoldable pub implied_service : ℕ → ℕ → ℕ
implied_service standing cost = cond (eqb standing 1) cost 0

-- "tail 6, head 6, standing 2, cost 16"; and in edition 2 "then a checking cost of 16 bits"
unfoldable pub arc_from : List ℕ → ℕ → ℕ → Arc
unfolding field_at implied_service
arc_from bytes e i =
    let standing = field_at bytes (i + 12) 2 in
    let cost = field_at bytes (i + 14) 16 in
    record {
      tail = field_at bytes i 6;
      head = field_at bytes (i + 6) 6;
      standing = standing;
      cost = cost;
      service = cond (is_second e) (field_at bytes (i + 30) 16) (implied_service standing cost);
    }

-- Arc k of a file of edition e; the plan of a file.
unfoldable pub arc_of : List ℕ → ℕ → ℕ → Arc
unfolding arc_from file_bits
arc_of bytes e k = arc_from bytes e (file_bits e k)

unfoldable pub plan_of : List ℕ → Plan
unfolding edition vertex_count arc_count arc_of below
plan_of bytes = record { n = vertex_count bytes; arcs = map (arc_of bytes (edition bytes)) (below (arc_count bytes)) }

-- "After the last arc, zero bits fill up the byte. The file is exactly that long." The bytes of a file of edition e and m
-- arcs, and the number that its fill bits are.
unfoldable pub file_length : ℕ → ℕ → ℕ
unfolding file_bits
file_length e m = (file_bits e m + 7) / 8

unfoldable pub fill_bits : List ℕ → ℕ → ℕ → ℕ
unfolding field_at file_length file_bits
fill_bits bytes e m = field_at bytes (file_bits e m) (8 * file_length e m - file_bits e m)

-- ---- the refusals

unfoldable pub is_outside : ℕ → ℕ → ℕ → Bool
is_outside x low high = ltb x low || ltb high x

-- 3 extent: "n or m outside its limits"
unfoldable pub extent_conditions : ℕ → ℕ → Conditions
unfolding is_outside
extent_conditions n m = (is_outside n 1 64 || is_outside m 1 256, 3) ∷ []

-- A checking cost "is 1 to 65,535 for must arcs and 0 for others"; and in edition 1 it is the implied one,
-- so that there a must arc of cost 0 has none.
unfoldable pub is_mispriced : ℕ → Arc → Bool
unfolding implied_service
is_mispriced e a =
    cond (is_required_arc a) (eqb a.service 0) (not (eqb a.service 0))
    || (not (is_second e) && not (eqb a.service (implied_service a.standing a.cost)))

-- 5 off sheet: "tail or head is n or more"; 6 unpriced: a checking cost as above ("plain cost 0 becomes good in
-- both editions"); 7 standing: "standing above 2"
unfoldable pub arc_conditions : ℕ → ℕ → Arc → Conditions
unfolding is_mispriced
arc_conditions e n a = (leb n a.tail || leb n a.head, 5) ∷ (is_mispriced e a, 6) ∷ (ltb 2 a.standing, 7) ∷ []

-- "then arc by arc 5, 6, 7"
unfoldable pub arcs_conditions : ℕ → Plan → Conditions
unfolding arc_conditions flat_map
arcs_conditions e p = flat_map (arc_conditions e p.n) p.arcs

-- "two arcs agree in tail, head, standing and cost", and "in checking cost too"
unfoldable pub agree : Arc → Arc → Bool
agree a b =
    eqb a.tail b.tail
    && (eqb a.head b.head && (eqb a.standing b.standing && (eqb a.cost b.cost && eqb a.service b.service)))

unfoldable pub has_repeated : List Arc → Bool
unfolding agree any_of
has_repeated [] = false
has_repeated (a ∷ arcs) = any_of (agree a) arcs || has_repeated arcs

-- 13 repeated: "after all arcs passed 5 to 7, before 8"
unfoldable pub plan_conditions : ℕ → Plan → Conditions
unfolding arcs_conditions has_repeated
plan_conditions e p = arcs_conditions e p ++ (has_repeated p.arcs, 13) ∷ []

-- 2 edition: "any edition but these two"
unfoldable pub edition_conditions : ℕ → Conditions
unfolding is_edition
edition_conditions e = (not (is_edition e), 2) ∷ []

-- From the length on: "1 (length), 4, then arc by arc 5, 6, 7", then 13
unfoldable pub body_conditions : List ℕ → ℕ → ℕ → Plan → Conditions
unfolding file_length fill_bits plan_conditions
body_conditions bytes e m p =
    (ltb (length bytes) (file_length e m), 1)
    ∷ (ltb (file_length e m) (length bytes) || not (eqb (fill_bits bytes e m) 0), 4)
    ∷ plan_conditions e p

-- "Order: 1 (three bytes), 2, 3", and from the length on; `own` are conditions that a call has together with n and m.
abbrev pub file_conditions_with : Conditions → List ℕ → Conditions
file_conditions_with own bytes =
    (ltb (length bytes) 3, 1)
    ∷ edition_conditions (edition bytes)
    ++ extent_conditions (vertex_count bytes) (arc_count bytes)
    ++ own
    ++ body_conditions bytes (edition bytes) (arc_count bytes) (plan_of bytes)

unfoldable pub file_conditions : List ℕ → Conditions
unfolding edition edition_conditions extent_conditions vertex_count arc_count body_conditions plan_of
file_conditions bytes = file_conditions_with [] bytes

-- ---- reading

-- 8 short sheet, for reading: "record list below m"
unfoldable pub read_refusal : List ℕ → ℕ → Option ℕ
unfolding first_refusal file_conditions arc_count
read_refusal bytes room = first_refusal (file_conditions bytes ++ (ltb room (arc_count bytes), 8) ∷ [])

-- "It answers n and m", and "the edition too". "The arcs go into a lent list of arc records; records from m on are untouched."
unfoldable pub read_answer : List ℕ → List Arc → Answer (ℕ × ℕ × ℕ)
unfolding answer read_refusal edition vertex_count arc_count
read_answer bytes records = answer (read_refusal bytes (length records)) (edition bytes, vertex_count bytes, arc_count bytes)

unfoldable pub records_after : List ℕ → List Arc → List Arc
unfolding unless read_refusal plan_of arc_count
records_after bytes records = unless (read_refusal bytes (length records)) ((plan_of bytes).arcs ++ drop (arc_count bytes) records) records

-- ---- writing

-- "A record has tail, head and standing of 8 bits each and a cost of 16", and a checking cost of 16.
pub record IsRecord (a : Arc) : Type 0 where
  pub tail : a.tail < 256
  pub head : a.head < 256
  pub standing : a.standing < 256
  pub cost : a.cost < 65536
  pub service : a.service < 65536

unfoldable pub arc_bits : ℕ → Arc → List ℕ
unfolding bits_of
arc_bits e a =
    bits_of 6 a.tail ++ bits_of 6 a.head ++ bits_of 2 a.standing ++ bits_of 16 a.cost ++ cond (is_second e) (bits_of 16 a.service) []

unfoldable pub plan_bits : ℕ → Plan → List ℕ
unfolding bits_of arc_bits flat_map
plan_bits e p = bits_of 4 e ++ bits_of 7 p.n ++ bits_of 9 (length p.arcs) ++ flat_map (arc_bits e) p.arcs

-- The file's bytes: eight bits each, zero bits after the last arc.
unfoldable pub file_of : ℕ → Plan → List ℕ
unfolding plan_bits number below file_length
file_of e p = map (λ k. number (λ i. get_or (plan_bits e p) i 0) (8 * k) 8) (below (file_length e (length p.arcs)))

-- "The writer is told which edition to write, first refuses others with 2"; then "3 and 5 to 8", and 13.
-- 8, for writing: "byte slice below the file"
unfoldable pub write_refusal : ℕ → Plan → ℕ → Option ℕ
unfolding first_refusal edition_conditions extent_conditions plan_conditions file_length
write_refusal e p room =
    first_refusal
    (edition_conditions e ++ extent_conditions p.n (length p.arcs) ++ plan_conditions e p ++ (ltb room (file_length e (length p.arcs)), 8) ∷ [])

-- "Writing takes n and a list of records (m is its length) and fills a lent byte slice from its start; bytes after the file are
-- untouched. It answers the file's length in bytes."
unfoldable pub write_answer : ℕ → Plan → List ℕ → Answer ℕ
unfolding answer write_refusal file_length
write_answer e p bytes = answer (write_refusal e p (length bytes)) (file_length e (length p.arcs))

unfoldable pub bytes_after : ℕ → Plan → List ℕ → List ℕ
unfolding unless write_refusal file_of file_length
bytes_after e p bytes = unless (write_refusal e p (length bytes)) (file_of e p ++ drop (file_length e (length p.arcs)) bytes) bytes
