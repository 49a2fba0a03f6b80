-- What reading and writing answer to a caller in another language.
use mathlib.Core.List.{List, ◌++◌, flat_map}
use Rattle.std.specs.Prelude.{ℕ, ◌*◌, ◌/◌, length, drop}
use Rattle.postman.specs.Plan.{Plan}
use Rattle.postman.specs.Refusal.{unless}
use Rattle.postman.specs.PlanFile.{plan_of, arc_count, read_refusal}
use Rattle.encoding.specs.RecordBytes.{arc_bytes, arcs_in}

-- "The arcs go into a lent list of arc records; records from m on are untouched." So are bytes that are left over.
unfoldable pub lent_after : List ℕ → List ℕ → List ℕ
unfolding unless read_refusal plan_of arc_count arc_bytes flat_map
lent_after file lent =
    unless (read_refusal file (length lent / 7)) (flat_map arc_bytes (plan_of file).arcs ++ drop (7 * arc_count file) lent) lent

-- "Writing takes n and a list of records (m is its length)."
unfoldable pub lent_plan : ℕ → List ℕ → Plan
unfolding arcs_in
lent_plan n lent = record { n = n; arcs = arcs_in lent }
