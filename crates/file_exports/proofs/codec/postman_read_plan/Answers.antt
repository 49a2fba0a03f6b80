-- What `room_answer` says of the reading gives the answer and how many records are stored, and `store_arcs` stores them.
use mathlib.Core.Path.{◌∙◌, ap}
use mathlib.Core.List.{◌++◌, map, flat_map}
use Prim.Native.Nat.{ℕ, ◌*◌}
use lib.ListN.{drop}
use Rattle.integers.specs.Linear.{back64}
use Rattle.postman.specs.Lists.{below}
use mathlib.Core.List.{List}
use Rattle.plan.specs.declared.Arc.{Arc}
use Rattle.plan.specs.Records.{record_at}
use Rattle.plan_file.specs.Reading.{plan_in}
use Rattle.encoding.specs.RecordBytes.{arc_bytes}
use Rattle.file_exports.specs.Laws.Reading.{lent_room, lent_answer, lent_after_lem}
use Rattle.file_exports.proofs.codec.postman_read_plan.Goals as goal

pub store_arcs-requires : goal.store_arcs-requires
store_arcs-requires c =
    let a = c.args in
    let p = c.read_plan-reading in
    let r = c.room_answer-read in
    rw c.arcs_read.ensures (lent_room a.plan.now a.records.now p.result p.ensures r.result r.ensures)

pub returns : goal.returns
returns c =
    let a = c.args in
    let p = c.read_plan-reading in
    let r = c.room_answer-read in
    let count = c.arcs_read in
    let new : ℕ → _ = λ m. flat_map arc_bytes (map (record_at (plan_in p.result).arcs) (below m)) ++ drop (7 * m) a.records.now in (
      back64 _ c.read_number.type_inv
          ∙ c.read_number.ensures
          ∙ lent_answer a.plan.now a.records.now p.result p.ensures r.result r.ensures,
      c.store_arcs.ensures
          ∙ ap (λ (l : List Arc). flat_map arc_bytes (map (record_at l) (below count.result)) ++ drop (7 * count.result) a.records.now) c.arcs_of.ensures
          ∙ ap new count.ensures
          ∙ lent_after_lem a.plan.now a.records.now p.result p.ensures r.result r.ensures,
    )
