-- As many records are stored as the answer says, and so many there is room for (`room_for`).
use Rattle.std.proofs.Common.{◌∙◌, ap, sym, subst, ℕ, length, map}
use Rattle.postman.specs.PlanFile.{edition, arc_of}
use Rattle.plan.specs.Records.{arc_value, record_of}
use Rattle.record_writer.specs.Stored.{stored_to}
use Rattle.records.specs.Reading.{Room}
use Rattle.records.specs.Laws.Reading.{room_for, answers, after}
use Rattle.records.proofs.reader.read_records.Goals as goal

pub store_arcs-requires : goal.store_arcs-requires
store_arcs-requires c =
    let s = c.args.bytes.now in
    let old = c.args.records.now in
    subst (λ (n : ℕ). Room s (length old) n) (sym c.arcs_read.ensures) (room_for s old c.read_answer-read.result c.read_answer-read.ensures)

pub returns : goal.returns
returns c =
    let s = c.args.bytes.now in
    let old = c.args.records.now in
    let r = c.read_answer-read.result in
    let e = c.read_answer-read.ensures in
    let stored = c.store_arcs.ensures ∙ ap (stored_to (λ k. record_of (arc_of s (edition s) k)) old) c.arcs_read.ensures in
    (answers s old r e, ap (map arc_value) stored ∙ after s old r e)
