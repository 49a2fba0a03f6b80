-- The plan by value is refused as the lent records are, and is the same plan where it is not.
use mathlib.Core.Path.{◌∙◌, sym, ap}
use Rattle.integers.specs.Linear.{back64}
use Rattle.answers.specs.Number.{one_number}
use Rattle.file_exports.specs.Laws.Writing.{value_answer, value_bytes, length_small}
use Rattle.file_exports.proofs.codec.postman_write_plan.Goals as goal

pub written_number-requires : goal.written_number-requires
written_number-requires c = λ k e. length_small _ _ _ k (sym e ∙ c.write_arcs-written.ensures.0)

pub returns : goal.returns
returns c =
    let a = c.args in
    let arcs = c.load_records-arcs.ensures in
    let e = c.edition_of-e.ensures in
    let n = c.vertices_of.ensures in
    let w = c.write_arcs-written.ensures in (
      back64 _ c.written_number.type_inv ∙ c.written_number.ensures ∙ ap one_number (w.0 ∙ value_answer a.edition a.n a.records.now a.bytes.now _ _ _ e n arcs),
      w.1 ∙ value_bytes a.edition a.n a.records.now a.bytes.now _ _ _ e n arcs,
    )
