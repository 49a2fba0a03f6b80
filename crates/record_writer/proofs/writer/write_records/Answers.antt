-- What is written is the list's plan (`same_answer`, `same_bytes`).
use Rattle.std.proofs.Common.{◌∙◌, ap, List, length}
use Rattle.postman.specs.PlanFile.{write_answer, bytes_after}
use Rattle.plan.specs.declared.Arc.{Arc}
use Rattle.plan.specs.Records.{plan_value}
use Rattle.record_writer.specs.Writing.{counted_plan}
use Rattle.record_writer.specs.Laws.Writing.{same_answer, same_bytes}
use Rattle.record_writer.proofs.writer.write_records.Goals as goal

pub returns : goal.returns
returns c =
    let a = c.args in
    let r = a.records.now in
    let s = a.bytes.now in
    let e = c.load_records-arcs.ensures in (
      c.write_arcs.ensures.0 ∙ ap (λ (l : List Arc). write_answer a.edition (plan_value (counted_plan a.n (length r) l)) s) e
          ∙ same_answer a.edition a.n r s,
      c.write_arcs.ensures.1 ∙ ap (λ (l : List Arc). bytes_after a.edition (plan_value (counted_plan a.n (length r) l)) s) e
          ∙ same_bytes a.edition a.n r s,
    )
