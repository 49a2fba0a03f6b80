-- `read_arc` meets its contract: the fields are those of the arc, and fit the record's types.
use mathlib.Core.Path.{ap}
use native.Mathlib.Omega.{arith}
use Rattle.postman.specs.Plan.{Arc}
use Rattle.postman_laws.specs.Laws.Acceptance.{arc_record}
use Rattle.plan_file.proofs.reader.read_arc.Goals as goal

pub overflow_cast-result : goal.overflow_cast-result
overflow_cast-result c =
    let a = c.args in
    let l = (arc_record a.s.now a.edition a.k).tail in
    omega (arith, l, ap (λ (b : Arc). b.tail) c.arc_fields-f.ensures)

pub overflow_cast-result-2 : goal.overflow_cast-result-2
overflow_cast-result-2 c =
    let a = c.args in
    let l = (arc_record a.s.now a.edition a.k).head in
    omega (arith, l, ap (λ (b : Arc). b.head) c.arc_fields-f.ensures)

pub overflow_cast-result-3 : goal.overflow_cast-result-3
overflow_cast-result-3 c =
    let a = c.args in
    let l = (arc_record a.s.now a.edition a.k).standing in
    omega (arith, l, ap (λ (b : Arc). b.standing) c.arc_fields-f.ensures)

pub overflow_cast-result-4 : goal.overflow_cast-result-4
overflow_cast-result-4 c =
    let a = c.args in
    let l = (arc_record a.s.now a.edition a.k).cost in
    omega (arith, l, ap (λ (b : Arc). b.cost) c.arc_fields-f.ensures)

pub overflow_cast-result-5 : goal.overflow_cast-result-5
overflow_cast-result-5 c =
    let a = c.args in
    let l = (arc_record a.s.now a.edition a.k).service in
    omega (arith, l, ap (λ (b : Arc). b.service) c.arc_fields-f.ensures)
