-- `arc_fields` meets its contract: each field is taken_within at the position after the one before, and the kind of standing says whether the arc is a must arc.
use mathlib.Core.Path.{◌≡◌, ◌∙◌}
use Prim.Native.Nat.{◌+◌, ◌*◌}
use native.Mathlib.Omega.{arith}
use lib.Dec.{eqb}
use lib.ListN.{length}
use Rattle.postman.specs.BitField.{field_at}
use Rattle.postman.specs.PlanFile.{file_bits, implied_service, arc_from, arc_of}
use Rattle.plan.specs.Standings.{must_test}
use Rattle.bits.specs.Laws.Taking.{taken_within}
use Rattle.plan_arcs.specs.Laws.Fields.{arc_within}
use Rattle.plan_arcs.proofs.arcs.arc_fields.Goals as goal

pub read_service-requires : goal.read_service-requires
read_service-requires c =
    let a = c.args in
    let w = arc_within a.edition a.k _ _ c.file_bits-at.ensures c.requires.0 c.requires.1 in
    (w.0, w.2)

pub returns : goal.returns
unfolding implied_service arc_from arc_of
returns c =
    let a = c.args in
    let bytes = a.s.now in
    let begin = c.file_bits-at.result in
    let at = c.file_bits-at.ensures in
    let w = arc_within a.edition a.k begin (8 * length bytes) at c.requires.0 c.requires.1 in
    let low = w.0 in
    let high = w.1 in
    let tail = c.take_at-tail in
    let head = c.take_at-head in
    let standing = c.take_at-standing in
    let cost = c.take_at-cost in
    let must : c.is_must-must.result ≡ eqb standing.result.field 1 = c.is_must-must.ensures ∙ must_test standing.result.field _ c.from.ensures in
    let first = taken_within bytes begin 6 (omega arith, omega arith, omega arith) in
    let t : tail.result.field ≡ field_at bytes begin 6 = tail.ensures.0 ∙ first.0 in
    let second : tail.result.at ≡ file_bits a.edition a.k + 6 = omega (arith, at, tail.ensures.1 ∙ first.1) in
    let next = taken_within bytes tail.result.at 6 (omega arith, omega arith, omega arith) in
    let h : head.result.field ≡ field_at bytes tail.result.at 6 = head.ensures.0 ∙ next.0 in
    let third : head.result.at ≡ file_bits a.edition a.k + 12 = omega (arith, second, head.ensures.1 ∙ next.1) in
    let kind = taken_within bytes head.result.at 2 (omega arith, omega arith, omega arith) in
    let s : standing.result.field ≡ field_at bytes head.result.at 2 = standing.ensures.0 ∙ kind.0 in
    let fourth : standing.result.at ≡ file_bits a.edition a.k + 14 = omega (arith, third, standing.ensures.1 ∙ kind.1) in
    let p : cost.result.field ≡ field_at bytes standing.result.at 16 = cost.ensures.0 ∙ (taken_within bytes standing.result.at 16 (omega arith, omega arith, omega arith)).0 in
    cc (at, t, h, s, p, second, third, fourth, must, c.read_service.ensures)
