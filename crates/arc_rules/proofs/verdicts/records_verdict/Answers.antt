-- `records_verdict` meets its contract. The loop's invariant: no record before k is refused.
use Rattle.std.proofs.Common.{◌≡◌, ◌∙◌, ap, sym, Err, rules, arith, length-take-le}
use Rattle.refusal.specs.Verdict.{verdict_number}
use Rattle.postman.specs.PlanFile.{arc_conditions}
use Rattle.std.proofs.lemmas.List.{get_or-take}
use Rattle.plan.specs.Records.{record_at, zero_record}
use Rattle.postman_laws.specs.Laws.Refusal.{none_before_first, none_before_next, refused_here, none_refused}
use Rattle.arc_rules.proofs.verdicts.records_verdict.Goals as goal

pub loop-a-init : goal.loop-a-init
loop-a-init c =
    let a = c.args in
    none_before_first (arc_conditions a.edition a.n) (record_at a.arcs) a.m

pub returns-in_err-record_verdict : goal.returns-in_err-record_verdict
returns-in_err-record_verdict c =
    let a = c.args in
    let l = c.loop-a in
    let long = length-take-le a.m a.arcs (omega arith) in
    let r : c.from_residual.result ≡ Err c.in_err-record_verdict.field-0.0 = search rules in
    let e = rw (get_or-take a.m a.arcs l.a-index zero_record (omega arith)) at c.in_err-record_verdict.ensures in
    ap verdict_number r
    ∙ refused_here (arc_conditions a.edition a.n) (record_at a.arcs) a.m l.a-index _ (omega arith) l.invariant (sym e)

pub loop-a-preserved : goal.loop-a-preserved
loop-a-preserved c =
    let a = c.args in
    let l = c.loop-a in
    let long = length-take-le a.m a.arcs (omega arith) in
    let e = rw (get_or-take a.m a.arcs l.a-index zero_record (omega arith)) at c.in_ok-record_verdict.ensures in
    none_before_next (arc_conditions a.edition a.n) (record_at a.arcs) a.m l.a-index (omega arith) l.invariant (sym e)

pub returns : goal.returns
returns c =
    let a = c.args in
    let l = c.loop-a in
    let long = length-take-le a.m a.arcs (omega arith) in
    none_refused (arc_conditions a.edition a.n) (record_at a.arcs) a.m l.a-index (omega arith) l.invariant
