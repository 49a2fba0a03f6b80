-- Where no record is refused, the verdict is that on all of them.
use Rattle.std.proofs.Common.{◌≡◌, ◌∙◌, ap, sym, Err, rules}
use Rattle.plan.specs.Records.{record_at}
use Rattle.refusal.specs.Verdict.{verdict_number}
use Rattle.arc_rules.specs.Arcs.{plan_from}
use Rattle.arc_rules.specs.Laws.Arcs.{passed_arcs, refused_arc}
use Rattle.arc_rules.proofs.verdicts.all_records_verdict.Goals as goal

pub returns-in_err-records_verdict : goal.returns-in_err-records_verdict
returns-in_err-records_verdict c =
    let a = c.args in
    let r : c.from_residual.result ≡ Err c.in_err-records_verdict.field-0.0 = search rules in
    ap verdict_number r ∙ sym (refused_arc a.edition (plan_from a.n (record_at a.arcs) a.m) _ (sym c.in_err-records_verdict.ensures))

pub returns : goal.returns
returns c =
    let a = c.args in
    let passed = sym c.in_ok-records_verdict.ensures in
    c.repeated_verdict.ensures ∙ sym (passed_arcs a.edition (plan_from a.n (record_at a.arcs) a.m) passed)
