-- `arc_verdict` meets its contract: three verdicts, each the first or else the next, are the first of three conditions.
use Rattle.std.proofs.Common.{◌≡◌, ◌∙◌, ap, Bool, cond, Err, rules, ℕ}
use Rattle.std.proofs.Math.Option.{none, some}
use Rattle.postman.specs.Refusal.{first_refusal}
use Rattle.refusal.specs.Verdict.{verdict_number}
use Rattle.refusal.specs.Laws.{refused_first, passed_first}
use Rattle.arc_rules.specs.declared.rules.Fields.{Fields}
use Rattle.arc_rules.specs.Fields.{mispriced}
use Rattle.arc_rules.proofs.rules.arc_verdict.Goals as goal

abbrev wrong : ℕ → Bool → Fields → Bool
wrong e must f = mispriced e must f.cost f.service

pub returns-in_err-ends_verdict : goal.returns-in_err-ends_verdict
unfolding first_refusal
returns-in_err-ends_verdict c =
    let r : c.from_residual.result ≡ Err c.in_err-ends_verdict.field-0.0 = search rules in
    ap verdict_number r ∙ refused_first _ _ _ _ (c.in_err-ends_verdict.ensures)

pub returns-in_err-price_verdict : goal.returns-in_err-price_verdict
unfolding first_refusal
returns-in_err-price_verdict c =
    let r : c.from_residual-in_err-price_verdict.result ≡ Err c.in_err-price_verdict.field-0.0 = search rules in
    let p = ap (λ (must : Bool). cond (wrong c.args.edition must c.args.f) (some 6) none) c.is_must.ensures in
    passed_first _ _ _ _ c.in_ok-ends_verdict.ensures (ap verdict_number r ∙ refused_first _ _ _ _ (c.in_err-price_verdict.ensures ∙ p))

pub returns : goal.returns
unfolding first_refusal
returns c = search (rules, passed_first)
