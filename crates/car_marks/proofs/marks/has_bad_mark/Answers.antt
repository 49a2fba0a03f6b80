-- The call is a test of some mark.
use Rattle.std.proofs.Common.{◌≡◌, take, true, false, ◌∙◌, arith, rules, tests}
use Rattle.std.proofs.lemmas.Grind.{common_steps}
use Rattle.std.proofs.lemmas.Iterator.{cases_from_any, YieldsList-from_slice, YieldsList-from_zip}
use Rattle.car_marks.proofs.Some.{test, any_bad}
use Rattle.car_marks.proofs.marks.has_bad_mark.Goals as goal

pub returns-else-marks-m : goal.returns-else-marks-m
returns-else-marks-m c =
    let r = c.args.plan in
    let marks = c.args.marks.now in
    any_bad r marks (search rules) c.requires (c.if-marks-m.false ∙ c.from-m.ensures) _ (cases_from_any c.any.new.self _ _ (λ x. test r marks x ≡ true) (λ x. test r marks x ≡ false) c.any.ensures.ran
    (YieldsList-from_zip (YieldsList-from_slice marks (grind (arith, common_steps))) (YieldsList-from_slice (take r.m r.arcs) (grind (arith, common_steps)))) (λ x q k. search (rules, tests)) (λ x q k. search (rules, tests)))
