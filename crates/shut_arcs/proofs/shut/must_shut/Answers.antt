-- The call is a test of some arc.
use Rattle.std.proofs.Common.{◌≡◌, take, true, false, arith, rules, tests}
use Rattle.std.proofs.lemmas.Iterator.{cases_from_any, YieldsList-from_slice}
use Rattle.std.proofs.lemmas.Iterator.Consumers.{YieldsList-from_enumerate}
use Rattle.std.proofs.lemmas.Grind.{common_steps}
use Rattle.postman.specs.Windows.{windows_in}
use Rattle.shut_arcs.specs.Fields.{departure}
use Rattle.shut_arcs.proofs.Some.{test, any_must}
use Rattle.shut_arcs.proofs.shut.must_shut.Goals as goal

pub returns : goal.returns
returns c =
    let r = c.args.plan in
    let windows = windows_in c.args.windows.now in
    let d = departure c.args.weekday c.args.minute in
    any_must r windows d (search rules) c.requires _ (cases_from_any _ _ _ (λ x. test r windows d x ≡ true) (λ x. test r windows d x ≡ false) c.any.ensures.ran
    (YieldsList-from_enumerate (YieldsList-from_slice (take r.m r.arcs) (grind (arith, common_steps))) (cc)) (λ x q k. search (rules, tests)) (λ x q k. search (rules, tests)))
