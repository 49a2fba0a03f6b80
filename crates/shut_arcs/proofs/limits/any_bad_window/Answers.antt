-- The call is a test of some window.
use Rattle.std.proofs.Common.{◌≡◌, ◌/◌, length, true, false, arith, refl, rules, tests}
use Rattle.std.proofs.lemmas.Iterator.{cases_from_any, YieldsList-from_range}
use Rattle.postman.specs.Windows.{window_in, is_bad_window}
use Rattle.shut_arcs.proofs.Some.{any_window}
use Rattle.shut_arcs.proofs.limits.any_bad_window.Goals as goal

pub returns : goal.returns
returns c =
    let numbers = c.args.windows.now in
    let f = is_bad_window c.args.m in
    let n = length numbers / 4 in
    any_window f numbers _ (cases_from_any _ _ _ (λ k. f (window_in numbers k) ≡ true) (λ k. f (window_in numbers k) ≡ false) c.any.ensures.ran
    (YieldsList-from_range 0 n n refl (omega arith)) (λ x q k. search (rules, tests)) (λ x q k. search (rules, tests)))
