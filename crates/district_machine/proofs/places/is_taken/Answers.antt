-- The call is a test of some place.
use Rattle.std.proofs.Common.{◌≡◌, ◌≢◌, take, length, arith, rules, tests}
use Rattle.std.proofs.lemmas.Grind.{common_steps}
use Rattle.std.proofs.lemmas.Iterator.{cases_from_any, YieldsList-from_slice}
use Rattle.district_machine.specs.declared.machine.District.{District as DistrictRecord}
use Rattle.district_machine.specs.Laws.Held.{any_taken}
use Rattle.district_machine.proofs.places.is_taken.Goals as goal

pub returns : goal.returns
returns c =
    let q = c.args.q in
    let line = c.args.line in
    let long : length line ≡ 8 = search (rules, c.well_formed) in
    any_taken q line c.args.n (omega (arith, c.requires)) _ (cases_from_any c.any.new.self _ _ (λ (d : DistrictRecord). d.place ≡ q) (λ (d : DistrictRecord). d.place ≢ q) c.any.ensures.ran
    (YieldsList-from_slice (take c.args.n line) (grind (arith, common_steps))) (λ x p k. search (rules, tests)) (λ x p k. search (rules, tests)))
