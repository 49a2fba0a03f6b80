-- The first place that is not taken.
use Rattle.std.proofs.Common.{◌≡◌, not, length, refl, Some, arith, rules, tests}
use Rattle.std.proofs.lemmas.Iterator.{YieldsList-from_range}
use Rattle.std.proofs.lemmas.Iterator.Search.{find_from_yields_List}
use Rattle.postman.specs.Lists.{occurs}
use Rattle.postman.specs.Districts.{places, lowest_free}
use Rattle.district_machine.specs.Machine.{districts_in}
use Rattle.district_machine.specs.Laws.Places.{lowest_found}
use Rattle.district_machine.specs.Laws.Held.{room}
use Rattle.district_machine.proofs.places.lowest_free.Goals as goal

pub unwrap-requires : goal.unwrap-requires
unwrap-requires c =
    let long : length c.args.line ≡ 8 = search (rules, c.well_formed) in
    let l = districts_in c.args.line c.args.n in
    let e = find_from_yields_List (λ q. not (occurs q (places l))) _ _ c.find.result c.find.ensures.ran (YieldsList-from_range 0 8 8 refl (omega arith)) (λ x b q k. search (rules, tests)) in
    rw (lowest_found l (room c.args.line c.args.n long c.requires) c.find.result e) refl

pub returns : goal.returns
returns c =
    let long : length c.args.line ≡ 8 = search (rules, c.well_formed) in
    let l = districts_in c.args.line c.args.n in
    let e = find_from_yields_List (λ q. not (occurs q (places l))) _ _ c.find.result c.find.ensures.ran (YieldsList-from_range 0 8 8 refl (omega arith)) (λ x b q k. search (rules, tests)) in
    let f : c.find.result ≡ Some (lowest_free l) = lowest_found l (room c.args.line c.args.n long c.requires) c.find.result e in
    let u : c.find.result ≡ Some c.unwrap.result = c.unwrap.ensures in
    cc
