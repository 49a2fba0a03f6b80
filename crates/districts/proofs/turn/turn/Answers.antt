-- Nothing moves in an empty machine, with a short sheet, or where the front district cannot be gone on with; else it has its turn.
use Rattle.std.proofs.Common.{Ok}
use mathlib.Core.Path.{◌≡◌, refl, sym, ap, ◌∙◌}
use Prim.Native.Nat.{◌≤◌}
use native.Mathlib.Omega.{arith}
use lib.ListN.{length, get_or, drop}
use Rattle.postman.specs.PlanCall.{sheet_places}
use Rattle.district_machine.specs.Machine.{waiting_in, no_district}
use Rattle.districts.specs.Turned.{nobody, short_sheet, stuck}
use Rattle.districts.specs.Laws.Turned.{turned_as, none_met, short_met, crowd_met, other_met, ahead_is, others_few, own_as, served_turned}
use borrow.Author.Rules.{rules}
use Rattle.districts.proofs.turn.turn.Goals as goal

pub returns-then-n-eq0 : goal.returns-then-n-eq0
returns-then-n-eq0 c =
    let m = c.args.m in
    let long : length c.args.m.line ≡ 8 = search (rules, c.well_formed) in
    let e = c.still.ensures in
    turned_as m _ _ c.still.result nobody (none_met m _ c.if-n-eq0.true) e.0 (e.1 ∙ ap Ok c.so_far.ensures) e.2 refl

pub returns-then-sheet-lt17266 : goal.returns-then-sheet-lt17266
unfolding sheet_places
returns-then-sheet-lt17266 c =
    let m = c.args.m in
    let long : length c.args.m.line ≡ 8 = search (rules, c.well_formed) in
    let some : 1 ≤ m.waiting = (let n = c.if-n-eq0.false in omega arith) in
    let f = get_or m.line 0 no_district in
    let ds = drop 1 (waiting_in m) in
    let ahead = ahead_is m long some in
    let t = c.still-then-sheet-lt17266 in
    let e = t.ensures in
    turned_as m _ _ t.result short_sheet (short_met m f ds ahead _ c.if-sheet-lt17266.true) e.0 e.1 e.2 refl

pub returns-then-n-gt8 : goal.returns-then-n-gt8
unfolding sheet_places
returns-then-n-gt8 c =
    let m = c.args.m in
    let long : length c.args.m.line ≡ 8 = search (rules, c.well_formed) in
    let some : 1 ≤ m.waiting = (let n = c.if-n-eq0.false in omega arith) in
    let f = get_or m.line 0 no_district in
    let ds = drop 1 (waiting_in m) in
    let ahead = ahead_is m long some in
    let t = c.still-then-n-gt8 in
    let e = t.ensures in
    turned_as m _ _ t.result stuck (crowd_met m f ds ahead _ c.if-sheet-lt17266.false c.if-n-gt8.true) e.0
    (e.1 ∙ ap Ok c.so_far.ensures) e.2 refl

pub returns-then-not-has_own_place : goal.returns-then-not-has_own_place
unfolding sheet_places
returns-then-not-has_own_place c =
    let m = c.args.m in
    let long : length c.args.m.line ≡ 8 = search (rules, c.well_formed) in
    let some : 1 ≤ m.waiting = (let n = c.if-n-eq0.false in omega arith) in
    let f = get_or m.line 0 no_district in
    let ds = drop 1 (waiting_in m) in
    let ahead = ahead_is m long some in
    let t = c.has_own_place in
    let own = sym (t.ensures f refl ∙ own_as f c.left-others.result ds c.left-others.ensures) ∙ c.if-not-has_own_place.true in
    let s = c.still-then-not-has_own_place in
    let e = s.ensures in
    turned_as m _ _ s.result stuck (other_met m f ds ahead _ c.if-sheet-lt17266.false own) e.0 (e.1 ∙ ap Ok c.so_far.ensures) e.2 refl

pub served-requires : goal.served-requires
unfolding sheet_places
served-requires c = c.if-sheet-lt17266.false

pub after-requires : goal.after-requires
after-requires c =
    let m = c.args.m in
    let long : length c.args.m.line ≡ 8 = search (rules, c.well_formed) in
    let some : 1 ≤ m.waiting = (let n = c.if-n-eq0.false in omega arith) in
    let most : m.waiting ≤ 8 = c.if-n-gt8.false in
    others_few m c.left-others.result long some most c.left-others.ensures

pub returns : goal.returns
unfolding sheet_places
returns c =
    let m = c.args.m in
    let long : length c.args.m.line ≡ 8 = search (rules, c.well_formed) in
    let some : 1 ≤ m.waiting = (let n = c.if-n-eq0.false in omega arith) in
    let f = get_or m.line 0 no_district in
    let ds = drop 1 (waiting_in m) in
    let ahead = ahead_is m long some in
    let most : m.waiting ≤ 8 = c.if-n-gt8.false in
    let x = c.served in
    let t = c.has_own_place in
    let l = c.left-others in
    let own = sym (t.ensures f refl ∙ own_as f l.result ds l.ensures) ∙ c.if-not-has_own_place.false in
    served_turned m f ds ahead most _ _ c.if-sheet-lt17266.false x.result c.after.result own x.ensures (c.after.ensures ds l.ensures)
