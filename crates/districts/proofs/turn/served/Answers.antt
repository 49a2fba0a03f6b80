-- Each test that it fails leaves it stuck; where it passes them its plan is read, and the turn is the plan's.
use mathlib.Core.Path.{sym}
use native.Mathlib.Omega.{arith}
use Rattle.plan_file.specs.Laws.Reading.{accepted_value, read_good}
use Rattle.district_turn.specs.Laws.DistrictTurn.{is_stuck}
use Rattle.districts.specs.Laws.Turned.{too_long, too_dear, all_tried, unread, readable, turn_by_file}
use Rattle.districts.proofs.turn.served.Goals as goal

pub returns-then-n-gt1475 : goal.returns-then-n-gt1475
returns-then-n-gt1475 c = is_stuck _ _ _ _ _ (too_long _ c.if-n-gt1475.true)

pub returns-then-d-gt1000000 : goal.returns-then-d-gt1000000
returns-then-d-gt1000000 c = is_stuck _ _ _ _ _ (too_dear _ c.if-d-gt1000000.true)

pub returns-then-d : goal.returns-then-d
returns-then-d c = is_stuck _ _ _ _ _ (all_tried _ c.if-d.true)

pub turn_read-requires : goal.turn_read-requires
turn_read-requires c =
    let most = c.if-d-gt1000000.false in
    let some = c.if-d.false in
    (omega arith, c.requires, omega arith)

pub invariant_of-turn_read-clause-well_formed : goal.invariant_of-turn_read-clause-well_formed
invariant_of-turn_read-clause-well_formed c = read_good c.in-Ok.ensures

pub returns-in-Err : goal.returns-in-Err
returns-in-Err c = is_stuck _ _ _ _ _ (unread _ _ (sym c.in-Err.ensures.verdict))

pub returns-in-Ok : goal.returns-in-Ok
returns-in-Ok c =
    let i = c.in-Ok.ensures in
    let e = sym i.verdict in
    let q = accepted_value _ _ i e in
    let fits = c.if-n-gt1475.false in
    let most = c.if-d-gt1000000.false in
    let some = c.if-d.false in
    turn_by_file _ _ _ _ _ q (readable _ fits (omega arith) most e) c.turn_read.ensures
