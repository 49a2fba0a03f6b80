-- The invariant: what was spent, what is due and the places from the ith on are the tally of the whole list, whose cost leaves room for the sum.
use Prim.Native.Nat.{◌<◌}
use native.Mathlib.Omega.{arith}
use lib.ListN.{length}
use Rattle.drive_tally.specs.Rows.{plan_over}
use Rattle.drive_tally.specs.Laws.Places.{place_row}
use Rattle.drive_tally.specs.Laws.Tally.{tallied_start, tally_room, tally_more, tallied_end}
use Rattle.drive_tally.proofs.tally.priced.Goals as goal

pub loop-place-init : goal.loop-place-init
loop-place-init c = tallied_start (plan_over c.args.arcs.now) c.args.places.now _ c.requires.cost_fits.2

pub bounds-arcs-k : goal.bounds-arcs-k
bounds-arcs-k c =
    let v = c.loop-place in
    omega (arith, place_row c.args.arcs.now c.args.places.now c.requires.none_foreign v.place-index (omega arith))

pub bounds-arcs-k-in-loop-place : goal.bounds-arcs-k-in-loop-place
bounds-arcs-k-in-loop-place c =
    let v = c.loop-place in
    omega (arith, place_row c.args.arcs.now c.args.places.now c.requires.none_foreign v.place-index (omega arith))

pub bounds-due-k : goal.bounds-due-k
bounds-due-k c =
    let v = c.loop-place in
    omega (arith, place_row c.args.arcs.now c.args.places.now c.requires.none_foreign v.place-index (omega arith), c.requires.cost_fits.0, v.invariant.flags_are.long)

pub overflow_add-cost : goal.overflow_add-cost
overflow_add-cost c =
    let v = c.loop-place in
    let m = c.requires.cost_fits.1 in
    let r = tally_room c.args.arcs.now c.args.places.now c.requires.none_foreign v.due v.cost v.place-index (omega arith) v.invariant c.pass_cost-cost.result c.pass_cost-cost.ensures in
    omega arith

pub bounds-due-k-in-loop-place : goal.bounds-due-k-in-loop-place
bounds-due-k-in-loop-place c =
    let v = c.loop-place in
    omega (arith, place_row c.args.arcs.now c.args.places.now c.requires.none_foreign v.place-index (omega arith), c.requires.cost_fits.0, v.invariant.flags_are.long)

pub loop-place-preserved : goal.loop-place-preserved
loop-place-preserved c =
    let v = c.loop-place in
    let l : v.place-index < length c.args.places.now = omega arith in
    let k = place_row c.args.arcs.now c.args.places.now c.requires.none_foreign v.place-index l in
    let m = c.requires.cost_fits.0 in
    let t = tally_more c.args.arcs.now c.args.places.now c.requires.none_foreign v.due v.cost v.place-index l v.invariant c.pass_cost-cost.result c.pass_cost-cost.ensures (omega arith) in
    t

pub returns : goal.returns
returns c =
    let v = c.loop-place in
    tallied_end (plan_over c.args.arcs.now) c.args.places.now _ v.place-index (omega arith) v.invariant
