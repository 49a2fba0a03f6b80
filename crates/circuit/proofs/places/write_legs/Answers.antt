-- The legs up to x are written.
use Prim.Native.Nat.{◌<◌}
use mathlib.Core.Path.{subst⁻¹}
use lib.ListN.{length}
use Rattle.plan.specs.Rows.{plan_in}
use Rattle.paths.specs.ShortestPath.{shortest_path}
use Rattle.circuit.specs.Laws.Written.{to_none, to_room, to_more}
use Rattle.circuit.proofs.places.write_legs.Goals as goal

pub loop-e-init : goal.loop-e-init
loop-e-init c =
    let a = c.args in
    to_none (shortest_path (plan_in (length a.weights.now) a.arcs.now)) a.legs.now.numbers.now a.legs.now.tails.now a.legs.now.heads.now a.order.now a.places.now

pub write_leg-at-requires : goal.write_leg-at-requires
write_leg-at-requires c =
    let a = c.args in
    let l = c.loop-e in
    let e = c.from.ensures in
    let t = c.loop-e-test.true in record {
      well_formed = c.requires.well_formed;
      have_paths = (subst⁻¹ (λ z. z < length a.legs.now.tails.now) e (c.requires.in_range l.e-index t), c.requires.have_paths.0, c.requires.have_paths.1);
      room = to_room (shortest_path (plan_in (length a.weights.now) a.arcs.now)) a.legs.now.numbers.now a.legs.now.tails.now a.legs.now.heads.now a.order.now a.places.now l.e-index l.at l.places t c.requires.room l.invariant c.from.result e;
    }

pub loop-e-preserved : goal.loop-e-preserved
loop-e-preserved c =
    let a = c.args in
    let l = c.loop-e in
    let w = c.from in
    let g = c.write_leg-at in
    to_more (shortest_path (plan_in (length a.weights.now) a.arcs.now)) a.legs.now.numbers.now a.legs.now.tails.now a.legs.now.heads.now a.order.now a.places.now l.e-index l.at l.places c.loop-e-test.true c.requires.room l.invariant w.result g.result _ w.ensures g.ensures.places_written g.ensures.next_place
