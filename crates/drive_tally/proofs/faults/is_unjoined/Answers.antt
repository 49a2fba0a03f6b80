-- The invariant: there is no gap before place i of the rest, and v is the head of the arc before it.
use Rattle.std.proofs.Common.{rules, arith, sym, ap, ◌∙◌}
use Rattle.postman.specs.Plan.{Arc}
use Rattle.drive_tally.specs.Rows.{plan_over}
use Rattle.drive_tally.specs.Laws.Places.{place_row, place_arc}
use Rattle.drive_tally.specs.Laws.Faults.{no_gap_none, first_row, rest_known, no_gap_start_known, no_gap_next, gap_here, last_joint}
use Rattle.drive_tally.proofs.faults.is_unjoined.Goals as goal

pub returns-in_default : goal.returns-in_default
returns-in_default c = no_gap_none (plan_over c.args.arcs.now) c.args.places.now (search rules)

pub bounds-arcs-first : goal.bounds-arcs-first
bounds-arcs-first c = first_row c.args.arcs.now c.args.places.now _ _ c.in-Some.ensures.cases.0 c.requires

pub bounds-arcs-first-in-Some : goal.bounds-arcs-first-in-Some
bounds-arcs-first-in-Some c = first_row c.args.arcs.now c.args.places.now _ _ c.in-Some.ensures.cases.0 c.requires

pub loop-place-init : goal.loop-place-init
loop-place-init c = no_gap_start_known c.args.arcs.now c.args.places.now _ _ c.in-Some.ensures.cases.0 c.requires

pub bounds-arcs-k : goal.bounds-arcs-k
bounds-arcs-k c =
    let known = rest_known c.args.arcs.now c.args.places.now _ _ c.in-Some.ensures.cases.0 c.requires in
    place_row c.args.arcs.now c.in-Some.rest.now known c.loop-place.place-index (omega arith)

pub returns-then-v-arcs : goal.returns-then-v-arcs
returns-then-v-arcs c =
    let l = c.loop-place in
    let known = rest_known c.args.arcs.now c.args.places.now _ _ c.in-Some.ensures.cases.0 c.requires in
    let a = place_arc c.args.arcs.now c.in-Some.rest.now known l.place-index (omega arith) in
    gap_here (plan_over c.args.arcs.now) c.args.places.now c.in-Some.rest.now _ l.v l.place-index (omega arith) l.invariant
    (λ h. c.if-v-arcs.true (h ∙ ap (λ (x : Arc). x.tail) a))

pub bounds-arcs-k-else-v-arcs : goal.bounds-arcs-k-else-v-arcs
bounds-arcs-k-else-v-arcs c =
    let known = rest_known c.args.arcs.now c.args.places.now _ _ c.in-Some.ensures.cases.0 c.requires in
    place_row c.args.arcs.now c.in-Some.rest.now known c.loop-place.place-index (omega arith)

pub loop-place-preserved : goal.loop-place-preserved
loop-place-preserved c =
    let l = c.loop-place in
    let p = plan_over c.args.arcs.now in
    let w = c.args.places.now in
    let rest = c.in-Some.rest.now in
    let known = rest_known c.args.arcs.now w rest _ c.in-Some.ensures.cases.0 c.requires in
    let a = place_arc c.args.arcs.now rest known l.place-index (omega arith) in
    no_gap_next p w rest _ l.v l.place-index _ (omega arith) l.invariant (c.if-v-arcs.false ∙ ap (λ (x : Arc). x.tail) (sym a)) (ap (λ (x : Arc). x.head) a)

pub returns : goal.returns
returns c =
    let l = c.loop-place in
    last_joint (plan_over c.args.arcs.now) c.args.places.now c.in-Some.rest.now _ l.v l.place-index (omega arith) l.invariant
