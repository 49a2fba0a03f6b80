-- The invariant: no place before the ith is foreign.
use mathlib.Core.Path.{sym, ◌∙◌}
use native.Mathlib.Omega.{arith}
use Rattle.postman.specs.Judge.{is_foreign, has_foreign}
use Rattle.drive_tally.specs.Rows.{plan_over}
use Rattle.drive_tally.specs.Laws.Places.{none_more, one_found, none_found}
use Rattle.drive_tally.proofs.faults.has_foreign.Goals as goal

pub returns-then-is_foreign : goal.returns-then-is_foreign
unfolding has_foreign
returns-then-is_foreign c =
    let s = c.args in
    one_found (is_foreign (plan_over s.arcs.now)) s.places.now c.loop-place.place-index (omega arith) c.loop-place.invariant (sym c.is_foreign.ensures ∙ c.if-is_foreign.true)

pub loop-place-preserved : goal.loop-place-preserved
loop-place-preserved c =
    let s = c.args in
    (none_more (is_foreign (plan_over s.arcs.now)) s.places.now c.loop-place.place-index (omega arith) c.loop-place.invariant (sym c.is_foreign.ensures ∙ c.if-is_foreign.false))

pub returns : goal.returns
unfolding has_foreign
returns c =
    let s = c.args in
    none_found (is_foreign (plan_over s.arcs.now)) s.places.now c.loop-place.place-index (omega arith) c.loop-place.invariant
