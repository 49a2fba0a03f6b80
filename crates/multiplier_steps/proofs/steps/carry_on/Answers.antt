-- One more multiplier is carried on.
use mathlib.Core.Path.{ap, ◌∙◌}
use lib.IntN.{ℤ, pos}
use lib.ListN.{get_or, set}
use Rattle.integers.specs.Linear.{back64}
use Rattle.multiplier_steps.specs.Laws.Turns.{turn_at}
use Rattle.multiplier_steps.specs.Steps.{capped, carried_to}
use Rattle.multiplier_steps.proofs.steps.carry_on.Goals as goal

pub loop-v-preserved : goal.loop-v-preserved
loop-v-preserved c =
    let y = c.args.y in
    let x = c.args.x.now in
    let before = c.args.before.now in
    let v = c.from-v.result in
    let k = c.capped in
    let e = simp (back64, k.type_inv, c.carry-arg-1.given, c.carry-arg-in-loop-v-1.given) at c.carry.ensures in
    let one = simp (back64, c.capped-arg-1.given) at k.ensures.0 in
    turn_at (λ r v. set r v (carried_to (capped (get_or y v (pos 0))) (get_or x v (pos 0)) (get_or before v (pos 0)))) c.args.vs.vertices.now y
    c.loop-v.v-index c.loop-v.invariant c.from-v.ensures
    (ap (set c.loop-v.z v) (back64 _ c.carry.type_inv ∙ e ∙ ap (λ (p : ℤ). carried_to p (get_or x v (pos 0)) (get_or before v (pos 0))) one))
