-- The loop's state after so many turns is the model's.
use mathlib.Core.Path.{◌≡◌, refl, ap, ◌∙◌}
use Prim.Native.Nat.{◌+◌, ◌*◌, ◌-◌}
use native.Mathlib.Omega.{arith}
use Rattle.multiplier_steps.specs.Laws.Turns.{next_turn, end}
use Rattle.ascent_tree.specs.Tree.{Sets, enter, extend}
use Rattle.multiplier_steps.specs.Turns.{turns}
use Rattle.ascent_tree.proofs.tree.extend.Goals as goal

pub loop-q-init : goal.loop-q-init
unfolding turns
loop-q-init c = (refl, refl)

pub loop-q-preserved : goal.loop-q-preserved
loop-q-preserved c =
    let m = c.args.m.now in
    let s = 2 * c.args.i + 1 in
    let t : Sets = (c.loop-q.cost, c.loop-q.from) in
    let q = c.loop-q.q in
    let e : q ≡ q - 1 + 1 = omega arith in
    let f : q + 1 - 1 ≡ q - 1 + 1 = omega arith in (
      c.loop-q.invariant.0,
      rw f (next_turn (λ t a. enter m s t (a + 1)) (c.args.cost.now, c.args.from.now) (q - 1) c.loop-q.invariant.1
          (c.enter.ensures ∙ ap (λ s. enter m s t q) c.loop-q.invariant.0 ∙ ap (enter m s t) e)),
    )

pub returns : goal.returns
unfolding extend
returns c = end _ _ (c.loop-q.q - 1) {n = 7} c.loop-q.invariant.1 (omega arith) (omega arith)
