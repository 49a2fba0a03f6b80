-- `low` is the offer of its component, and a component that undercuts it is taken.
use mathlib.Core.Path.{◌≡◌, refl, ap, ◌∙◌, sym}
use Prim.Native.Nat.{◌+◌, ◌*◌}
use native.Mathlib.Omega.{arith}
use lib.IntN.{pos}
use lib.ListN.{get_or}
use Rattle.integers.specs.Linear.{back64}
use Rattle.multiplier_steps.specs.Laws.Turns.{next_turn, end}
use Rattle.ascent_tree.specs.Laws.Grown.{cheaper_new, cheaper_old}
use Rattle.ascent_tree.specs.Tree.{cheaper, entry}
use Rattle.multiplier_steps.specs.Turns.{turns}
use Rattle.ascent_tree.proofs.tree.entry.Goals as goal
use Rattle.ascent_tree.proofs.tree.entry.Goals.{then-undercuts, else-undercuts}

pub loop-p-init : goal.loop-p-init
unfolding turns
loop-p-init c =
    let e : c.args.q ≡ 0 * 8 + c.args.q = omega arith in
    (omega arith, omega arith, back64 _ c.low-1.given ∙ ap (λ n. get_or c.args.m.now n (pos 0)) e, refl)

pub loop-p-preserved : goal.loop-p-preserved
loop-p-preserved c =
    let m = c.args.m.now in
    let s = c.args.s in
    let q = c.args.q in
    let p = c.loop-p.p in
    let r = c.loop-p.r in
    let u = simp (back64, c.c-1.given, c.loop-p.invariant.2) at c.undercuts.ensures in
    elim c.if-undercuts.branch [
      | then-undercuts w ↦ (
        omega arith,
        omega (arith, w.r-is),
        w.low-is ∙ back64 _ c.c-1.given ∙ ap (λ n. get_or m (n * 8 + q) (pos 0)) (sym w.r-is),
        next_turn (cheaper m s q) 0 p c.loop-p.invariant.3 (cheaper_new m s q p r (sym u ∙ w.if-undercuts.true) w.r-is),
      )
      | else-undercuts w ↦ (
        omega arith,
        omega (arith, w.r-is),
        w.low-is ∙ c.loop-p.invariant.2 ∙ ap (λ n. get_or m (n * 8 + q) (pos 0)) (sym w.r-is),
        next_turn (cheaper m s q) 0 p c.loop-p.invariant.3 (cheaper_old m s q p r (sym u ∙ w.if-undercuts.false) w.r-is),
      )
    ]

pub returns : goal.returns
unfolding entry
returns c = (end _ _ c.loop-p.p c.loop-p.invariant.3 c.loop-p.invariant.0 (omega arith), c.loop-p.invariant.1)
