-- What is left of the run, from the places as they are, ends in the circuit; each turn is one step of it. At the end the walk is used up, and the placed legs,
-- all of them, fill the places.
use Prim.Native.Nat.{◌-◌, ◌*◌}
use mathlib.Core.Path.{◌≡◌, ap, ◌∙◌, subst}
use native.Mathlib.Omega.{arith}
use lib.ListN.{drop, replicate, get_or-replicate}
use Rattle.hierholzer.specs.Circuit.{run}
use Rattle.hierholzer.specs.Held.{walk_of, HeldPath}
use Rattle.hierholzer.specs.Laws.Hints.{hints_none}
use Rattle.hierholzer.specs.Laws.Held.{held_first, run_first, run_step, run_last}
use Rattle.hierholzer.proofs.hierholzer.arrange.Goals as goal

pub loop-at-init : goal.loop-at-init
loop-at-init c =
    let a = c.args in
    let n = c.requires.0 in (
      held_first a.tails.now a.heads.now a.order.now (replicate 526 0) c.requires.2.some c.requires.1 (omega arith) (λ e k. get_or-replicate 526 e 0 0 (omega arith)),
      run_first a.tails.now a.heads.now a.order.now c.requires.2.some c.requires.1,
      hints_none a.tails.now _,
    )

pub loop-at-preserved : goal.loop-at-preserved
loop-at-preserved c =
    let e = c.advance-at.ensures in
    let l = c.loop-at in
    (e.0.held, l.invariant.1 ∙ run_step _ _ _ _ _ _ _ _ _ e.0, e.1)

pub returns : goal.returns
returns c =
    let l = c.loop-at in
    let z : l.at.depth ≡ 0 = omega arith in
    run_last c.args.tails.now c.args.heads.now l.order l.used l.at.start (2 * l.at.start - l.at.depth) c.requires.2
    (subst (λ d. HeldPath c.args.tails.now l.order l.used d l.at.start) z l.invariant.0)
    (l.invariant.1 ∙ ap (λ d. run c.args.tails.now c.args.heads.now (2 * l.at.start - l.at.depth) (walk_of l.order d) (drop l.at.start l.order)) z)
