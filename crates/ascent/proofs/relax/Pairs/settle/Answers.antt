-- What is left of the sweeps, from what the loop holds, is what the multipliers come to. Assumes nothing.
use mathlib.Core.Path.{sym, ap, ◌∙◌}
use mathlib.Core.List.{List}
use lib.IntN.{ℤ}
use Rattle.multiplier_steps.specs.Steps.{capped_all}
use Rattle.ascent.specs.Laws.Bodies.{sweeps_start, sweeps_end, sweeps_none, sweeps_more}
use Rattle.ascent.proofs.relax.Pairs.settle.Goals as goal
use Rattle.ascent.proofs.relax.Pairs.settle.Goals.{else-loop-test, then-loop-test+then-all_closed}

pub loop-init : goal.loop-init
loop-init c = sweeps_start _ _ _ _ _

pub loop-preserved : goal.loop-preserved
loop-preserved c =
    sweeps_more _ _ _ _ c.loop.counter _ _ c.loop.invariant c.loop-test.true (sym c.all_closed.ensures ∙ c.if-all_closed.false) c.sweep.ensures

pub returns : goal.returns
returns c =
    let vs = c.args.self.now.vs.vertices.now in
    let capped : List ℤ → List ℤ = λ x. capped_all x vs in
    c.capped_all.ensures
    ∙ elim c.loop-test.branch [
      | else-loop-test w ↦ ap capped (sym (sweeps_none _ _ _ _ c.loop.counter _ _ w.loop-test.false)) ∙ c.loop.invariant
      | then-loop-test+then-all_closed w ↦
          ap capped (sym (sweeps_end _ _ _ _ _ _ _ (sym w.all_closed.ensures ∙ w.if-all_closed.true))) ∙ c.loop.invariant
    ]
