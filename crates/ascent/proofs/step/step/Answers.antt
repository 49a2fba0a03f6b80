-- What the parts answer is the step of the model. Assumes nothing.
use Rattle.integers.specs.Linear.{back64}
use Rattle.ascent.specs.Laws.Bodies.{step_is}
use Rattle.ascent.proofs.step.step.Goals as goal

pub returns : goal.returns
returns c =
    let a = c.args in
    step_is a.d.now a.f.now a.vs.vertices.now a.component.now a.k a.up a.s a.x.now a.before.now c.offers-o.ensures c.single-n.ensures c.grow-t.ensures c.follow-y.ensures c.same-balanced.ensures c.carry_on-z.ensures c.settle.ensures (back64 _ c.result-1.given)
