-- The loop's state after each turn is the fold over the vertices so far. Assumes nothing.
use Rattle.std.proofs.Common.{refl, ap, ◌∙◌, ◌+◌, min, get_or, take_all}
use Rattle.residual_search.specs.Fold.{fold}
use Rattle.residual_search.specs.Step.{raise}
use Rattle.residual_search.specs.Laws.Turns.{fill_more}
use Rattle.balance.proofs.augment.raise_by.Goals as goal

pub loop-v-init : goal.loop-v-init
unfolding fold
loop-v-init c = refl

pub loop-v-preserved : goal.loop-v-preserved
loop-v-preserved c =
    fill_more (λ v. get_or c.args.u.now v 0 + min (get_or c.args.x.now v 0) c.args.most) c.args.vs.vertices.now c.args.u.now c.loop-v.v-index
    c.loop-v.invariant
    c.loop-v-test.true
    c.from-i.ensures
    (ap (λ n. get_or c.args.u.now c.from-i.result 0 + n) c.min.ensures)

pub returns : goal.returns
unfolding raise
returns c = c.loop-v.invariant ∙ ap (fold _ _) (take_all _ _ c.loop-v-test.false)
