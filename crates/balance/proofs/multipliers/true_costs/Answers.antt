-- The loop's state after each turn is the fold over the vertices so far. Assumes nothing.
use Rattle.std.proofs.Common.{refl, ap, ◌∙◌, ◌+◌, get_or, take_all, replicate}
use Rattle.std.specs.Prelude.{pos, ◌-ℤ◌}
use Rattle.integers.specs.Linear.{back64}
use Rattle.residual_search.specs.Fold.{fold}
use Rattle.residual_search.specs.Laws.Turns.{fill_more}
use Rattle.balance.specs.Multipliers.{from_root}
use Rattle.balance.proofs.multipliers.true_costs.Goals as goal

pub loop-v-init : goal.loop-v-init
unfolding fold
loop-v-init c = refl

pub loop-v-preserved : goal.loop-v-preserved
loop-v-preserved c =
    fill_more (λ v. pos (get_or c.args.x.now v 0 + get_or c.args.u.now v 0) -ℤ pos (get_or c.args.u.now c.args.root 0)) c.args.vs.vertices.now
    (replicate 64 (pos 0)) c.loop-v.v-index
    c.loop-v.invariant
    c.loop-v-test.true
    c.from-i.ensures
    (back64 _ c.difference.type_inv ∙ c.difference.ensures)

pub returns : goal.returns
unfolding from_root
returns c = c.loop-v.invariant ∙ ap (fold _ _) (take_all _ _ c.loop-v-test.false)
