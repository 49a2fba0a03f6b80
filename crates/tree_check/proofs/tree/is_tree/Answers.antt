-- The invariant: the links before the qth enter their components, and the sets of their sources are kept.
use native.Mathlib.Omega.{arith}
use Rattle.tree_check.specs.Laws.Tree.{all_right}
use Rattle.tree_check.proofs.tree.is_tree.Goals as goal

pub returns : goal.returns
returns c =
    let l = c.loop-q in
    let t = c.loop-q-test.false in
    all_right c.args.links.now c.args.component.now c.args.tails c.args.heads l.sets c.args.k c.all_reached.result (λ j one m. l.invariant.4 j one (omega arith)) c.all_reached.ensures
