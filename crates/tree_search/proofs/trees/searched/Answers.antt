-- Where no tree was tried, the best of so many costs less than what is known.
use native.Mathlib.Omega.{arith}
use Prim.Native.Nat.{◌<◌}
use Rattle.small_counts.specs.Matrix.{cap}
use Rattle.tree_search.specs.Laws.Improved.{can_begin, first_searched}
use Rattle.tree_search.proofs.trees.searched.Goals as goal

pub improve-requires : goal.improve-requires
improve-requires c =
    let k = c.args.p.now.prepared.base.known in
    let small : c.args.budget < cap = (let l = c.ranges.budget in omega (arith, l.fits)) in
    (c.requires.0, can_begin _ k.plannable k.few _ c.requires.1 small)

pub returns : goal.returns
returns c =
    let k = c.args.p.now.prepared.base.known in
    first_searched _ k.plannable k.few _ c.requires.1 _ c.improve.ensures
