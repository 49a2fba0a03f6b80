-- What the search keeps is the best tree, which is what is answered.
use native.Mathlib.Omega.{arith}
use Rattle.tree_search.specs.Laws.BestTree.{cost_small, best_held}
use Rattle.solution.specs.Laws.Answer.{concluded_planned}
use Rattle.solution.proofs.solve.solve.Goals as goal

pub conclude-requires : goal.conclude-requires
conclude-requires c =
    let r = c.best-s in
    let b = c.args.p.now.prepared.base.known in
    let l = cost_small _ b.plannable b.few _ c.requires.0 in
    let e = r.ensures.cost in
    (best_held _ b.plannable b.few _ c.requires.0 _ _ r.ensures.links, omega arith, c.requires.1, c.requires.2)

pub returns : goal.returns
returns c =
    let r = c.best-s in
    let b = c.args.p.now.prepared.base.known in
    concluded_planned _ b.plannable b.few _ c.requires.0 r.result _ _ _ r.ensures c.conclude.ensures
