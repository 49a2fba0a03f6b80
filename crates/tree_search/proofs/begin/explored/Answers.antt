-- The search begins at the root, with the candidates that it asks for; and the trees of the root are all trees.
use mathlib.Core.Path.{ap, ◌∙◌}
use Prim.Native.Nat.{◌-◌}
use Rattle.postman.specs.Component.{component_count}
use Rattle.postman.specs.Balancing.{completion_cost}
use Rattle.plan.specs.Records.{plan_value}
use Rattle.branches.specs.Progress.{advance}
use Rattle.branches.specs.Holding.{held_in}
use Rattle.search.specs.Laws.Tried.{root_trees}
use Rattle.preparation.specs.Preparation.{vertices_in}
use Rattle.tree_bounds.specs.Prepared.{Prepared}
use Rattle.std.proofs.Math.Path.{subst⁻¹}
use Rattle.tree_search.proofs.begin.explored.Goals as goal

pub returns : goal.returns
returns c =
    let b = c.requires.0 in
    let p = plan_value c.args.p.now.good.now.plan in
    let s = c.args.s.now.candidates in
    let known = subst⁻¹ (Prepared p c.args.p.now.table.now (vertices_in c.args.p.now.parts.now) s.start s.source s.tails s.heads) c.from.ensures b.prepared in
    c.advance.ensures _ known b.root.branch
    ∙ ap (advance (completion_cost p) (held_in (component_count p - 1) c.args.g)) (root_trees b.prepared c.args.s.now.root b.root)
