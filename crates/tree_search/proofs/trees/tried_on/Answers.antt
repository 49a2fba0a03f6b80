-- Where no tree was tried, those that are tried now are the first; else what is held is that of the first trees, and the search goes on after them.
use mathlib.Core.Path.{refl, sym, ap, ◌∙◌}
use native.Mathlib.Omega.{arith}
use Rattle.branches.specs.Progress.{Held}
use Rattle.tree_search.specs.Laws.Resumed.{first_on, later_on}
use Rattle.tree_search.proofs.trees.tried_on.Goals as goal

pub returns-then-g-eq0 : goal.returns-then-g-eq0
returns-then-g-eq0 c =
    let f = c.first_tried.ensures in
    let n = f.0 in
    let e = c.if-g-eq0.true in
    let x = first_on _ c.args.p.now.prepared.base.known.plannable c.args.g.cost _ c.args.g.tried c.args.more e in
    (omega arith, f.1 ∙ sym (ap (λ (h : Held). h.cost) x), f.2 ∙ sym (ap (λ (h : Held). h.links) x))

pub returns : goal.returns
returns c =
    let n = c.if-g-eq0.false in
    let x = rw (c.from.ensures, c.from-2.ensures) at c.explored-cost.ensures in
    let e = x ∙ sym (later_on _ c.args.p.now.prepared.base.known.plannable c.args.g.cost _ c.args.g.tried c.args.more (omega arith)) in
    (refl, ap (λ (h : Held). h.cost) e, ap (λ (h : Held). h.links) e)
