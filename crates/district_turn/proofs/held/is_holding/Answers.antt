-- Where some tree was tried, the links have to be a tree, and the cost has to be its cost.
use mathlib.Core.Path.{◌≡◌, sym, ap, ◌∙◌}
use mathlib.Core.Bool.{Bool, ◌&&◌}
use lib.ListN.{length}
use lib.Dec.{eqb}
use Rattle.plan.specs.Records.{plan_value}
use Rattle.postman.specs.Balancing.{completion_cost}
use Rattle.tree_search.specs.Resumed.{links_by}
use Rattle.preparation.specs.Laws.Preparation.{component_range}
use Rattle.district_turn.specs.DistrictTurn.{is_tree}
use Rattle.district_turn.specs.Laws.DistrictTurn.{holding_first, holding_later, and_first}
use Rattle.district_turn.specs.Laws.Holding.{held_cost, held_tested, held_tree}
use borrow.Author.Rules.{rules}
use Rattle.district_turn.proofs.held.is_holding.Goals as goal

pub returns-then-g-eq0 : goal.returns-then-g-eq0
returns-then-g-eq0 c = sym (holding_first (plan_value c.args.p.now.good.now.plan) c.args.g c.if-g-eq0.true)

pub is_tree-requires : goal.is_tree-requires
is_tree-requires c = rw c.from-k.ensures (component_range _ _ _ c.args.p.now.prepared)

pub returns-then-not-is_tree : goal.returns-then-not-is_tree
returns-then-not-is_tree c =
    let p = plan_value c.args.p.now.good.now.plan in
    let lt : length c.args.g.tails ≡ 8 = search (rules, c.well_formed) in
    let lh : length c.args.g.heads ≡ 8 = search (rules, c.well_formed) in
    let t = c.is_tree in
    let q = held_tested p _ _ c.args.p.now.prepared c.args.g.tails c.args.g.heads lt lh t.result (rw c.from-k.ensures at t.ensures) in
    sym (holding_later p c.args.g c.if-g-eq0.false ∙ and_first (is_tree p (links_by p c.args.g)) _ (sym q ∙ c.if-not-is_tree.true))

pub overflow_sub-n : goal.overflow_sub-n
overflow_sub-n c = rw c.from-k.ensures ((component_range _ _ _ c.args.p.now.prepared).0)

pub tree_cost-requires : goal.tree_cost-requires
tree_cost-requires c =
    let lt : length c.args.g.tails ≡ 8 = search (rules, c.well_formed) in
    let lh : length c.args.g.heads ≡ 8 = search (rules, c.well_formed) in
    let t = c.is_tree in
    rw c.from-k.ensures (held_tree _ _ _ c.args.p.now.prepared c.args.g.tails c.args.g.heads lt lh ((rw c.from-k.ensures at t.ensures).0 c.if-not-is_tree.false))

pub returns : goal.returns
returns c =
    let p = plan_value c.args.p.now.good.now.plan in
    let g = c.args.g in
    let lt : length c.args.g.tails ≡ 8 = search (rules, c.well_formed) in
    let lh : length c.args.g.heads ≡ 8 = search (rules, c.well_formed) in
    let t = c.is_tree in
    let q = held_tested p _ _ c.args.p.now.prepared g.tails g.heads lt lh t.result (rw c.from-k.ensures at t.ensures) in
    let e = held_cost p _ _ c.args.p.now.prepared g.tails g.heads _ (rw c.from-k.ensures at c.tree_cost.ensures) in
    let same = eqb g.cost (completion_cost p (links_by p g)) in
    ap (λ y. eqb g.cost y) e
    ∙ sym (holding_later p g c.if-g-eq0.false ∙ ap (λ (y : Bool). y && same) (sym q ∙ c.if-not-is_tree.false))
