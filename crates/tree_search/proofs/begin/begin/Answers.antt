-- The candidates, the state, the multipliers and the entries are what the search asks.
use mathlib.Core.Path.{ap, ◌∙◌}
use Prim.Native.Nat.{min}
use Rattle.plan.specs.Records.{plan_value}
use Rattle.small_counts.specs.Matrix.{cap}
use Rattle.search.specs.Laws.Tried.{countable, root_count}
use Rattle.preparation.specs.Laws.Preparation.{component_range}
use Rattle.preparation.specs.Preparation.{vertices_in}
use Rattle.tree_bounds.specs.Prepared.{Prepared}
use Rattle.std.proofs.Math.Path.{subst⁻¹}
use Rattle.tree_search.specs.Laws.Begun.{search_prepared, search_given}
use Rattle.tree_search.proofs.begin.begin.Goals as goal

pub of_network-candidates-requires : goal.of_network-candidates-requires
of_network-candidates-requires c = component_range _ _ _ c.args.p.now.prepared

pub root-root-requires : goal.root-root-requires
root-root-requires c =
    let o = c.of_network-candidates.result in
    let i = c.entries_of-entries in
    let p = plan_value c.args.p.now.good.now.plan in
    let r = c.args.p.now.parts.now in
    let h = search_prepared p _ _ c.args.p.now.prepared o (c.of_network-candidates.ensures _ c.args.p.now.prepared.base.known.plannable.well_formed c.args.p.now.prepared.network) in
    let known = subst⁻¹ (Prepared p c.args.p.now.table.now (vertices_in r) o.start o.source o.tails o.heads) c.from-k.ensures h in
    (p, c.args.p.now.table.now, o.start, o.source, o.tails, o.heads, known, search_given p _ _ c.args.p.now.prepared i.result i.ensures)

pub number-requires : goal.number-requires
number-requires c =
    let o = c.of_network-candidates.result in
    let i = c.entries_of-entries in
    let p = plan_value c.args.p.now.good.now.plan in
    let r = c.args.p.now.parts.now in
    let h = search_prepared p _ _ c.args.p.now.prepared o (c.of_network-candidates.ensures _ c.args.p.now.prepared.base.known.plannable.well_formed c.args.p.now.prepared.network) in
    let known = subst⁻¹ (Prepared p c.args.p.now.table.now (vertices_in r) o.start o.source o.tails o.heads) c.from-k.ensures h in
    let b = c.root-root in
    countable known b.result (b.ensures _ _ _ _ _ _ known (search_given p _ _ c.args.p.now.prepared i.result i.ensures))

pub returns : goal.returns
returns c =
    let o = c.of_network-candidates.result in
    let i = c.entries_of-entries in
    let p = plan_value c.args.p.now.good.now.plan in
    let r = c.args.p.now.parts.now in
    let h = search_prepared p _ _ c.args.p.now.prepared o (c.of_network-candidates.ensures _ c.args.p.now.prepared.base.known.plannable.well_formed c.args.p.now.prepared.network) in
    let known = subst⁻¹ (Prepared p c.args.p.now.table.now (vertices_in r) o.start o.source o.tails o.heads) c.from-k.ensures h in
    let b = c.root-root in
    let is = b.ensures _ _ _ _ _ _ known (search_given p _ _ c.args.p.now.prepared i.result i.ensures) in
    record { prepared = h; root = is; number = c.number.ensures ∙ ap (λ x. min x cap) (root_count known b.result is) }
