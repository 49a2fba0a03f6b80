-- The state with the links added balances the required arcs and the links at the least cost.
use mathlib.Core.Path.{ap₂, ◌∙◌}
use Prim.Native.Nat.{◌+◌, ◌≤◌}
use native.Mathlib.Omega.{arith}
use Rattle.balance.specs.Records.{state_of}
use Rattle.tree_check.specs.Laws.Cost.{tails_small, heads_small, links_cost, balanced_cost, whole_cost, cost_small}
use borrow.Author.Rules.{rules}
use Rattle.tree_check.proofs.cost.tree_cost.Goals as goal

pub link_cost-links-requires : goal.link_cost-links-requires
link_cost-links-requires c =
    let b = c.args.p.now.prepared.base in
    let t = c.requires in
    let l = links_cost _ _ _ _ b _ _ t in
    let w = whole_cost _ _ _ _ b _ _ t in
    let m = cost_small _ _ _ _ b _ _ t in
    (tails_small _ _ _ _ b _ _ t, heads_small _ _ _ _ b _ _ t, t.same, omega arith)

pub overflow_add-result : goal.overflow_add-result
overflow_add-result c =
    let b = c.args.p.now.prepared.base in
    let t = c.requires in
    let full = c.with_links-full in
    let x = c.args.p.now.prepared.network.required_cost_holds in
    let y = c.link_cost-links.ensures ∙ links_cost _ _ _ _ b _ _ t in
    let w = whole_cost _ _ _ _ b _ _ t in
    let m = cost_small _ _ _ _ b _ _ t in
    let l : c.args.p.now.parts.now.network.required_cost + c.link_cost-links.result ≤ 1131527310 = omega arith in
    search rules

pub overflow_add-result-2 : goal.overflow_add-result-2
overflow_add-result-2 c =
    let b = c.args.p.now.prepared.base in
    let t = c.requires in
    let full = c.with_links-full in
    let x = c.args.p.now.prepared.network.required_cost_holds in
    let y = c.link_cost-links.ensures ∙ links_cost _ _ _ _ b _ _ t in
    let z = balanced_cost _ _ _ _ b _ _ t (state_of full.result) full.ensures in
    let w = whole_cost _ _ _ _ b _ _ t in
    let m = cost_small _ _ _ _ b _ _ t in
    let l : c.args.p.now.parts.now.network.required_cost + c.link_cost-links.result + full.result.cost ≤ 1131527310 = omega arith in
    search rules

pub returns : goal.returns
returns c =
    let b = c.args.p.now.prepared.base in
    let t = c.requires in
    let full = c.with_links-full in
    let y = c.link_cost-links.ensures ∙ links_cost _ _ _ _ b _ _ t in
    let z = balanced_cost _ _ _ _ b _ _ t (state_of full.result) full.ensures in
    ap₂ ◌+◌ (ap₂ ◌+◌ c.args.p.now.prepared.network.required_cost_holds y) z ∙ whole_cost _ _ _ _ b _ _ t
