-- L(u) is given, and L(0) is that of the zeros.
use mathlib.Core.Path.{ap, ◌∙◌, subst⁻¹}
use mathlib.Core.Bool.{cond}
use mathlib.Core.List.{List}
use lib.ListN.{get_or}
use lib.IntN.{ℤ, pos}
use Rattle.multipliers.specs.Laws.Solve.{Rooted, priced}
use Rattle.lagrangian.specs.Laws.Bound.{zero_priced}
use Rattle.multipliers.specs.Laws.Ascent.{answered_rooted}
use Rattle.integers.specs.Linear.{back64}
use Rattle.postman.specs.Lists.{maxℤ}
use Rattle.postman.specs.LagrangianBound.{lagrangian_bound}
use Rattle.plan.specs.Records.{plan_value}
use borrow.Author.Rules.{rules}
use Rattle.solution.proofs.solve.floor_found.Goals as goal

pub floor_of-requires : goal.floor_of-requires
floor_of-requires c =
    let r = c.args.p.now.prepared in
    let b = r.base in
    let n = r.network in
    let u = subst⁻¹ (Rooted _) r.multipliers_are (answered_rooted _ b.known.plannable b.known.few) in
    ((plan_value c.args.p.now.good.now.plan, zero_priced (priced _ _ _ _ b _ u _ _ _ _ _ c.args.p.now.long n.required n.components n.required_cost_holds n.imbalance)), c.requires)

pub returns : goal.returns
returns c =
    let p = plan_value c.args.p.now.good.now.plan in
    let w = c.args.whole in
    let k = c.args.cost in
    let r = c.args.p.now.prepared in
    let b = r.base in
    let n = r.network in
    let u = subst⁻¹ (Rooted _) r.multipliers_are (answered_rooted _ b.known.plannable b.known.few) in
    back64 _ c.floor_of.type_inv ∙ c.floor_of.ensures p (zero_priced (priced _ _ _ _ b _ u _ _ _ _ _ c.args.p.now.long n.required n.components n.required_cost_holds n.imbalance))
    ∙ ap (λ (l : ℤ). cond w (pos k) (maxℤ (lagrangian_bound p (λ i. pos 0)) l)) (back64 _ (search rules) ∙ r.bound_is)
    ∙ ap (λ (u : List ℤ). cond w (pos k) (maxℤ (lagrangian_bound p (λ i. pos 0)) (lagrangian_bound p (λ i. get_or u i (pos 0))))) r.multipliers_are
