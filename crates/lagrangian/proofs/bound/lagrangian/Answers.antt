-- The arrays hold the plan's network and D, so the cheapest arborescence is A(u), the price that of D, and the sum is L(u).
use mathlib.Core.Path.{◌∙◌, subst⁻¹}
use Rattle.integers.specs.Linear.{back64, Within}
use Rattle.lagrangian.specs.Laws.Bound.{are_costs, is_network, cheapest_within, cost_small, multipliers_small, imbalances_small, bound_is}
use Rattle.lagrangian.proofs.bound.lagrangian.Goals as goal

pub cheapest_arborescence-a-requires : goal.cheapest_arborescence-a-requires
cheapest_arborescence-a-requires c = let h = c.requires.1 in (h.some, h.few, are_costs _ _ _ _ _ _ _ _ h h.long)

pub price-requires : goal.price-requires
price-requires c = let h = c.requires.1 in (multipliers_small _ _ _ _ _ _ _ _ h, imbalances_small _ _ _ _ _ _ _ _ h)

pub total-requires : goal.total-requires
total-requires c =
    let a = c.cheapest_arborescence-a in
    let h = c.requires.1 in
    let e = a.ensures _ h.plannable.well_formed (is_network _ _ _ _ _ _ _ _ h h.long) h.feasible in
    (cost_small _ _ _ _ _ _ _ _ h, subst⁻¹ (Within 67644702720) (back64 _ c.price.type_inv) c.price.ensures.1, cheapest_within _ _ _ _ _ _ _ _ h _ (back64 _ a.type_inv ∙ e))

pub returns : goal.returns
returns c = λ p h.
    let a = c.cheapest_arborescence-a in
    let e = a.ensures p h.plannable.well_formed (is_network _ _ _ _ _ _ _ _ h h.long) h.feasible in
    back64 _ c.total.type_inv ∙ c.total.ensures ∙ bound_is _ _ _ _ _ _ _ _ h _ _ (back64 _ c.price.type_inv ∙ c.price.ensures.0) (back64 _ a.type_inv ∙ e)
