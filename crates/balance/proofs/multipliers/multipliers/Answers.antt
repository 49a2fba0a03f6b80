-- The whole search, and its distances in true costs. Assumes nothing.
use Rattle.std.proofs.Common.{ap, ap₂, ◌∙◌, arith, List, ℕ}
use Rattle.std.proofs.Math.Path.{subst⁻¹}
use Rattle.postman.specs.Steps.{cell}
use Rattle.residual_search.specs.Bounds.{AtMost}
use Rattle.residual_search.specs.Search.{Found, beyond}
use Rattle.residual_search.specs.Step.{residual_length}
use Rattle.residual_search.specs.Laws.Until.{until_whole}
use Rattle.residual_search.specs.Laws.Turns.{search_low}
use Rattle.balance.specs.Multipliers.{from_root, ways, multipliers as greatest}
use Rattle.balance.specs.Records.{state_of}
use Rattle.balance.specs.Laws.Step.{vertices_small, levels_small, residual_ground}
use Rattle.balance.proofs.multipliers.multipliers.Goals as goal

pub invariant_of-lengths : goal.invariant_of-lengths
invariant_of-lengths c = record {
  low = levels_small (cell c.args.d.now) c.args.vs.now c.requires.0 (state_of c.args.s) c.requires.1 c.requires.2;
}

pub invariant_of-list : goal.invariant_of-list
invariant_of-list c = record { below_64 = vertices_small (cell c.args.d.now) c.args.vs.now c.requires.0 }

pub search_towards-found-requires : goal.search_towards-found-requires
search_towards-found-requires c =
    let r = c.requires.0.small c.args.root c.requires.3 in
    (r, r, c.requires.3, c.requires.0.size)

pub true_costs-requires : goal.true_costs-requires
true_costs-requires c =
    let e = ap (λ (w : Found). w.distance) (c.search_towards-found.ensures ∙ until_whole (residual_length (cell c.args.d.now) c.args.s.amounts c.args.s.potentials) c.args.vs.now c.args.root (residual_ground (cell c.args.d.now) c.args.vs.now c.requires.0 (state_of c.args.s) c.requires.1 c.requires.2 c.args.root c.requires.3)) in
    let r = c.requires.0.small c.args.root c.requires.3 in (
      omega (arith, c.from.ensures),
      subst⁻¹ (AtMost beyond) e (search_low _ _ _ _ _),
      levels_small (cell c.args.d.now) c.args.vs.now c.requires.0 (state_of c.args.s) c.requires.1 c.requires.2,
    )

pub returns : goal.returns
unfolding greatest ways
returns c =
    let e = ap (λ (w : Found). w.distance) (c.search_towards-found.ensures ∙ until_whole (residual_length (cell c.args.d.now) c.args.s.amounts c.args.s.potentials) c.args.vs.now c.args.root (residual_ground (cell c.args.d.now) c.args.vs.now c.requires.0 (state_of c.args.s) c.requires.1 c.requires.2 c.args.root c.requires.3)) in
    c.true_costs.ensures ∙ ap₂ (λ (x : List ℕ) (r : ℕ). from_root x c.args.s.potentials c.args.vs.now r) e c.from.ensures
