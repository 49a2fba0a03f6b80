-- The least over pairs is the least over links.
use Rattle.pair_costs.specs.Laws.PairCosts.{answer}
use Rattle.integers.specs.Linear.{back64}
use mathlib.Core.Path.{◌∙◌}
use Rattle.pair_costs.proofs.pairs.cheapest_arborescence.Goals as goal

pub returns : goal.returns
returns c =
    λ p wf net f. back64 _ c.solve.type_inv ∙ answer c.args.d.now c.args.u.now c.args.component.now c.args.required.now c.requires.2 p wf c.args.k c.requires.1 net _ c.pair_costs.ensures c.requires.0 _ c.all_left.ensures c.solve.result f c.solve.ensures
