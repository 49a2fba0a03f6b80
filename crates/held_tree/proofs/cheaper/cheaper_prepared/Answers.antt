-- What is found is no more than what is known; the floor by it.
use mathlib.Core.Path.{◌∙◌}
use Rattle.integers.specs.Linear.{back64}
use Rattle.held_tree.specs.Laws.Cheaper.{floor_as}
use Rattle.held_tree.proofs.cheaper.cheaper_prepared.Goals as goal

pub returns : goal.returns
returns c =
    let g = c.improve-s in
    record {
      tried_is = g.ensures.tried;
      cheaper = λ l. (let b = g.ensures.cheaper l in record { tried_is = g.ensures.tried; cost_is = b.0; links_are = b.1 });
      none_cheaper = g.ensures.none_cheaper;
      floor_is = back64 _ c.floor_found-floor.type_inv ∙ c.floor_found-floor.ensures ∙ floor_as _ _ _ g.result g.ensures c.requires.whole_least;
      multipliers_are = c.args.p.now.prepared.multipliers_are;
      number_is = c.begin-b.ensures.number;
    }
