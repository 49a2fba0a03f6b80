-- Each row of costs is that of its row of weights.
use Rattle.std.proofs.Common.{rules, [], get_or}
use Rattle.postman_laws.specs.Laws.Arrays.{from_fn_each}
use Rattle.shortest.specs.StepContracts.{AreCosts}
use Rattle.shortest.proofs.distance.table_of.Goals as goal

pub returns : goal.returns
returns c =
    λ i l. from_fn_each _ (λ k y. AreCosts (get_or c.args.weights.now k []) y) _ (λ k y q h. search rules) _ _ c.from_fn.ensures.items i [] l
