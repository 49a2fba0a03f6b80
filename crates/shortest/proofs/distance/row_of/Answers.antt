-- Each cost is that of its weight.
use Rattle.std.proofs.Common.{rules, ◌≡◌, get_or}
use Rattle.postman_laws.specs.Laws.Arrays.{from_fn_each}
use Rattle.shortest.specs.Weight.{unweighted}
use Rattle.shortest.proofs.distance.row_of.Goals as goal

pub returns : goal.returns
returns c = λ j l. from_fn_each _ (λ k y. y ≡ unweighted (get_or c.args.weights.now k 0)) _ (λ k y q h. search rules) _ _ c.from_fn.ensures.items j 0 l
