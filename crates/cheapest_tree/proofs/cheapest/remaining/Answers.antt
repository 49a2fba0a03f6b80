-- Each flag is that of its component.
use Rattle.std.proofs.Common.{rules, ◌≡◌, false}
use Rattle.cheapest_tree.specs.CostMatrix.{kept_of}
use Rattle.postman_laws.specs.Laws.Arrays.{from_fn_each}
use Rattle.cheapest_tree.proofs.cheapest.remaining.Goals as goal

pub returns : goal.returns
returns c = λ x l. from_fn_each _ (λ k y. y ≡ kept_of c.args.left c.args.on c.args.c k) _ (λ k y q h. search rules) _ _ c.from_fn.ensures.items x false l
