-- The entries, one by one.
use Rattle.std.proofs.Common.{rules, ◌≡◌}
use Rattle.postman_laws.specs.Laws.Arrays.{from_fn_each}
use Rattle.postman.specs.Steps.{cell}
use Rattle.network.specs.Thinning.{flag, nearby}
use Rattle.network.proofs.thinning.row_near.Goals as goal

pub returns : goal.returns
returns c = λ x l. from_fn_each _ (λ k y. y ≡ nearby (flag c.args.pairs.now c.args.i k) (cell c.args.d.now c.args.i k)) _ (λ k y q h. search rules) _ _ c.from_fn.ensures.items x 0 l
