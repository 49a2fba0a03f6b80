-- The rows, one by one.
use Rattle.std.proofs.Common.{rules, [], get_or}
use Rattle.postman.specs.Renumbering.{number_in}
use Rattle.postman_laws.specs.Laws.Arrays.{from_fn_each}
use Rattle.renumbering.specs.Renumbered.{IsRenumberedRow}
use Rattle.renumbering.proofs.renumbered.renumber_table.Goals as goal

pub returns : goal.returns
returns c = λ i l.
    from_fn_each _ (λ k y. IsRenumberedRow c.args.from.now (get_or c.args.table.now (number_in c.args.from.now k) []) y) _
    (λ k y q h. search rules) _ _ c.from_fn.ensures.items i [] l
