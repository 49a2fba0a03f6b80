-- The entries, one by one.
use Rattle.std.proofs.Common.{rules, ◌≡◌, get_or}
use Rattle.postman.specs.Renumbering.{number_in}
use Rattle.postman_laws.specs.Laws.Arrays.{from_fn_each}
use Rattle.renumbering.proofs.renumbered.entries.Goals as goal

pub returns : goal.returns
returns g c = λ k d l.
    from_fn_each _ (λ k y. (d : _) → y ≡ get_or c.args.xs.now (number_in c.args.numbers.now k) d) _
    (λ k y q h. search rules) _ _ c.from_fn.ensures.items k d l d
