-- Each vertex has the number of its component.
use Rattle.std.proofs.Common.{rules, ◌≡◌, cond, get_or, false}
use Rattle.postman_laws.specs.Laws.Arrays.{from_fn_each}
use Rattle.components.proofs.components.numbers.Goals as goal

pub returns : goal.returns
returns c = λ v l. from_fn_each _
    (λ k y. y ≡ cond (get_or c.args.required k false) (get_or c.args.ranks.below (get_or c.args.labels k 0) 0) c.args.ranks.all) _ (λ k y q h. search rules) _ _
    c.from_fn.ensures.items v 0 l
