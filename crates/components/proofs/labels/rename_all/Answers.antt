-- Each label is renamed.
use Rattle.std.proofs.Common.{rules, ◌≡◌, get_or}
use Rattle.postman_laws.specs.Laws.Arrays.{from_fn_each}
use Rattle.components.specs.Labels.{rename}
use Rattle.components.proofs.labels.rename_all.Goals as goal

pub returns : goal.returns
returns c = (
  c.from_fn.ensures.items.long,
  λ v l. from_fn_each _ (λ k y. y ≡ rename c.args.from c.args.to (get_or c.args.labels k 0)) _ (λ k y q h. search rules) _ _ c.from_fn.ensures.items v 0 l,
)
