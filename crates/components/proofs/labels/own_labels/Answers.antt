-- Each label is its vertex.
use Rattle.std.proofs.Common.{rules, ◌≡◌}
use Rattle.postman_laws.specs.Laws.Arrays.{from_fn_each}
use Rattle.components.proofs.labels.own_labels.Goals as goal

pub returns : goal.returns
returns c = (c.from_fn.ensures.items.long, λ v l. from_fn_each _ (λ k y. y ≡ k) _ (λ k y q h. search rules) _ _ c.from_fn.ensures.items v 0 l)
