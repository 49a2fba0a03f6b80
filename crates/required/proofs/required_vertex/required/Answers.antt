-- Each flag is that of its vertex.
use Rattle.std.proofs.Common.{rules, ◌≡◌, false}
use Rattle.postman.specs.Required.{is_required}
use Rattle.plan.specs.Records.{plan_value}
use Rattle.postman_laws.specs.Laws.Arrays.{from_fn_each}
use Rattle.required.proofs.required_vertex.required.Goals as goal

pub returns : goal.returns
returns c = λ v l. from_fn_each _ (λ k y. y ≡ is_required (plan_value c.args.good.now.plan) k) _ (λ k y q h. search rules) _ _ c.from_fn.ensures.items v false l
