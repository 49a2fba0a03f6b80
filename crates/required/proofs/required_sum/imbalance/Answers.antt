-- D(v) is a difference of degrees.
use Rattle.std.proofs.Common.{rules, ◌≡◌, ◌∙◌, ap₂, ℕ, get_or}
use Rattle.std.specs.Prelude.{pos, ◌-ℤ◌}
use Rattle.plan.specs.Records.{plan_value}
use Rattle.postman_laws.specs.Laws.Arrays.{from_fn_each}
use Rattle.required.specs.Laws.RequiredSum.{imbalance_degrees}
use Rattle.required.proofs.required_sum.imbalance.Goals as goal

pub returns : goal.returns
returns c =
    λ u l. from_fn_each _ (λ k y. y ≡ pos (get_or c.degrees-into.result k 0) -ℤ pos (get_or c.degrees-out.result k 0)) _ (λ k y q h. search rules) _ _ c.from_fn.ensures.items u (pos 0) l
    ∙ ap₂ (λ (x y : ℕ). pos x -ℤ pos y) (c.degrees-into.ensures u l).0 (c.degrees-out.ensures u l).0
    ∙ imbalance_degrees (plan_value c.args.good.now.plan) u
