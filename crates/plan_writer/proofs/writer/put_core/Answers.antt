-- `put_core` meets its contract: four fields, one after the other.
use mathlib.Core.Path.{◌∙◌, ap}
use mathlib.Core.List.{List}
use Prim.Native.Nat.{ℕ, ◌+◌}
use Rattle.bits.specs.FieldUpdate.{put_field}
use Rattle.plan_writer.specs.PlanUpdate.{put_core}
use Rattle.plan_writer.proofs.writer.put_core.Goals as goal

pub returns : goal.returns
unfolding put_core
returns c =
    let a = c.args in
    c.put_field-4.ensures
    ∙ ap (λ (s : List ℕ). put_field s (a.at + 14) 16 a.a.cost)
    (c.put_field-3.ensures
    ∙ ap (λ (s : List ℕ). put_field s (a.at + 12) 2 a.a.standing)
    (c.put_field-2.ensures ∙ ap (λ (s : List ℕ). put_field s (a.at + 6) 6 a.a.head) c.put_field.ensures))
