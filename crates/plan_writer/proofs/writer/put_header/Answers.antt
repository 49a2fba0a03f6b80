-- `put_header` meets its contract: three fields, one after the other.
use mathlib.Core.Path.{◌∙◌, ap}
use mathlib.Core.List.{List}
use Prim.Native.Nat.{ℕ}
use Rattle.bits.specs.FieldUpdate.{put_field}
use Rattle.plan_writer.specs.PlanUpdate.{put_header}
use Rattle.plan_writer.proofs.writer.put_header.Goals as goal

pub returns : goal.returns
unfolding put_header
returns c =
    let a = c.args in
    c.put_field-3.ensures
    ∙ ap (λ (s : List ℕ). put_field s 11 9 a.m) (c.put_field-2.ensures ∙ ap (λ (s : List ℕ). put_field s 4 7 a.n) c.put_field.ensures)
