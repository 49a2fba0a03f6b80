-- `put_arc` meets its contract: the field of edition 2 lies within the arc of 46 bits.
use mathlib.Core.Path.{◌∙◌, ap}
use mathlib.Core.List.{List}
use Prim.Native.Nat.{ℕ, ◌+◌}
use native.Mathlib.Omega.{arith}
use borrow.Author.Tests.{eq-eqb, ne_eqb}
use Rattle.postman_laws.specs.Laws.FileLength.{width_le, second_width}
use Rattle.bits.specs.FieldUpdate.{put_field}
use Rattle.plan_writer.specs.PlanUpdate.{put_arc}
use Rattle.plan_writer.proofs.writer.put_arc.Goals as goal

pub put_core-requires : goal.put_core-requires
put_core-requires c =
    let a = c.args in
    (omega (arith, (width_le a.edition).0), omega arith)

pub put_field-requires : goal.put_field-requires
put_field-requires c =
    let a = c.args in
    let wide = second_width a.edition (eq-eqb _ _ c.if-edition-eq2.true) in
    (omega arith, omega (arith, wide, c.put_core.auto.s), omega arith)

pub returns-then-edition-eq2 : goal.returns-then-edition-eq2
unfolding put_arc
returns-then-edition-eq2 c =
    let a = c.args in
    simp (eq-eqb a.edition 2 c.if-edition-eq2.true) (c.put_field.ensures ∙ ap (λ (s : List ℕ). put_field s (a.at + 30) 16 a.a.service) c.put_core.ensures)

pub returns-else-edition-eq2 : goal.returns-else-edition-eq2
unfolding put_arc
returns-else-edition-eq2 c = simp (ne_eqb c.args.edition 2 c.if-edition-eq2.false) c.put_core.ensures
