-- `read_service` meets its contract: edition 2 has its field, which lies within the arc of 46 bits.
use mathlib.Core.Path.{◌∙◌}
use native.Mathlib.Omega.{arith}
use borrow.Author.Tests.{eq-eqb}
use Prim.Native.Nat.{◌+◌}
use Rattle.postman_laws.specs.Laws.FileLength.{second_width}
use Rattle.bits.specs.Laws.Taking.{taken_within}
use Rattle.plan_arcs.proofs.arcs.read_service.Goals as goal

pub returns-then-edition-eq2 : goal.returns-then-edition-eq2
returns-then-edition-eq2 c =
    let a = c.args in
    let second = eq-eqb _ _ c.if-edition-eq2.true in
    let wide = second_width a.edition second in
    simp second (c.take_at.ensures.0 ∙ (taken_within a.s.now (a.at + 30) 16 (omega arith, omega (arith, wide), omega arith)).0)
