-- `file_bits` meets its contract: each of the two widths is a case of the definition.
use borrow.Author.Tests.{eq-eqb, ne_eqb}
use Rattle.postman.specs.PlanFile.{arc_width, file_bits}
use Rattle.plan_arcs.proofs.arcs.file_bits.Goals as goal

pub returns-then-edition-eq2 : goal.returns-then-edition-eq2
unfolding arc_width file_bits
returns-then-edition-eq2 c = simp (eq-eqb _ _ c.if-edition-eq2.true)

pub returns-else-edition-eq2 : goal.returns-else-edition-eq2
unfolding arc_width file_bits
returns-else-edition-eq2 c = simp (ne_eqb _ _ c.if-edition-eq2.false)
