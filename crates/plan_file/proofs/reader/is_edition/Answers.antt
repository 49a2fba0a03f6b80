-- `is_edition` meets its contract: the tests that the code makes are those of the definition.
use Rattle.std.proofs.Common.{eq-eqb, ne_eqb}
use Rattle.postman.specs.PlanFile.{is_edition}
use Rattle.plan_file.proofs.reader.is_edition.Goals as goal

pub returns-then-e-eq1 : goal.returns-then-e-eq1
unfolding is_edition
returns-then-e-eq1 c = simp (eq-eqb _ _ c.if-e-eq1.true)

pub returns-else-e-eq1 : goal.returns-else-e-eq1
unfolding is_edition
returns-else-e-eq1 c = simp (ne_eqb _ _ c.if-e-eq1.false)
