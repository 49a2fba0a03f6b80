-- `file_edition` meets its contract: a field of four bits fits its type.
use mathlib.Core.Path.{◌∙◌}
use native.Mathlib.Omega.{arith}
use Rattle.bits.specs.Laws.Taking.{first_taken}
use Rattle.postman.specs.PlanFile.{edition}
use Rattle.postman_laws.specs.Laws.BitField.{field_lt}
use Rattle.plan_file.proofs.reader.file_edition.Goals as goal

pub overflow_cast-result : goal.overflow_cast-result
overflow_cast-result c = omega (arith, c.take_at.ensures.0 ∙ first_taken c.args.s.now, field_lt c.args.s.now 0 4)

pub returns : goal.returns
unfolding edition
returns c = c.take_at.ensures.0 ∙ first_taken c.args.s.now
