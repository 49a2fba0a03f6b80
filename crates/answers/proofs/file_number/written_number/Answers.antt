-- The length is at most 1,475, so that it is in range.
use mathlib.Core.Path.{ap}
use Rattle.plan_writer.specs.Writing.{written_answer}
use borrow.Author.Rules.{rules}
use Rattle.answers.proofs.file_number.written_number.Goals as goal

pub overflow_cast-result : goal.overflow_cast-result
overflow_cast-result c = let h = c.requires c.in-Ok.k (ap written_answer c.in-Ok.is) in search rules
