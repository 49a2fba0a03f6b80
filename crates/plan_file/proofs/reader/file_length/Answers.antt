-- `file_length` meets its contract: the bits, in bytes.
use Rattle.std.proofs.Common.{ap, ◌∙◌, ℕ, ◌+◌, ◌/◌}
use Rattle.postman.specs.PlanFile.{file_length}
use Rattle.plan_file.specs.Laws.Room.{in_bytes}
use Rattle.plan_file.proofs.reader.file_length.Goals as goal

pub returns : goal.returns
unfolding file_length
returns c = c.div_ceil.ensures ∙ in_bytes c.file_bits.result ∙ ap (λ (b : ℕ). (b + 7) / 8) c.file_bits.ensures
