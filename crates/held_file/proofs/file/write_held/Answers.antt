-- The writer's bytes over zeros are the file, held (`written_held`).
use Rattle.std.proofs.Common.{ℕ}
use Rattle.std.proofs.lemmas.List.{length-replicate}
use Rattle.plan_writer.specs.Laws.Writing.{refusal_given}
use Rattle.held_file.specs.Laws.Held.{zeros, written_held, stopped_held}
use Rattle.held_file.proofs.file.write_held.Goals as goal

pub returns-in_err-length : goal.returns-in_err-length
returns-in_err-length c =
    let w = rw (length-replicate {A = ℕ} 1475 0) at (refusal_given _ _ zeros _ c.in_err-length.ensures.answered) in
    stopped_held _ _ _ _ c.from_residual.ensures.1 w

pub returns : goal.returns
returns c = written_held _ _ _ c.in_ok-length.ensures.answered _ c.write_plan.ensures.bytes_written
