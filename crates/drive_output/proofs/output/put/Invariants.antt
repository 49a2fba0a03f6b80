-- Less than a block waits.
use Rattle.std.proofs.Common.{◌<◌}
use Rattle.drive_output.proofs.output.put.Given as goal

abbrev pub invariant-loop-byte : goal.invariant-loop-byte
invariant-loop-byte l = l.n < 4096
