-- Less than a block waits.
use Rattle.std.proofs.Common.{◌<◌}
use Rattle.drive.proofs.put_places.Given as goal

abbrev pub invariant-loop-place : goal.invariant-loop-place
invariant-loop-place l = l.n < 4096
