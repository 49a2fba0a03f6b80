-- The invariant: the flags of the rows before the kth say which are those of must arcs, and no other flag is set.
use Rattle.drive_tally.specs.Laws.Tally.{AreFlagged}
use Rattle.drive_tally.proofs.tally.required_flags.Given as goal

abbrev pub invariant-loop-k : goal.invariant-loop-k
invariant-loop-k l = AreFlagged l.arcs l.due l.k
