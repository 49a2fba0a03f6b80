-- The loop's invariant: the first k districts are put.
use Rattle.machine_bytes.specs.Laws.MachineBytes.{AreStored}
use Rattle.machine_bytes.proofs.machine_bytes.store_line.Given as goal

abbrev pub invariant-loop-k : goal.invariant-loop-k
invariant-loop-k l = AreStored l.initial.machine l.fn.line l.machine l.k
