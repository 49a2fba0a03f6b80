-- The line, and the number of those that wait.
use Rattle.machine_bytes.specs.MachineBytes.{IsSized}
use Rattle.machine_bytes.specs.Laws.MachineBytes.{stored_machine}
use Rattle.machine_bytes.proofs.machine_bytes.store_machine.Goals as goal

pub returns : goal.returns
returns c =
    let l = c.store_line.ensures in
    let z : IsSized c.args.m = record { eight = l.1; each = l.0 } in
    (z, stored_machine c.args.m z _ _ _ c.requires l.2 c.put_long.ensures)
