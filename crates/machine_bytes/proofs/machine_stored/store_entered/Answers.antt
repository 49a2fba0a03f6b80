-- By the answer: a place, with the machine stored, or a refusal.
use mathlib.Core.Path.{refl, ◌∙◌}
use Rattle.integers.specs.Linear.{back64}
use Rattle.machine_bytes.specs.Laws.MachineStored.{entry_stored, entry_refused}
use Rattle.machine_bytes.proofs.machine_stored.store_entered.Goals as goal

pub returns-in-Ok : goal.returns-in-Ok
returns-in-Ok c =
    let m = c.store_machine.ensures in
    entry_stored _ _ _ _ _ c.in-Ok.is (back64 _ c.from.type_inv ∙ c.from.ensures) m.0 m.1

pub returns-in-Err : goal.returns-in-Err
returns-in-Err c = entry_refused _ _ _ _ _ c.in-Err.is refl (back64 _ c.refused_number.type_inv ∙ c.refused_number.ensures)
