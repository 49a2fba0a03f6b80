-- The units of the places before x are added; those of place x come next.
use Rattle.drive_legs.specs.Legs.{units_below}
use Rattle.drive_legs.specs.Filled.{Added}
use Rattle.drive_legs.proofs.legs.LaidLegs.add_units.Given as goal

abbrev pub invariant-loop-x : goal.invariant-loop-x
invariant-loop-x l = Added (units_below l.x l.amounts) l.initial.self l.self
