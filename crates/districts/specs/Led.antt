-- MACHINES THAT ENTRIES AND TURNS LEAD TO: each call's answer meets its contract, and the next call gets its machine.
use Rattle.std.specs.Prelude.{◌≡◌, List, [], ◌∷◌, ℕ, length}
use Rattle.district_machine.specs.declared.machine.Machine.{Machine}
use Rattle.district_entry.specs.declared.enter.Entered.{Entered}
use Rattle.districts.specs.declared.turn.Turned.{Turned}
use Rattle.postman.specs.DistrictRuns.{Event, entry, turned}
use Rattle.district_machine.specs.Machine.{empty_machine}
use Rattle.district_entry.specs.Entered.{IsEntered}
use Rattle.districts.specs.Turned.{IsTurned}

-- The machine after the events, the latest first, from the machine a on; and from the empty one.
unfoldable pub LedFrom : Machine → List Event → Machine → Type 0
LedFrom a [] m = m ≡ a
LedFrom a (entry bytes budget ∷ es) m = (b : Machine) × (r : Entered) × LedFrom a es b × IsEntered b bytes budget r × (r.machine ≡ m)
LedFrom a (turned sheet ∷ es) m = (b : Machine) × (r : Turned) × (old : List ℕ) × (new : List ℕ) × LedFrom a es b × IsTurned b old new r × (length old ≡ sheet) × (r.machine ≡ m)

abbrev pub Led : List Event → Machine → Type 0
Led es m = LedFrom empty_machine es m
