-- What the calls of a machine of districts answer to a caller in another language.
use Rattle.std.specs.Prelude.{◌≡◌, List, [], ◌∷◌, ◌++◌, map, ℕ, ◌≤◌, ◌<◌, ℤ, pos, neg_ℤ, length, drop, replicate}
use Rattle.district_entry.specs.declared.enter.Entered.{Entered}
use Rattle.districts.specs.declared.turn.Turned.{Turned}
use Rattle.postman.specs.DistrictRuns.{Event, entry, turned}
use Rattle.district_entry.specs.Entered.{IsEntered}
use Rattle.districts.specs.Turned.{IsTurned}
use Rattle.machine_bytes.specs.MachineBytes.{districts_bytes, machine_in}
use Rattle.machine_bytes.specs.MachineStored.{IsEntryStored, IsTurnHandedOver}

-- 8 short sheet: a lent slice below the machine. Nothing is changed.
abbrev pub IsRefusedShort : List ℕ → List ℕ → ℤ → Type 0
IsRefusedShort bytes bytes' number = (number ≡ neg_ℤ (pos 8)) × (bytes' ≡ bytes)

-- THE START: zeros are a machine with no district inside.
pub record IsStarted (bytes bytes' : List ℕ) (number : ℤ) : Type 0 where
  pub started : districts_bytes ≤ length bytes → (number ≡ pos 0) × (bytes' ≡ replicate districts_bytes 0 ++ drop districts_bytes bytes)
  pub short : length bytes < districts_bytes → IsRefusedShort bytes bytes' number

-- ---- an entry

pub record IsExportedEntry (plan : List ℕ) (budget : ℕ) (bytes bytes' : List ℕ) (number : ℤ) : Type 0 where
  pub entered : districts_bytes ≤ length bytes
      → (r : Entered) × IsEntered (machine_in bytes) plan budget r × IsEntryStored r bytes bytes' number
  pub short : length bytes < districts_bytes → IsRefusedShort bytes bytes' number

-- ---- a turn

pub record IsExportedTurn (bytes bytes' sheet sheet' words words' : List ℕ) (u u' : List ℤ) (number : ℤ) : Type 0 where
  pub turned : districts_bytes ≤ length bytes
      → (r : Turned) × IsTurned (machine_in bytes) sheet sheet' r × IsTurnHandedOver r bytes bytes' words words' u u' number
  pub short : length bytes < districts_bytes → IsRefusedShort bytes bytes' number × (sheet' ≡ sheet) × (words' ≡ words) × (u' ≡ u)

-- ---- runs

-- A call, with what it was given and the number that it answered: an entry of a plan with a budget; a turn with a sheet of so many places.
pub data Call : Type 0 where
  enters : List ℕ → ℕ → ℤ → Call
  turns : ℕ → ℤ → Call

abbrev pub event_of : Call → Event
event_of (enters plan budget n) = entry plan budget
event_of (turns places n) = turned places

abbrev pub events_of : List Call → List Event
events_of cs = map event_of cs

-- A turn with such a sheet.
pub record LentTurn (bytes bytes' : List ℕ) (places : ℕ) (number : ℤ) : Type 0 where
  pub sheet : List ℕ
  pub sheet' : List ℕ
  pub words : List ℕ
  pub words' : List ℕ
  pub u : List ℤ
  pub u' : List ℤ
  pub contract : IsExportedTurn bytes bytes' sheet sheet' words words' u u' number
  pub size : length sheet ≡ places

-- The bytes after the calls, the latest first, from a start that is not refused: each call has the contract of its
-- function, on the bytes that the call before it left.
unfoldable pub LedLent : List Call → List ℕ → Type 0
LedLent [] bytes = (old : List ℕ) × (n : ℤ) × IsStarted old bytes n × (districts_bytes ≤ length old)
LedLent (enters plan budget n ∷ cs) bytes = (b : List ℕ) × LedLent cs b × IsExportedEntry plan budget b bytes n
LedLent (turns places n ∷ cs) bytes = (b : List ℕ) × LedLent cs b × LentTurn b bytes places n
