-- The calls of a machine of districts, from what is handed over: by the cases of an answer.
use Rattle.std.specs.Prelude.{◌≡◌, refl, List, ℕ, ◌≤◌, ◌<◌, ℤ, pos, neg_ℤ, length}
use Rattle.std.proofs.Common.{subst, arith}
use Rattle.district_machine.specs.declared.machine.Machine.{Machine}
use Rattle.district_entry.specs.declared.enter.Entered.{Entered}
use Rattle.districts.specs.declared.turn.Turned.{Turned}
use Rattle.district_entry.specs.Entered.{IsEntered}
use Rattle.districts.specs.Turned.{IsTurned}
use Rattle.machine_bytes.specs.MachineBytes.{districts_bytes, machine_in}
use Rattle.district_exports.specs.Turns.{IsExportedEntry, IsExportedTurn}
use Rattle.machine_bytes.specs.MachineStored.{IsEntryStored, IsTurnHandedOver}

-- ---- an entry

module _ (plan : List ℕ) (budget : ℕ) (bytes : List ℕ) where
  pub entry_short : (n : ℤ) → length bytes < districts_bytes → n ≡ neg_ℤ (pos 8) → IsExportedEntry plan budget bytes bytes n
  entry_short n l e = record { entered = λ h. absurd (omega arith); short = λ h. (e, refl) }

  pub entry_lent : (bytes' : List ℕ) (n : ℤ) (m : Machine) (r : Entered) → districts_bytes ≤ length bytes → m ≡ machine_in bytes
      → IsEntered m plan budget r → IsEntryStored r bytes bytes' n
      → IsExportedEntry plan budget bytes bytes' n
  entry_lent bytes' n m r l e h s =
      record { entered = λ g. (r, subst (λ (x : Machine). IsEntered x plan budget r) e h, s); short = λ g. absurd (omega arith) }

-- ---- a turn

module _ (bytes sheet words : List ℕ) (u : List ℤ) where
  pub turn_short : (n : ℤ) → length bytes < districts_bytes → n ≡ neg_ℤ (pos 8) → IsExportedTurn bytes bytes sheet sheet words words u u n
  turn_short n l e = record { turned = λ h. absurd (omega arith); short = λ h. ((e, refl), refl, refl, refl) }

  pub turn_lent : (bytes' sheet' words' : List ℕ) (u' : List ℤ) (n : ℤ) (m : Machine) (r : Turned) → districts_bytes ≤ length bytes
      → m ≡ machine_in bytes → IsTurned m sheet sheet' r
      → IsTurnHandedOver r bytes bytes' words words' u u' n → IsExportedTurn bytes bytes' sheet sheet' words words' u u' n
  turn_lent bytes' sheet' words' u' n m r l e h s =
      record { turned = λ g. (r, subst (λ (x : Machine). IsTurned x sheet sheet' r) e h, s); short = λ g. absurd (omega arith) }
