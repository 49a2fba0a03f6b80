-- AN ENTRY, of any bytes and any budget into any machine.
use Rattle.std.specs.Prelude.{◌≡◌, List, [], ◌∷◌, ◌++◌, ℕ, Ok}
use Rattle.std.proofs.Math.Option.{Option, none, some}
use Rattle.postman.specs.Refusal.{first_refusal}
use Rattle.postman.specs.PlanFile.{file_conditions, is_outside, plan_of}
use Rattle.postman.specs.PlanCall.{highest_budget, budget_conditions, last_conditions}
use Rattle.held_file.specs.Held.{held_of}
use Rattle.district_machine.specs.declared.machine.District.{District as DistrictRecord}
use Rattle.district_machine.specs.declared.machine.Machine.{Machine}
use Rattle.district_entry.specs.declared.enter.Entered.{Entered}
use Rattle.postman.specs.Districts.{entry_refusal, lowest_free}
use Rattle.district_machine.specs.Machine.{waiting_in, line_of, machine_of}
use Rattle.tree_search.specs.Resumed.{nothing_held}
use Rattle.district_entry.specs.Admitted.{admission_number}

-- The plan call's refusals but 8.
unfoldable pub call_part : List ℕ → ℕ → Option ℕ
unfolding first_refusal file_conditions is_outside highest_budget plan_of
call_part bytes budget = first_refusal (file_conditions bytes ++ (budget_conditions budget ++ last_conditions (plan_of bytes)))

-- A district that enters: no tree was tried.
abbrev pub entrant : ℕ → List ℕ → ℕ → DistrictRecord
entrant place bytes budget = record { place = place; plan = held_of bytes; budget = budget; held = nothing_held }

-- In a refused entry "nothing moves".
unfoldable pub moved_unless : Option ℕ → Machine → Machine → Machine
moved_unless none new old = new
moved_unless (some r) new old = old

-- THE MACHINE AFTER AN ENTRY.
abbrev pub after_entry : Machine → List ℕ → ℕ → Machine
after_entry m bytes budget =
    moved_unless (entry_refusal (line_of m) bytes budget) (machine_of (waiting_in m ++ entrant (lowest_free (line_of m)) bytes budget
    ∷ [])) m

-- The refusal, or the lowest free place; and the machine afterwards.
pub record IsEntered (m : Machine) (bytes : List ℕ) (budget : ℕ) (r : Entered) : Type 0 where
  pub refusal : admission_number r.answer ≡ entry_refusal (line_of m) bytes budget
  pub place : (q : ℕ) → r.answer ≡ Ok q → q ≡ lowest_free (line_of m)
  pub machine : r.machine ≡ after_entry m bytes budget
