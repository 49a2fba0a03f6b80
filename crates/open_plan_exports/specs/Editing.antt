-- What the calls of an open plan answer to a caller in another language.
use Rattle.std.specs.Prelude.{◌≡◌, cond, List, ◌++◌, ℕ, ◌≤◌, ◌<◌, ℤ, pos, neg_ℤ, length, drop, ltb}
use Rattle.std.proofs.Math.Option.{Option, none, some}
use Rattle.postman.specs.Refusal.{first_refusal, answer, unless}
use Rattle.postman.specs.PlanFile.{file_conditions}
use Rattle.postman.specs.OpenPlan.{Call}
use Rattle.postman.specs.Windows.{Departure}
use Rattle.refusal.specs.Verdict.{or_else}
use Rattle.held_file.specs.Held.{file_in, held_of}
use Rattle.open_plan.specs.declared.OpenPlan.{OpenPlan}
use Rattle.open_plan.specs.declared.Moved.{Moved}
use Rattle.open_plan.specs.State.{fresh_state, refusal_of, next}
use Rattle.open_plan.specs.Contract.{IsMoved}
use Rattle.answers.specs.Number.{one_number}
use Rattle.exports.specs.Call.{IsExportedCallAt}
use Rattle.open_plan_bytes.specs.StateBytes.{open_bytes, open_in, state_bytes}

-- 8 short sheet: a lent slice below the state.
abbrev pub short_state : List ℕ → Option ℕ → Option ℕ
short_state bytes o = cond (ltb (length bytes) open_bytes) (some 8) o

-- Opening is refused for the file first.
abbrev pub open_refusal : List ℕ → List ℕ → Option ℕ
open_refusal file bytes = or_else (first_refusal (file_conditions file)) (short_state bytes none)

pub record IsExportedOpen (file bytes bytes' : List ℕ) (number : ℤ) : Type 0 where
  pub number_is : number ≡ one_number (answer (open_refusal file bytes) 0)
  pub state_is : bytes' ≡ unless (open_refusal file bytes) (state_bytes (fresh_state (held_of file)) ++ drop open_bytes bytes) bytes

-- A change, a mark or a return.
abbrev pub move_refusal : Call → List ℕ → Option ℕ
move_refusal c bytes = short_state bytes (refusal_of (open_in bytes) c)

pub record IsExportedMove (c : Call) (bytes bytes' : List ℕ) (number : ℤ) : Type 0 where
  pub number_is : number ≡ one_number (answer (move_refusal c bytes) 0)
  pub state_is : bytes' ≡ unless (move_refusal c bytes) (state_bytes (next (open_in bytes) c) ++ drop open_bytes bytes) bytes

-- What a call leaves that answers the lent state by `post`: what the move c leaves, where `post` is what c answers.
abbrev pub IsMovedBy : (OpenPlan → Moved → Type 0) → List ℕ → List ℕ → ℤ → Type 0
IsMovedBy post bytes bytes' number =
    (c : Call) → ((r : Moved) → post (open_in bytes) r → IsMoved (open_in bytes) c r) → IsExportedMove c bytes bytes' number

-- Asking: what the plan call at a departure answers for the file that is held; a slice below the state is refused, and nothing is changed.
pub record IsExportedAsk (bytes : List ℕ) (budget : ℕ) (windows : List ℕ) (d : Departure) (sheet sheet' words words' : List ℕ)
    (u u' : List ℤ) (number : ℤ) : Type 0 where
  pub asked : open_bytes ≤ length bytes
      → IsExportedCallAt (file_in (open_in bytes).plan) budget windows d sheet sheet' words words' u u' number
  pub short : length bytes < open_bytes → (number ≡ neg_ℤ (pos 8)) × (sheet' ≡ sheet) × (words' ≡ words) × (u' ≡ u)
