-- FOR OTHER LANGUAGES: open plans and machines of districts, over the bytes that callers lend.
use Rattle.std.specs.Prelude.{◌≡◌, true, false, ℕ, ◌+◌, ◌≤◌, ◌<◌, length, get_or, ℤ, pos, neg_ℤ}
use mathlib.Core.List.{List, [], ◌∷◌, map, Memᴰ}
use Rattle.postman.specs.Refusal.{answer}
use Rattle.postman.specs.PlanFile.{edition, plan_of}
use Rattle.postman.specs.PlanCall.{sheet_places, best_cost}
use Rattle.postman.specs.OpenPlan.{Call, mark, return, opened, outcome, history, refusals}
use Rattle.postman.specs.Windows.{Departure}
use Rattle.held_file.specs.Held.{file_in}
use Rattle.open_plan.specs.Run.{Fits, StandsFor}
use Rattle.postman.specs.Districts.{District, Line, entry_refusal, lowest_free, finishes}
use Rattle.postman.specs.DistrictRuns.{run, last_entry}
use Rattle.answers.specs.Number.{one_number}
use Rattle.answers.specs.Answer.{put_first}
use Rattle.open_plan_bytes.specs.StateBytes.{open_bytes, open_in}
use Rattle.open_plan_exports.specs.Editing.{IsExportedOpen, IsExportedMove}
use Rattle.district_exports.specs.Turns.{Call as MachineCall, events_of, IsExportedEntry, IsExportedTurn, LedLent}
use Rattle.promises.specs.Slices.{Slices, HandsOver, IsAsked, LeaveOneAnswer}
use Rattle.promises.specs.Departure.{CallAt}
use Rattle.promises.specs.Exports.{LentCall}

-- ---- an open plan

-- A run over lent bytes: `postman_change`, `postman_mark` and `postman_return` ensure the contract, on the bytes that the call before
-- left. The numbers are what they answer.
pub data RanLent : List ℕ → List Call → List ℕ → List ℤ → Type 0 where
  ended : (bytes : List ℕ) → RanLent bytes [] bytes []
  called : (bytes last : List ℕ) (c : Call) (cs : List Call) (numbers : List ℤ) (bytes' : List ℕ) (n : ℤ) → Fits c
      → IsExportedMove c bytes bytes' n
      → RanLent bytes' cs last numbers → RanLent bytes (c ∷ cs) last (n ∷ numbers)

-- `postman_open` of a file that answers 0; its bytes are numbers below 256.
pub record LentOpening (file bytes : List ℕ) : Type 0 where
  pub small : (i : ℕ) → get_or file i 0 < 256
  pub after : List ℕ
  pub number : ℤ
  pub contract : IsExportedOpen file bytes after number
  pub zero : number ≡ pos 0

-- "After every list of such calls from an opening on, the open plan equals what the history of accepted changes, marks and returns
-- gives": the calls answer 0 or minus the refusal that the history says, and the bytes hold a state that stands for the open plan.
abbrev pub LentHistory : Type 0
LentHistory = (file bytes : List ℕ) (o : LentOpening file bytes) (cs : List Call) (last : List ℕ) (numbers : List ℤ)
    → RanLent o.after cs last numbers
    → (numbers ≡ map (λ r. one_number (answer r 0)) (refusals (edition file) (opened (plan_of file)) cs))
    × StandsFor (edition file) (outcome (opened (plan_of file)) (history (edition file) (opened (plan_of file)) cs)) (open_in last)

-- `postman_ask`: what the plan call at a departure answers for the file that is held; a slice below the state is refused as 8, and
-- nothing is changed.
abbrev pub AskHandsOver : Type 0
AskHandsOver = (state : List ℕ) (budget : ℕ) (windows : List ℕ) (d : Departure) (old after : Slices) (n : ℤ)
    → IsAsked state budget windows d old after n
    → open_bytes ≤ length state
    → (c : CallAt (file_in (open_in state).plan) budget windows d old.sheet) × (c.after ≡ after.sheet)
    × HandsOver c.answer old after n

abbrev pub ShortState : Type 0
ShortState = (state : List ℕ) (budget : ℕ) (windows : List ℕ) (d : Departure) (old after : Slices) (n : ℤ)
    → IsAsked state budget windows d old after n
    → length state < open_bytes → (n ≡ neg_ℤ (pos 8)) × (after ≡ old)

-- From an opening on: calls, mark k, more calls of which none sets mark k, and a return to it.
pub record LentReturn (file bytes : List ℕ) : Type 0 where
  pub opening : LentOpening file bytes
  pub earlier : List Call
  pub before : List ℕ
  pub earlier_numbers : List ℤ
  pub come : RanLent opening.after earlier before earlier_numbers
  pub k : ℕ
  pub good : k < 4
  pub marked : List ℕ
  pub mark_number : ℤ
  pub set_at : IsExportedMove (mark k) before marked mark_number
  pub between : List Call
  pub later : List ℕ
  pub between_numbers : List ℤ
  pub gone : RanLent marked between later between_numbers
  pub not_again : Memᴰ (mark k) between → ⊥
  pub returned : List ℕ
  pub return_number : ℤ
  pub back : IsExportedMove (return k) later returned return_number

abbrev pub BothAccepted : Type 0
BothAccepted = (file bytes : List ℕ) (x : LentReturn file bytes) → (x.mark_number ≡ pos 0) × (x.return_number ≡ pos 0)

-- "Asking after a return gives what asking at the mark gave, with equal budget, windows, departure and sheet length."
abbrev pub AskedAgain : Type 0
AskedAgain = (file bytes : List ℕ) (x : LentReturn file bytes) (budget : ℕ) (windows : List ℕ) (d : Departure) (old new old' new' : Slices)
    (n n' : ℤ)
    → length old.sheet ≡ length old'.sheet → IsAsked x.marked budget windows d old new n
    → IsAsked x.returned budget windows d old' new' n'
    → LeaveOneAnswer old new n old' new' n'

-- ---- districts

-- `LedLent cs bytes`: the calls cs, the latest first, lead from `postman_districts_start` to these bytes.

-- `postman_enter` answers the lowest free place, or minus the refusal's number.
abbrev pub LentEntry : Type 0
LentEntry = (cs : List MachineCall) (bytes : List ℕ) → LedLent cs bytes → (plan : List ℕ) (budget : ℕ) (after : List ℕ) (n : ℤ)
    → IsExportedEntry plan budget bytes after n
    → n ≡ one_number (answer (entry_refusal (run (events_of cs)) plan budget) (lowest_free (run (events_of cs))))

-- A call of `postman_turn`.
pub record LentTurn (cs : List MachineCall) (old : Slices) : Type 0 where
  pub bytes : List ℕ
  pub led : LedLent cs bytes
  pub machine : List ℕ
  pub after : Slices
  pub number : ℤ
  pub contract
      : IsExportedTurn bytes machine old.sheet after.sheet old.words after.words old.multipliers after.multipliers number

-- It answers 16 with no district inside, and minus 8 for a short sheet; nothing is changed.
abbrev pub LentEmpty : Type 0
LentEmpty = (cs : List MachineCall) (old : Slices) (t : LentTurn cs old) → run (events_of cs) ≡ []
    → (t.number ≡ pos 16) × (t.machine ≡ t.bytes) × (t.after ≡ old)

abbrev pub LentShort : Type 0
LentShort = (cs : List MachineCall) (old : Slices) (t : LentTurn cs old) (d : District) (l : Line) → run (events_of cs) ≡ d ∷ l
    → length old.sheet < sheet_places
    → (t.number ≡ neg_ℤ (pos 8)) × (t.machine ≡ t.bytes) × (t.after ≡ old)

-- Before a district's last turn it answers the place, and among the words the trees so far and their least cost; sheet and multipliers
-- are untouched.
abbrev pub LentGoing : Type 0
LentGoing = (cs : List MachineCall) (old : Slices) (t : LentTurn cs old) (d : District) (l : Line) → run (events_of cs) ≡ d ∷ l
    → sheet_places ≤ length old.sheet
    → finishes d ≡ false
    → (t.number ≡ pos d.place) × (t.after.sheet ≡ old.sheet) × (t.after.multipliers ≡ old.multipliers)
    × (t.after.words ≡ put_first (0 ∷ best_cost (plan_of d.bytes) (d.tried + 1000) ∷ 0 ∷ (d.tried + 1000) ∷ 0 ∷ 0 ∷ []) old.words)

-- The last turn answers 8 and the place, and leaves what one plan call leaves, with the plan and the budget that the district entered with.
abbrev pub LentLast : Type 0
LentLast = (cs : List MachineCall) (old : Slices) (t : LentTurn cs old) (d : District) (l : Line) → run (events_of cs) ≡ d ∷ l
    → sheet_places ≤ length old.sheet
    → finishes d ≡ true → (c : LentCall (last_entry d.place (events_of cs)).bytes (last_entry d.place (events_of cs)).budget old)
    → (t.number ≡ pos (8 + d.place)) × (c.number ≡ pos 0) × (t.after ≡ c.after)
