-- EIGHT DISTRICTS IN TURN: "One machine, empty at first, lays drives for up to eight districts."
use Rattle.std.specs.Prelude.{◌≡◌, Ok, true, false, ℕ, suc, ◌+◌, ◌*◌, ◌≤◌, ◌<◌, length, take}
use mathlib.Core.List.{List, [], ◌∷◌, Memᴰ}
use Rattle.std.proofs.Math.Option.{some}
use Rattle.postman.specs.Refusal.{given}
use Rattle.postman.specs.PlanFile.{plan_of}
use Rattle.postman.specs.PlanCall.{sheet_places, best_cost}
use Rattle.judge.specs.Contract.{judged_answer}
use Rattle.district_machine.specs.declared.machine.Machine.{Machine}
use Rattle.district_entry.specs.declared.enter.Entered.{Entered}
use Rattle.districts.specs.declared.turn.Outcome.TheVariants.{Empty, ShortSheet, Unfinished, Finished}
use Rattle.districts.specs.declared.turn.Turned.{Turned}
use Rattle.postman.specs.Districts.{District, Line, entry_refusal, lowest_free, total, finishes}
use Rattle.postman.specs.DistrictRuns.{Event, run, turns_in, turns_of, last_entry, turns_since}
use Rattle.district_machine.specs.Machine.{line_of}
use Rattle.refusal.specs.Verdict.{verdict_number}
use Rattle.district_entry.specs.Entered.{IsEntered}
use Rattle.districts.specs.Turned.{IsTurned}
use Rattle.districts.specs.Led.{Led}
use Rattle.promises.specs.PlanCall.{Call}
use Rattle.promises.specs.Judging.{Judging}
use Rattle.solution.specs.Planned.{answer_in}

-- `Led es m`: the calls es, the latest first, accepted or not, lead from the empty machine to m. `district_machine` `empty`,
-- `district_entry` `enter` and `districts` `turn` ensure what each step asks for, of any machine.

-- The machine's line is the run's: `run` puts an entry at the back, and takes the front district of an accepted turn away, finished, or
-- to the back.
abbrev pub LineOfRun : Type 0
LineOfRun = (es : List Event) (m : Machine) → Led es m → line_of m ≡ run es

-- ---- entries

-- An entry that was made after a run.
pub record Entry (es : List Event) (bytes : List ℕ) (budget : ℕ) : Type 0 where
  pub machine : Machine
  pub led : Led es machine
  pub answer : Entered
  pub contract : IsEntered machine bytes budget answer

-- "Each enters at the back of the line with its plan and a budget, no windows; entry answers the lowest free place, 0 to 7"; "22 full:
-- eight districts are unfinished; at entry, after the plan call's own refusals but 8."
abbrev pub EntryAnswers : Type 0
EntryAnswers = (es : List Event) (bytes : List ℕ) (budget : ℕ) (x : Entry es bytes budget)
    → (verdict_number x.answer.answer ≡ entry_refusal (run es) bytes budget)
    × ((q : ℕ) → x.answer.answer ≡ Ok q → (q ≡ lowest_free (run es)) × (q < 8))

-- In a refused entry "nothing moves".
abbrev pub RefusedEntry : Type 0
RefusedEntry = (es : List Event) (bytes : List ℕ) (budget : ℕ) (x : Entry es bytes budget) (k : ℕ)
    → verdict_number x.answer.answer ≡ some k → x.answer.machine ≡ x.machine

-- ---- turns

-- A turn that was made after a run.
pub record Turn (es : List Event) (sheet : List ℕ) : Type 0 where
  pub machine : Machine
  pub led : Led es machine
  pub after : List ℕ
  pub answer : Turned
  pub contract : IsTurned machine sheet after answer

-- "A turn with no district inside says so, short sheet or not, and changes nothing."
abbrev pub NobodyInside : Type 0
NobodyInside = (es : List Event) (sheet : List ℕ) (t : Turn es sheet) → run es ≡ []
    → (t.answer.outcome ≡ Empty) × (t.answer.machine ≡ t.machine) × (t.after ≡ sheet)

-- "A short one gets 8, and there […] nothing moves."
abbrev pub ShortSheets : Type 0
ShortSheets = (es : List Event) (sheet : List ℕ) (t : Turn es sheet) (d : District) (l : Line) → run es ≡ d ∷ l
    → length sheet < sheet_places
    → (t.answer.outcome ≡ ShortSheet) × (t.answer.machine ≡ t.machine) × (t.after ≡ sheet)

-- "A turn goes to the front district and takes 1,000 trees or the rest of T. An unfinished one answers the trees so far and their least
-- cost"; "the sheet is […] written in a district's last turn only". The turn's answer names its district's place.
abbrev pub StillGoing : Type 0
StillGoing = (es : List Event) (sheet : List ℕ) (t : Turn es sheet) (d : District) (l : Line) → run es ≡ d ∷ l → sheet_places ≤ length sheet
    → finishes d ≡ false
    → (t.answer.outcome ≡ Unfinished d.place) × (t.after ≡ sheet) × ((answer_in t.answer.planned).trees ≡ d.tried + 1000)
    × ((answer_in t.answer.planned).cost ≡ best_cost (plan_of d.bytes) (d.tried + 1000))

-- "A district's answer equals one plan call with its budget, however many turns it took": with the plan and the budget that it entered
-- with, every field and every place of the sheet.
abbrev pub AsOnePlanCall : Type 0
AsOnePlanCall = (es : List Event) (sheet : List ℕ) (t : Turn es sheet) (d : District) (l : Line) → run es ≡ d ∷ l
    → sheet_places ≤ length sheet
    → finishes d ≡ true → (c : Call (last_entry d.place es).bytes (last_entry d.place es).budget sheet)
    → (t.answer.outcome ≡ Finished d.place) × (t.answer.planned ≡ c.answer) × (t.after ≡ c.after)

-- "Every drive the planner writes must pass with the cost it printed": judged on the plan that the district entered with.
abbrev pub LastTurnPasses : Type 0
LastTurnPasses = (es : List Event) (sheet : List ℕ) (t : Turn es sheet) (d : District) (l : Line) → run es ≡ d ∷ l
    → sheet_places ≤ length sheet → finishes d ≡ true
    → (j : Judging (last_entry d.place es).bytes (take (answer_in t.answer.planned).places t.after))
    → judged_answer j.answer ≡ given (answer_in t.answer.planned).cost

-- ---- what every run promises

-- A district in the line has the plan and the budget that it entered with, whatever entered, left or was refused in between.
abbrev pub AsEntered : Type 0
AsEntered = (es : List Event) (d : District) → Memᴰ d (run es)
    → (d.bytes ≡ (last_entry d.place es).bytes) × (d.budget ≡ (last_entry d.place es).budget)

-- "It finishes in turn T ÷ 1,000 of its own, rounded up": n, if n − 1 turns of it came before.
abbrev pub LastTurn : Type 0
LastTurn = (es : List Event) (d : District) → Memᴰ d (run es) → finishes d ≡ true
    → (total d ≤ suc (turns_since d.place es) * 1000) × (suc (turns_since d.place es) * 1000 < total d + 1000)

-- "No waiting district sees more than seven turns of others before its own, in any run of entries and accepted turns": in any further run
-- that has no turn of it.
abbrev pub SevenTurns : Type 0
SevenTurns = (es : List Event) (d : District) → Memᴰ d (run es)
    → (more : List Event) → turns_of d.place (run es) more ≡ 0 → turns_in (run es) more ≤ 7
