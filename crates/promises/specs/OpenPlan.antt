-- AN OPEN PLAN: "Marks to come back to. An editor tries closings and costs, then returns."
use Rattle.std.specs.Prelude.{◌≡◌, ℕ, ◌<◌, length, get_or, take, Result}
use mathlib.Core.List.{List, Memᴰ}
use Rattle.std.proofs.Math.Option.{Option, none, some}
use Rattle.postman.specs.Refusal.{first_refusal}
use Rattle.postman.specs.PlanFile.{edition, plan_of, file_of, file_conditions}
use Rattle.postman.specs.OpenPlan.{Call, mark, return, opened, outcome, history, refusals}
use Rattle.postman.specs.Windows.{Departure}
use Rattle.refusal.specs.Verdict.{verdict_number}
use Rattle.refusal.specs.declared.Refusal.{Refusal}
use Rattle.solution.specs.Planned.{answer_in}
use Rattle.solution.specs.declared.Planned.{Planned}
use Rattle.windows.specs.Contract.{IsPlanCallAt}
use Rattle.open_plan.specs.declared.OpenPlan.{OpenPlan}
use Rattle.open_plan.specs.declared.Moved.{Moved}
use Rattle.held_file.specs.Held.{file_in}
use Rattle.open_plan.specs.Contract.{IsOpened, IsMoved}
use Rattle.open_plan.specs.Run.{Ran, StandsFor}

-- An opening that was made, of any bytes (numbers below 256), that is not refused. `open_plan` `open` ensures the contract.
pub record Opening (bytes : List ℕ) : Type 0 where
  pub small : (i : ℕ) → get_or bytes i 0 < 256
  pub answer : Moved
  pub contract : IsOpened bytes answer
  pub accepted : verdict_number answer.verdict ≡ none

-- "Opening takes plan bytes, can give 1 to 7 and 13."
abbrev pub OpenRefusals : Type 0
OpenRefusals = (bytes : List ℕ) (r : Moved) → IsOpened bytes r → verdict_number r.verdict ≡ first_refusal (file_conditions bytes)

-- A change, mark or return that is refused alters nothing: `open_plan` `change`, `mark` and `return_to` ensure the contract, on any state.
abbrev pub RefusedAlike : Type 0
RefusedAlike = (s : OpenPlan) (c : Call) (r : Moved) → IsMoved s c r → (k : ℕ) → verdict_number r.verdict ≡ some k → r.state ≡ s

-- "After every list of such calls from an opening on, the open plan equals what the history of accepted changes, marks and returns
-- gives": its edition and its marks too; and each call is refused as the history says. The file that is held is the one written from the
-- open plan, and it reads back.
abbrev pub History : Type 0
History = (bytes : List ℕ) (o : Opening bytes) (cs : List Call) (t : OpenPlan) (numbers : List (Option ℕ))
    → Ran o.answer.state cs t numbers
    → (numbers ≡ refusals (edition bytes) (opened (plan_of bytes)) cs)
    × StandsFor (edition bytes) (outcome (opened (plan_of bytes)) (history (edition bytes) (opened (plan_of bytes)) cs)) t

-- Asking that was done. `open_plan` `ask` ensures the contract, on any state.
pub record Asking (s : OpenPlan) (budget : ℕ) (windows : List ℕ) (d : Departure) (sheet : List ℕ) : Type 0 where
  pub after : List ℕ
  pub answer : Result Planned Refusal
  pub contract : IsPlanCallAt (file_in s.plan) budget windows d sheet after answer

-- "Asking gives what the plan call gives for the file written from it."
abbrev pub AskingGives : Type 0
AskingGives = (bytes : List ℕ) (o : Opening bytes) (cs : List Call) (t : OpenPlan) (numbers : List (Option ℕ))
    → Ran o.answer.state cs t numbers
    → (budget : ℕ) (windows : List ℕ) (d : Departure) (sheet : List ℕ) (a : Asking t budget windows d sheet)
    → IsPlanCallAt
    (file_of (edition bytes) (outcome (opened (plan_of bytes)) (history (edition bytes) (opened (plan_of bytes)) cs)).plan)
    budget windows d sheet a.after a.answer

-- From an opening on: calls, mark k, more calls of which none sets mark k, and a return to it.
pub record Return (bytes : List ℕ) : Type 0 where
  pub opening : Opening bytes
  pub earlier : List Call
  pub before : OpenPlan
  pub earlier_numbers : List (Option ℕ)
  pub come : Ran opening.answer.state earlier before earlier_numbers
  pub k : ℕ
  pub marked : Moved
  pub set_at : IsMoved before (mark k) marked
  pub accepted : verdict_number marked.verdict ≡ none
  pub between : List Call
  pub later : OpenPlan
  pub between_numbers : List (Option ℕ)
  pub gone : Ran marked.state between later between_numbers
  pub not_again : Memᴰ (mark k) between → ⊥
  pub returned : Moved
  pub back : IsMoved later (return k) returned

-- "Returning brings that plan back": such a return is never refused.
abbrev pub NeverRefused : Type 0
NeverRefused = (bytes : List ℕ) (x : Return bytes)
    → (verdict_number x.returned.verdict ≡ none) × (x.returned.state.plan ≡ x.marked.state.plan)

-- "Asking after a return gives what asking at the mark gave, with equal budget, windows, departure and sheet length": every field, the
-- places written, and where the sheets held the same, all of the sheet.
abbrev pub AskedAgain : Type 0
AskedAgain = (bytes : List ℕ) (x : Return bytes) (budget : ℕ) (windows : List ℕ) (d : Departure) (sheet sheet' : List ℕ)
    (a : Asking x.marked.state budget windows d sheet) (b : Asking x.returned.state budget windows d sheet')
    → length sheet ≡ length sheet'
    → (a.answer ≡ b.answer)
    × (take (answer_in a.answer).places a.after ≡ take (answer_in b.answer).places b.after)
    × (sheet ≡ sheet' → a.after ≡ b.after)
