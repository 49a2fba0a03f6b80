-- THE JUDGING CALL: "Judge a drive laid by another house."
use Rattle.std.specs.Prelude.{◌≡◌, List, ◌↔◌, ℕ, length, take, pos, ◌≤ℤ◌, Result}
use Rattle.std.proofs.Math.Option.{none, some}
use Rattle.postman.specs.Refusal.{first_refusal, refused, given}
use Rattle.postman.specs.PlanFile.{plan_of}
use Rattle.postman.specs.Drive.{IsDrive, drive_cost}
use Rattle.postman.specs.Windows.{Departure}
use Rattle.postman.specs.Marks.{own_marks}
use Rattle.postman.specs.Judge.{unjudged_conditions, judge_refusal}
use Rattle.refusal.specs.declared.Refusal.{Refusal}
use Rattle.judge.specs.Contract.{judged_answer, IsJudged}
use Rattle.promises.specs.Demands.{Accepted}
use Rattle.promises.specs.PlanCall.{Call}
use Rattle.promises.specs.Departure.{CallAt}
use Rattle.promises.specs.TwoCars.{Car}
use Rattle.solution.specs.Planned.{answer_in}

-- A call that was made. `judge` `judge` ensures the contract, for any bytes and any list; it is lent nothing that it could change.
pub record Judging (bytes w : List ℕ) : Type 0 where
  pub answer : Result ℕ Refusal
  pub contract : IsJudged bytes w answer

-- "14 foreign arc […]; 15 unjoined, the last to the first included; 16 missed: a must arc doesn't occur; in this order, after 10, with 8,
-- 9, 11 and 12 not applied."
abbrev pub Refusals : Type 0
Refusals = (bytes w : List ℕ) (j : Judging bytes w) (k : ℕ) → (judged_answer j.answer ≡ refused k) ↔ (judge_refusal bytes w ≡ some k)

-- "Where 1 to 7, 10 and 13 don't apply, it returns the cost exactly when the list is a drive by the definition, and otherwise names the
-- first fault."
abbrev pub Exactly : Type 0
Exactly = (bytes w : List ℕ) (j : Judging bytes w) → first_refusal (unjudged_conditions bytes (length w)) ≡ none
    → ((c : ℕ) × (judged_answer j.answer ≡ given c)) ↔ IsDrive (plan_of bytes) w

-- A cost that is returned is a drive's, and its price.
abbrev pub Costs : Type 0
Costs = (bytes w : List ℕ) (j : Judging bytes w) (c : ℕ) → judged_answer j.answer ≡ given c
    → IsDrive (plan_of bytes) w × (c ≡ drive_cost (plan_of bytes) w)

-- "Every drive the planner writes must pass with the cost it printed": the plan call's, and so the short call's;
abbrev pub WrittenPasses : Type 0
WrittenPasses = (bytes : List ℕ) (budget : ℕ) (sheet : List ℕ) (c : Call bytes budget sheet) → Accepted c.answer
    → (j : Judging bytes (take (answer_in c.answer).places c.after)) → judged_answer j.answer ≡ given (answer_in c.answer).cost

-- that of a call at a departure, and so of asking an open plan, judged on the file that it holds;
abbrev pub WrittenPassesAt : Type 0
WrittenPassesAt = (bytes : List ℕ) (budget : ℕ) (windows : List ℕ) (d : Departure) (sheet : List ℕ)
    (c : CallAt bytes budget windows d sheet)
    → Accepted c.answer
    → (j : Judging bytes (take (answer_in c.answer).places c.after)) → judged_answer j.answer ≡ given (answer_in c.answer).cost

-- and a car's whose marks are the plan's own: "judging goes by the plan's own, so a car's drive need not pass it".
abbrev pub WrittenPassesCar : Type 0
WrittenPassesCar = (bytes : List ℕ) (budget : ℕ) (sheet : List ℕ)
    (c : Car bytes (record { marks = own_marks (plan_of bytes); budget = budget; sheet = sheet })) → Accepted c.answer
    → (j : Judging bytes (take (answer_in c.answer).places c.after)) → judged_answer j.answer ≡ given (answer_in c.answer).cost

-- No drive that another house sent is judged to cost less than the floor of a plan call on the same plan.
abbrev pub FloorBelow : Type 0
FloorBelow = (bytes : List ℕ) (budget : ℕ) (sheet : List ℕ) (c : Call bytes budget sheet) → Accepted c.answer
    → (w : List ℕ) (j : Judging bytes w) (cost : ℕ) → judged_answer j.answer ≡ given cost → (answer_in c.answer).floor ≤ℤ pos cost
