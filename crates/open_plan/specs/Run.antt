-- Calls one after the other, and an open plan by value that stands for one of the definitions.
use Rattle.std.specs.Prelude.{◌≡◌, List, [], ◌∷◌, ℕ, ◌≤◌, ◌<◌}
use Rattle.std.proofs.Math.Option.{Option, none, some}
use Rattle.postman.specs.Plan.{Plan}
use Rattle.postman.specs.Refusal.{first_refusal}
use Rattle.postman.specs.PlanFile.{edition, plan_of, file_of, file_conditions}
use Rattle.postman.specs.OpenPlan.{Open, Call, change, mark, return}
use Rattle.refusal.specs.Verdict.{verdict_number}
use Rattle.held_file.specs.declared.Held.{Held}
use Rattle.open_plan.specs.declared.OpenPlan.{OpenPlan}
use Rattle.open_plan.specs.declared.Moved.{Moved}
use Rattle.held_file.specs.Held.{file_in}
use Rattle.open_plan.specs.State.{mark_in}
use Rattle.open_plan.specs.Contract.{IsMoved}

-- A call's costs are numbers of 16 bits.
abbrev pub Fits : Call → Type 0
Fits (change c) = (c.cost ≤ 65535) × (c.service ≤ 65535)
Fits (mark k) = Unit {0}
Fits (return k) = Unit {0}

-- A RUN from s to t: each call has the contract of its function, on the state that the call before it
-- left. The numbers are the refusals, or none.
pub data Ran : OpenPlan → List Call → OpenPlan → List (Option ℕ) → Type 0 where
  ended : (s : OpenPlan) → Ran s [] s []
  called : (s t : OpenPlan) (c : Call) (cs : List Call) (ns : List (Option ℕ)) (r : Moved) → Fits c → IsMoved s c r → Ran r.state cs t ns
      → Ran s (c ∷ cs) t (verdict_number r.verdict ∷ ns)

-- A file that is held for a plan of edition e: the file that is written from it. It reads back.
pub record IsFileOf (e : ℕ) (p : Plan) (h : Held) : Type 0 where
  pub file : file_in h ≡ file_of e p
  pub reads : first_refusal (file_conditions (file_in h)) ≡ none
  pub edition_is : edition (file_in h) ≡ e
  pub plan_is : plan_of (file_in h) ≡ p

-- And one that is held for a mark: none where it was never set.
abbrev pub IsMarkOf : ℕ → Option Plan → Held → Type 0
IsMarkOf e none h = file_in h ≡ []
IsMarkOf e (some p) h = IsFileOf e p h

-- The state stands for an open plan of edition e.
pub record StandsFor (e : ℕ) (o : Open) (s : OpenPlan) : Type 0 where
  pub plan_is : IsFileOf e o.plan s.plan
  pub marks_are : (k : ℕ) → k < 4 → IsMarkOf e (o.marks k) (mark_in s k)
