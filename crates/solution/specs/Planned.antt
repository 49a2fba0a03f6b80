-- What the answer of a plan is, field by field.
use Rattle.std.specs.Prelude.{◌≡◌, Result, Ok, Err, false, List, ℕ, ◌≤◌, length, get_or, replicate, ℤ, pos, ◌≤ℤ◌}
use Rattle.std.proofs.Math.Option.{Option, none, some}
use Rattle.postman.specs.Plan.{Plan}
use Rattle.postman.specs.Refusal.{answer, unless}
use Rattle.postman.specs.LagrangianBound.{Multipliers, AreMultipliers, AreGreatest, lagrangian_bound}
use Rattle.postman.specs.PlanCall.{Summary, summary, fields, root, IsAnswerDrive}
use Rattle.postman.specs.Guarantee.{Guarantee}
use Rattle.postman.specs.Steps.{Plannable}
use Rattle.drive_legs.specs.Drive.{written}
use Rattle.solution.specs.declared.Planned.{Planned}
use Rattle.refusal.specs.declared.Refusal.{Refusal}
use Rattle.refusal.specs.Verdict.{verdict_number}
use Rattle.multipliers.specs.Drive.{drive_of}
use Rattle.multipliers.specs.Ascent.{multipliers_for}

-- What is answered: in a refusal 0, no, and a u of zeros.
abbrev pub answer_in : Result Planned Refusal → Planned
answer_in (Ok r) = r
answer_in (Err q) = record { places = 0; cost = 0; floor = pos 0; trees = 0; whole = false; parts = 0; multipliers = replicate 64 (pos 0) }

-- Its fields, as document 01's; the places written; and the 64 numbers of u.
abbrev pub summary_of : Result Planned Refusal → Summary
summary_of r = let a = answer_in r in record { cost = a.cost; floor = a.floor; trees = a.trees; whole = a.whole; parts = a.parts }

abbrev pub places_of : Result Planned Refusal → ℕ
places_of r = (answer_in r).places

abbrev pub u_list : Result Planned Refusal → List ℤ
u_list r = (answer_in r).multipliers

abbrev pub multipliers_of : Result Planned Refusal → Multipliers
multipliers_of r i = get_or (answer_in r).multipliers i (pos 0)

-- A count, 0 where the call is refused.
unfoldable pub count_unless : Option ℕ → ℕ → ℕ
count_unless none n = n
count_unless (some r) n = 0

-- What an answer that is no refusal is: some arc is required, every two required vertices are joined, and some tree may be tried; u meets
-- the two conditions, is a function of the plan alone, and gives a bound no lower than the greatest multipliers that are 0 at the lowest
-- required vertex; the written places are a drive of the cost, and DEMAND 3 HOLDS.
pub record IsAnswer (p : Plan) (budget : ℕ) (r : Result Planned Refusal) : Type 0 where
  pub plannable : Plannable p
  pub some_budget : 1 ≤ budget
  pub multipliers : AreMultipliers p (multipliers_of r)
  pub multipliers_are : u_list r ≡ multipliers_for p
  pub above_greatest : (v : Multipliers) → AreGreatest p (root p) v → lagrangian_bound p v ≤ℤ lagrangian_bound p (multipliers_of r)
  pub drive : IsAnswerDrive p budget (drive_of p budget)
  pub guarantee : Guarantee p budget (multipliers_of r)

-- The call on a plan and a budget, where `refusal` is what it is refused for; old and new are the sheet at entry and at exit.
pub record IsPlanned (p : Plan) (budget : ℕ) (refusal : Option ℕ) (old new : List ℕ) (r : Result Planned Refusal) : Type 0 where
  -- the first refusal that applies, or none
  pub verdict : verdict_number r ≡ refusal
  -- cost, floor, trees tried, whole and k; 0 and no in a refusal
  pub summary_is : summary_of r ≡ fields (answer refusal (summary p budget (multipliers_of r)))
  -- the sheet: the drive from its start, later places untouched; in a refusal as it was
  pub sheet : new ≡ unless refusal (written (drive_of p budget) old) old
  pub places_are : places_of r ≡ count_unless refusal (length (drive_of p budget))
  -- u is 0 everywhere in a refusal
  pub no_multipliers : (k : ℕ) → refusal ≡ some k → u_list r ≡ replicate 64 (pos 0)
  pub answered : refusal ≡ none → IsAnswer p budget r
