-- What the deep call answers, field by field, and what it promises.
use Rattle.std.specs.Prelude.{◌≡◌, List, [], ◌↔◌, ◌⊎◌, ℕ, ◌+◌, ◌≤◌, length, take, replicate, ℤ, pos, ◌≤ℤ◌, T, Result}
use Rattle.std.proofs.Math.Option.{Option, none, some}
use Rattle.postman.specs.Lists.{maxℤ}
use Rattle.postman.specs.Plan.{Plan}
use Rattle.postman.specs.Refusal.{first_refusal, answer, unless}
use Rattle.postman.specs.PlanFile.{plan_of}
use Rattle.postman.specs.Drive.{IsDrive, drive_cost}
use Rattle.postman.specs.Required.{required_cost}
use Rattle.postman.specs.Balancing.{least_balancing}
use Rattle.postman.specs.LagrangianBound.{Multipliers, AreMultipliers, lagrangian_bound}
use Rattle.postman.specs.PlanCall.{fields}
use Rattle.postman.specs.Renumbering.{number_in, carried, IsRenumberedDrive}
use Rattle.drive_legs.specs.Drive.{written}
use Rattle.refusal.specs.Verdict.{verdict_number}
use Rattle.refusal.specs.declared.Refusal.{Refusal}
use Rattle.solution.specs.declared.Planned.{Planned}
use Rattle.solution.specs.Planned.{summary_of, multipliers_of, count_unless, places_of, u_list}
use Rattle.renumbering.specs.declared.numbering.Numbering.{Numbering}
use Rattle.renumbering.specs.Numbering.{IsNumberingOf}
use Rattle.round_rule.specs.Rounds.{under, kept, deep_summary, deep_drive}
use Rattle.deep_call.specs.Refusals.{earlier_conditions_in, deep_refusal}

-- The larger of L(0) and L(u) of the plan under a numbering, with the u of the plan carried into it.
abbrev pub bound_under : Plan → Numbering → Multipliers → ℤ
bound_under p x u = maxℤ (lagrangian_bound (under p x) (λ i. pos 0)) (lagrangian_bound (under p x) (carried (number_in x.from) u))

-- What an answer that is no refusal is, of the file's plan p; `new` is the sheet at exit.
pub record IsDeepAnswer (p : Plan) (budget rounds : ℕ) (new : List ℕ) (r : Result Planned Refusal) : Type 0 where
  -- drive and floor were found under numberings of the plan's vertices
  pub drive_numbering : IsNumberingOf p.n (kept p budget rounds).drive.numbering
  pub bound_numbering : IsNumberingOf p.n (kept p budget rounds).bound.numbering
  -- the written places are a drive, the lowest must arc first, of exactly the cost answered, and described as the plan call's drive is
  pub drive : IsRenumberedDrive p (number_in (kept p budget rounds).drive.numbering.to) (kept p budget rounds).drive.tries
      (take (places_of r) new)
  pub costs : drive_cost p (take (places_of r) new) ≡ (summary_of r).cost
  -- no drive of any length costs less than the floor
  pub below_every_drive : (w : List ℕ) → IsDrive p w → (summary_of r).floor ≤ℤ pos (drive_cost p w)
  -- the floor is at least R + Z
  pub above_balancing : pos (required_cost p + least_balancing p []) ≤ℤ (summary_of r).floor
  -- u meets document 01's two conditions
  pub multipliers : AreMultipliers p (multipliers_of r)
  -- the floor is the cost, or the larger of L(0) and L(u) under the numbering that it was found under
  pub floor_from : ((summary_of r).floor ≡ pos (summary_of r).cost)
      ⊎ ((summary_of r).floor ≡ bound_under p (kept p budget rounds).bound.numbering (multipliers_of r))
  -- whole says that floor and cost are equal, and then no drive is cheaper
  pub whole_says : T (summary_of r).whole ↔ ((summary_of r).floor ≡ pos (summary_of r).cost)
  pub whole_least : T (summary_of r).whole → (w : List ℕ) → IsDrive p w → (summary_of r).cost ≤ drive_cost p w

-- u, 0 everywhere in a refusal.
unfoldable pub multipliers_unless : Option ℕ → List ℤ → List ℤ
multipliers_unless none u = u
multipliers_unless (some r) u = replicate 64 (pos 0)

-- The call on a plan, a budget and so many rounds, where `refusal` is what it is refused for; old
-- and new are the sheet at entry and at exit.
pub record IsDeep (p : Plan) (budget rounds : ℕ) (refusal : Option ℕ) (old new : List ℕ) (r : Result Planned Refusal) : Type 0 where
  -- the first refusal that applies, or none
  pub verdict : verdict_number r ≡ refusal
  -- cost, floor, the trees of all rounds, whole and k; 0 and no in a refusal
  pub summary_is : summary_of r ≡ fields (answer refusal (deep_summary p budget rounds))
  pub multipliers_are : u_list r ≡ multipliers_unless refusal (kept p budget rounds).multipliers
  -- the sheet: the drive from its start, later places untouched; in a refusal as it was
  pub sheet : new ≡ unless refusal (written (deep_drive p budget rounds) old) old
  pub places_are : places_of r ≡ count_unless refusal (length (deep_drive p budget rounds))
  pub answered : refusal ≡ none → IsDeepAnswer p budget rounds new r

-- THE DEEP CALL on any bytes, any budget, any number of rounds and any sheet. 12 is given exactly when no
-- number before it applies and no drive exists.
pub record IsDeepCall (bytes : List ℕ) (budget rounds : ℕ) (old new : List ℕ) (r : Result Planned Refusal) : Type 0 where
  pub deep : IsDeep (plan_of bytes) budget rounds (deep_refusal bytes budget rounds (length old)) old new r
  pub cut_off
      : (verdict_number r ≡ some 12)
      ↔ ((first_refusal (earlier_conditions_in bytes budget rounds (length old)) ≡ none) × ((w : List ℕ) → IsDrive (plan_of bytes) w → ⊥))
