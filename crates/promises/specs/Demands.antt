-- THE THREE DEMANDS of document 01, of an answer r for a plan p, whichever call gives it. `refusal` is what the call is refused for; old
-- and new are the sheet at entry and at exit.
use Rattle.std.specs.Prelude.{◌≡◌, true, false, List, [], ℕ, ◌+◌, ◌≤◌, length, take, drop, replicate, pos, ◌≤ℤ◌, Result}
use Rattle.std.proofs.Math.Option.{Option, none, some}
use Rattle.postman.specs.Lists.{maxℤ}
use Rattle.postman.specs.Plan.{Plan}
use Rattle.postman.specs.Drive.{IsDrive, drive_cost}
use Rattle.postman.specs.Required.{required_cost}
use Rattle.postman.specs.Component.{component_count}
use Rattle.postman.specs.Balancing.{least_balancing}
use Rattle.postman.specs.LagrangianBound.{AreMultipliers, lagrangian_bound}
use Rattle.postman.specs.PlanCall.{tried_count, is_whole, best_cost, IsAnswerDrive}
use Rattle.refusal.specs.Verdict.{verdict_number}
use Rattle.refusal.specs.declared.Refusal.{Refusal}
use Rattle.solution.specs.declared.Planned.{Planned}
use Rattle.solution.specs.Planned.{answer_in, multipliers_of}

-- DEMAND 1, the refusals. (And no call has a `requires`: whatever is lent, it answers.)
pub record Refuses (refusal : Option ℕ) (old new : List ℕ) (r : Result Planned Refusal) : Type 0 where
  -- "The first that applies is given, and none otherwise."
  pub number : verdict_number r ≡ refusal
  -- "A refusal returns its number only": every other field is 0 or no;
  pub number_only : (k : ℕ) → refusal ≡ some k
      → ((answer_in r).places ≡ 0) × ((answer_in r).cost ≡ 0) × ((answer_in r).floor ≡ pos 0) × ((answer_in r).trees ≡ 0)
      × ((answer_in r).whole ≡ false) × ((answer_in r).parts ≡ 0) × ((answer_in r).multipliers ≡ replicate 64 (pos 0))
  -- "and changes no lent slice".
  pub untouched : (k : ℕ) → refusal ≡ some k → new ≡ old

-- Not refused.
abbrev pub Accepted : Result Planned Refusal → Type 0
Accepted r = verdict_number r ≡ none

-- DEMAND 2, the drive.
pub record Drives (p : Plan) (budget : ℕ) (old new : List ℕ) (r : Result Planned Refusal) : Type 0 where
  -- "T is the smaller of B and N. Whole is yes exactly when N ≤ B. Cost is the least cost of the first T trees." k is the number of parts.
  pub trees : (answer_in r).trees ≡ tried_count p budget
  pub whole : (answer_in r).whole ≡ is_whole p budget
  pub cost : (answer_in r).cost ≡ best_cost p budget
  pub parts : (answer_in r).parts ≡ component_count p
  -- "The written places are a drive of that cost whose first arc is the lowest must arc; which such drive, of at most 17,266 places, is
  -- free."
  pub drive : IsAnswerDrive p budget (take (answer_in r).places new)
  -- "Places written is a count." "Later places of the sheet are untouched."
  pub count : length (take (answer_in r).places new) ≡ (answer_in r).places
  pub later : drop (answer_in r).places new ≡ drop (answer_in r).places old

-- DEMAND 3, the floor.
pub record Bounds (p : Plan) (r : Result Planned Refusal) : Type 0 where
  -- "u is free within this: every pair of required vertices has d(i,j) − u(i) + u(j) ≥ 0, and the sum of u(i) × D(i) is Z."
  pub multipliers : AreMultipliers p (multipliers_of r)
  -- "The floor is the cost if whole, else the larger of L(0) and L(u), with the u that the answer holds."
  pub floor_whole : (answer_in r).whole ≡ true → (answer_in r).floor ≡ pos (answer_in r).cost
  pub floor_partial : (answer_in r).whole ≡ false
      → (answer_in r).floor ≡ maxℤ (lagrangian_bound p (λ i. pos 0)) (lagrangian_bound p (multipliers_of r))
  -- Every list of arcs, of any length, that is a drive costs at least the floor; and where all trees were tried, none is cheaper than the
  -- one written.
  pub below_every_drive : (w : List ℕ) → IsDrive p w → (answer_in r).floor ≤ℤ pos (drive_cost p w)
  pub whole_least : (answer_in r).whole ≡ true → (w : List ℕ) → IsDrive p w → (answer_in r).cost ≤ drive_cost p w
  -- It is no idle number: at least R + Z.
  pub above_balancing : pos (required_cost p + least_balancing p []) ≤ℤ (answer_in r).floor
