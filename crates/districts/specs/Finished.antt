-- What stands on the sheet after a district's last turn, in any machine: a drive of its plan, whose
-- places are counted, and whose cost is answered.
use Rattle.std.specs.Prelude.{◌≡◌, List, ℕ, ◌≤◌, length, take, Result}
use Rattle.postman.specs.Plan.{Plan}
use Rattle.postman.specs.Drive.{IsDrive, drive_cost}
use Rattle.refusal.specs.declared.Refusal.{Refusal}
use Rattle.solution.specs.Planned.{summary_of, places_of}
use Rattle.solution.specs.declared.Planned.{Planned}

pub record HoldsDrive (p : Plan) (new : List ℕ) (r : Result Planned Refusal) : Type 0 where
  pub fits : places_of r ≤ length new
  pub drive : IsDrive p (take (places_of r) new)
  pub costs : drive_cost p (take (places_of r) new) ≡ (summary_of r).cost
