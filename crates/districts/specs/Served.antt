-- The turn of the front district of a machine that entries and turns lead to.
use Rattle.std.specs.Prelude.{◌≡◌, Ok, true, false, List, ℕ, ◌+◌}
use Rattle.std.proofs.Math.Option.{none}
use Rattle.postman.specs.PlanFile.{plan_of}
use Rattle.postman.specs.PlanCall.{best_cost}
use Rattle.postman.specs.Districts.{turn_trees, District, finishes}
use Rattle.solution.specs.Planned.{IsPlanned}
use Rattle.districts.specs.declared.turn.Outcome.TheVariants.{Unfinished, Finished}
use Rattle.districts.specs.declared.turn.Turned.{Turned}
use Rattle.districts.specs.Turned.{so_far}

-- "An unfinished one answers the trees so far and their least cost", and the sheet is "written in a district's last turn only"; a finished
-- one answers as the plan call does. "A turn's answer names its district's" place.
pub record IsServed (d : District) (old new : List ℕ) (r : Turned) : Type 0 where
  pub going : finishes d ≡ false
      → (r.outcome ≡ Unfinished d.place)
      × (r.planned ≡ Ok (so_far (best_cost (plan_of d.bytes) (d.tried + turn_trees)) (d.tried + turn_trees))) × (new ≡ old)
  pub last : finishes d ≡ true → (r.outcome ≡ Finished d.place) × IsPlanned (plan_of d.bytes) d.budget none old new r.planned
