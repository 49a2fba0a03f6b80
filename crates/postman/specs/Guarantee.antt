-- What the plan call guarantees of its lower bound, for every drive that anyone could lay.
use Rattle.std.specs.Prelude.{◌≡◌, not, List, [], ℕ, ◌+◌, ◌≤◌, pos, ◌≤ℤ◌, T}
use Rattle.postman.specs.Lists.{maxℤ}
use Rattle.postman.specs.Plan.{Plan}
use Rattle.postman.specs.Drive.{drive_cost, IsDrive}
use Rattle.postman.specs.Required.{required_cost}
use Rattle.postman.specs.Balancing.{least_balancing}
use Rattle.postman.specs.LagrangianBound.{Multipliers, lagrangian_bound}
use Rattle.postman.specs.PlanCall.{is_whole, best_cost, lower_bound}

pub record Guarantee (p : Plan) (budget : ℕ) (u : Multipliers) : Type 0 where
  -- every list of arcs, of any length, that is a drive by the first definition costs at least the lower bound
  pub below_every_drive : (w : List ℕ) → IsDrive p w → lower_bound p budget u ≤ℤ pos (drive_cost p w)
  -- where all trees were tried, the lower bound is the cost, and no drive is cheaper
  pub whole_equal : T (is_whole p budget) → lower_bound p budget u ≡ pos (best_cost p budget)
  pub whole_least : T (is_whole p budget) → (w : List ℕ) → IsDrive p w → best_cost p budget ≤ drive_cost p w
  -- otherwise it is the larger of L(0) and L(u)
  pub partial_equal : T (not (is_whole p budget)) → lower_bound p budget u ≡ maxℤ (lagrangian_bound p (λ i. pos 0)) (lagrangian_bound p u)
  -- always it is at least R + Z
  pub above_balancing : pos (required_cost p + least_balancing p []) ≤ℤ lower_bound p budget u
