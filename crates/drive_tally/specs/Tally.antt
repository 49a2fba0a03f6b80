-- The must arcs that are due, as flags, and what is left of them at the end of a list.
use Rattle.std.specs.Prelude.{◌≡◌, Bool, false, List, ℕ, length, get_or, eqb}
use Rattle.postman.specs.Lists.{any_of, below}
use Rattle.postman.specs.Plan.{Plan}
use Rattle.postman.specs.Drive.{drive_cost}
use Rattle.postman.specs.Judge.{is_missed}
use Rattle.drive_tally.specs.declared.tally.Tally.{Tally}

-- The flag of an arc is set exactly if the arc is due.
pub record AreDue (flags : List Bool) (due : List ℕ) : Type 0 where
  pub long : length flags ≡ 256
  pub flag : (k : ℕ) → get_or flags k false ≡ any_of (eqb k) due

unfoldable pub has_flag : List Bool → Bool
unfolding any_of below
has_flag flags = any_of (λ k. get_or flags k false) (below 256)

-- The cost of the list, and a flag where a must arc was missed.
pub record IsTally (p : Plan) (w : List ℕ) (r : Tally) : Type 0 where
  pub costs : r.cost ≡ drive_cost p w
  pub left : has_flag r.due ≡ is_missed p w
