-- What is answered for a tree, whatever tree is held, and what is written.
use Rattle.std.specs.Prelude.{◌≡◌, Bool, cond, List, ℕ, ◌-◌, length, get_or, ℤ, pos}
use Rattle.postman.specs.Lists.{maxℤ}
use Rattle.postman.specs.Plan.{Plan}
use Rattle.postman.specs.Link.{Link}
use Rattle.postman.specs.Component.{component_count}
use Rattle.postman.specs.LagrangianBound.{lagrangian_bound}
use Rattle.drive_legs.specs.Drive.{written}
use Rattle.branches.specs.Links.{links_in}
use Rattle.tree_search.specs.declared.improve.Searched.{Searched}
use Rattle.multipliers.specs.Drive.{tree_drive}
use Rattle.multipliers.specs.Ascent.{multipliers_for}
use Rattle.solution.specs.declared.Planned.{Planned}

-- "The floor is the cost if whole, else the larger of L(0) and L(u), with the u that the answer holds."
abbrev pub floor_with : Plan → Bool → ℕ → ℤ
floor_with p whole cost =
    cond whole (pos cost) (maxℤ (lagrangian_bound p (λ i. pos 0)) (lagrangian_bound p (λ i. get_or (multipliers_for p) i (pos 0))))

-- The tree t, of that cost, where so many trees were tried: the places of its drive are counted, and u is the plan's.
abbrev pub concluded : Plan → List Link → ℕ → ℕ → Bool → Planned
concluded p t cost trees whole = record {
  places = length (tree_drive p t);
  cost = cost;
  floor = floor_with p whole cost;
  trees = trees;
  whole = whole;
  parts = component_count p;
  multipliers = multipliers_for p;
}

abbrev pub links_found : Plan → Searched → List Link
links_found p s = links_in (component_count p - 1) s.tails s.heads

-- The drive of the tree stands on the sheet from its start, and later places are untouched.
pub record IsConcluded (p : Plan) (s : Searched) (old new : List ℕ) (r : Planned) : Type 0 where
  pub planned : r ≡ concluded p (links_found p s) s.cost s.tried s.whole
  pub sheet : new ≡ written (tree_drive p (links_found p s)) old
