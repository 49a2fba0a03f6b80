-- Walks and drives, and what they cost.
use Rattle.std.specs.Prelude.{◌≡◌, not, cond, ℕ, ◌+◌, ◌<◌, length, T, eqb}
use mathlib.Core.List.{List, [], ◌∷◌, Memᴰ}
use Rattle.postman.specs.Lists.{select, any_of}
use Rattle.postman.specs.Plan.{Arc, Plan, is_open, is_required_arc, arc_at, required_numbers}

-- `IsWalk arcs i w j`: the arc numbers w lead from vertex i to vertex j, each arc's head the next
-- one's tail, none closed (document 01: a path).
abbrev pub IsWalk : List Arc → ℕ → List ℕ → ℕ → Type 0
IsWalk arcs i [] j = i ≡ j
IsWalk arcs i (k ∷ w) j = k < length arcs × T (is_open (arc_at arcs k)) × ((arc_at arcs k).tail ≡ i) × IsWalk arcs (arc_at arcs k).head w j

-- The plain cost of a list of arcs: "the sum of its arcs' costs, repeats counted".
abbrev pub walk_cost : List Arc → List ℕ → ℕ
walk_cost arcs [] = 0
walk_cost arcs (k ∷ w) = (arc_at arcs k).cost + walk_cost arcs w

-- A drive (document 01: a drive) is "a list of arc numbers, none closed; each arc's head is the next one's tail, the last one's head
-- the first one's tail; every must arc occurs".
pub record IsDrive (p : Plan) (w : List ℕ) : Type 0 where
  pub start : ℕ
  pub leads_back : IsWalk p.arcs start w start
  pub covers : (k : ℕ) → k < length p.arcs → T (is_required_arc (arc_at p.arcs k)) → Memᴰ k w

-- "A drive costs one checking pass of each must arc plus plain cost for every other pass." The first pass of a must arc is the one that
-- checks it. Of any list of arcs, with the must arcs `due` not passed before it:
unfoldable pub drive_cost_due : List Arc → List ℕ → List ℕ → ℕ
unfolding any_of select
drive_cost_due arcs due [] = 0
drive_cost_due arcs due (k ∷ w) =
    cond (any_of (eqb k) due)
    ((arc_at arcs k).service + drive_cost_due arcs (select (λ j. not (eqb k j)) due) w)
    ((arc_at arcs k).cost + drive_cost_due arcs due w)

unfoldable pub drive_cost : Plan → List ℕ → ℕ
unfolding drive_cost_due required_numbers
drive_cost p w = drive_cost_due p.arcs (required_numbers p) w
