-- The plan call: its refusals and its answer.
use Rattle.std.specs.Prelude.{◌≡◌, Bool, false, not, cond, ℕ, ◌≤◌, ◌<◌, min, length, get_or, take, ℤ, pos, eqb, ltb, leb}
use mathlib.Core.List.{List, [], ◌∷◌, ◌++◌, map, Memᴰ}
use Rattle.std.proofs.Math.Option.{Option}
use Rattle.postman.specs.Lists.{any_of, minimum, maxℤ, argmin}
use Rattle.postman.specs.Plan.{Plan, required_arcs, required_numbers}
use Rattle.postman.specs.Refusal.{Conditions, first_refusal, Answer, given, refused}
use Rattle.postman.specs.PlanFile.{file_conditions, is_outside, plan_of}
use Rattle.postman.specs.Drive.{drive_cost, IsDrive}
use Rattle.postman.specs.Required.{required}
use Rattle.postman.specs.Distance.{distance, has_path}
use Rattle.postman.specs.Link.{Link}
use Rattle.postman.specs.Component.{component_count}
use Rattle.postman.specs.Arborescence.{arborescences, arborescence_count}
use Rattle.postman.specs.Balancing.{imbalance, IsBalancing, balancing_cost, least_balancing, completion_cost}
use Rattle.postman.specs.Description.{IsLaid}
use Rattle.postman.specs.LagrangianBound.{Multipliers, lagrangian_bound}

-- ---- the refusals

-- "budget B from 1 to 1,000,000"; The short call "leaves B out"; its budget "becomes 100,000".
unfoldable pub highest_budget : ℕ
highest_budget = 1000000

unfoldable pub default_budget : ℕ
default_budget = 100000

-- 8 short sheet, for the plan call: "drive sheet below 17,266 places"
unfoldable pub sheet_places : ℕ
sheet_places = 17266

-- 12 cut off: "some required vertex has no path to another"
unfoldable pub is_cut_off : Plan → Bool
unfolding any_of required has_path
is_cut_off p = any_of (λ i. any_of (λ j. not (has_path p i j)) (required p)) (required p)

-- "then 8 to 12". 9 budget: "0 or above 1,000,000"; 10 idle: "no must arc"; 11 scattered: "more than 8 parts".
-- Of the budget, with the sheet, and of a plan:
abbrev pub budget_conditions : ℕ → Conditions
budget_conditions budget = (is_outside budget 1 highest_budget, 9) ∷ []

unfoldable pub call_conditions : ℕ → ℕ → Conditions
unfolding sheet_places is_outside highest_budget
call_conditions budget places = (ltb places sheet_places, 8) ∷ budget_conditions budget

unfoldable pub parts_conditions : Plan → Conditions
unfolding required_arcs component_count
parts_conditions p = (eqb (length (required_arcs p)) 0, 10) ∷ (ltb 8 (component_count p), 11) ∷ []

-- And the last one, 12, after them:
abbrev pub last_conditions : Plan → Conditions
last_conditions p = parts_conditions p ++ (is_cut_off p, 12) ∷ []

-- The conditions of a call but for the last, where the call has conditions of its own between 9
-- and 10, and p is the plan that it speaks of:
unfoldable pub conditions_before : List ℕ → ℕ → ℕ → Conditions → Plan → Conditions
unfolding file_conditions call_conditions parts_conditions
conditions_before bytes budget places own p = file_conditions bytes ++ (call_conditions budget places ++ (own ++ parts_conditions p))

-- The plan call has none, and speaks of the file's plan.
unfoldable pub earlier_conditions : List ℕ → ℕ → ℕ → Conditions
unfolding conditions_before plan_of
earlier_conditions bytes budget places = conditions_before bytes budget places [] (plan_of bytes)

unfoldable pub call_refusal : List ℕ → ℕ → ℕ → Option ℕ
unfolding first_refusal earlier_conditions is_cut_off plan_of
call_refusal bytes budget places = first_refusal (earlier_conditions bytes budget places ++ (is_cut_off (plan_of bytes), 12) ∷ [])

-- ---- the answer

-- "T is the smaller of B and N. Whole is yes exactly when N ≤ B."
unfoldable pub tried_count : Plan → ℕ → ℕ
unfolding arborescence_count
tried_count p budget = min budget (arborescence_count p)

unfoldable pub is_whole : Plan → ℕ → Bool
unfolding arborescence_count
is_whole p budget = leb (arborescence_count p) budget

-- "Cost is the least cost of the first T trees."
unfoldable pub best_cost : Plan → ℕ → ℕ
unfolding minimum completion_cost tried_count arborescences
best_cost p budget = minimum (map (completion_cost p) (take (tried_count p budget) (arborescences p)))

-- The tree that the drive is laid from, among trees of equal cost, is ours to choose: the first of least cost.
unfoldable pub best_arborescence : Plan → ℕ → List Link
unfolding argmin completion_cost tried_count arborescences
best_arborescence p budget = argmin (completion_cost p) [] (take (tried_count p budget) (arborescences p))

-- The lower bound (document 01: the floor) "is the cost if whole, else the larger of L(0) and L(u), with the u that the answer holds".
unfoldable pub lower_bound : Plan → ℕ → Multipliers → ℤ
unfolding is_whole best_cost maxℤ lagrangian_bound
lower_bound p budget u = cond (is_whole p budget) (pos (best_cost p budget)) (maxℤ (lagrangian_bound p (λ i. pos 0)) (lagrangian_bound p u))

-- "The answer holds the places written, cost, floor, trees tried T, whole (yes or no), k and u."
-- These are the fields but for the places and u.
pub record Summary : Type 0 where
  pub cost : ℕ
  pub floor : ℤ
  pub trees : ℕ
  pub whole : Bool
  pub parts : ℕ

unfoldable pub summary : Plan → ℕ → Multipliers → Summary
unfolding best_cost lower_bound tried_count is_whole component_count
summary p b u =
    record { cost = best_cost p b; floor = lower_bound p b u; trees = tried_count p b; whole = is_whole p b; parts = component_count p }

-- What the fields hold in a refusal, which document 01 leaves open: 0 and no.
unfoldable pub fields : Answer Summary → Summary
fields (given s) = s
fields (refused r) = record { cost = 0; floor = pos 0; trees = 0; whole = false; parts = 0 }

-- The lowest required vertex, at which the multipliers are 0 that those we answer are found from.
unfoldable pub root : Plan → ℕ
unfolding required
root p = get_or (required p) 0 0

-- "The written places are a drive of that cost whose first arc is the lowest must arc; which such drive, of at most 17,266
-- places, is free." It is laid from one of the trees tried, of least cost, and from amounts that balance it at the least cost.
-- This is all that has to be believed of the drive.
pub record IsAnswerDrive (p : Plan) (budget : ℕ) (w : List ℕ) : Type 0 where
  pub drive : IsDrive p w
  pub costs : drive_cost p w ≡ best_cost p budget
  pub nonempty : 0 < length w
  pub first : get_or w 0 0 ≡ get_or (required_numbers p) 0 0
  pub short : length w ≤ sheet_places
  -- the tree that it is laid from, and the amounts
  pub tree : List Link
  pub tried : Memᴰ tree (take (tried_count p budget) (arborescences p))
  pub least : completion_cost p tree ≡ best_cost p budget
  pub amounts : ℕ → ℕ → ℕ
  pub balances : IsBalancing (required p) (imbalance p tree) amounts
  pub balances_least : balancing_cost (required p) (distance p) amounts ≡ least_balancing p tree
  -- its legs
  pub laid : IsLaid p tree amounts w
