-- The plan renumbered: its vertices get other numbers, and everything else stays. Trees are tried in an order that goes by the vertices'
-- numbers, so the same plan call looks elsewhere.
use Rattle.std.specs.Prelude.{◌≡◌, ℕ, ◌≤◌, ◌<◌, length, get_or, take}
use mathlib.Core.List.{List, map, Memᴰ}
use Rattle.postman.specs.Plan.{Arc, Plan, required_numbers}
use Rattle.postman.specs.Drive.{drive_cost, IsDrive}
use Rattle.postman.specs.Required.{required}
use Rattle.postman.specs.Distance.{distance}
use Rattle.postman.specs.Link.{Link}
use Rattle.postman.specs.Arborescence.{arborescences}
use Rattle.postman.specs.Balancing.{imbalance, IsBalancing, balancing_cost, least_balancing, completion_cost}
use Rattle.postman.specs.Description.{IsLaid}
use Rattle.postman.specs.LagrangianBound.{Multipliers}
use Rattle.postman.specs.PlanCall.{sheet_places, tried_count, best_cost}

-- A numbering of the vertices 0 to n − 1: π gives each vertex its new number, one of 0 to n − 1, and σ each new number its vertex. Both
-- leave every other number alone.
pub record IsNumbering (n : ℕ) (π σ : ℕ → ℕ) : Type 0 where
  pub inside : (v : ℕ) → v < n → π v < n
  pub outside : (v : ℕ) → n ≤ v → π v ≡ v
  pub back : (v : ℕ) → σ (π v) ≡ v
  pub forth : (v : ℕ) → π (σ v) ≡ v

-- A list of numbers as a numbering: v's is in place v, and what the list has no place for stays.
abbrev pub number_in : List ℕ → ℕ → ℕ
number_in numbers v = get_or numbers v v

-- The plan renumbered. Arcs keep their numbers, standing and costs.
abbrev pub renumbered_arc : (ℕ → ℕ) → Arc → Arc
renumbered_arc π a = record { tail = π a.tail; head = π a.head; standing = a.standing; cost = a.cost; service = a.service }

abbrev pub renumbered : Plan → (ℕ → ℕ) → Plan
renumbered p π = record { n = p.n; arcs = map (renumbered_arc π) p.arcs }

-- The links of a tree, renumbered. And multipliers: what u gives to the new number of a vertex, so that those of the plan renumbered are
-- carried back by π, and others into it by σ.
abbrev pub renumbered_link : (ℕ → ℕ) → Link → Link
renumbered_link π l = record { tail = π l.tail; head = π l.head }

abbrev pub renumbered_tree : (ℕ → ℕ) → List Link → List Link
renumbered_tree π t = map (renumbered_link π) t

abbrev pub carried : (ℕ → ℕ) → Multipliers → Multipliers
carried π u v = u (π v)

-- The drive that the plan call lays for the plan renumbered, told of the plan itself, as `IsAnswerDrive` tells of the plan call's: a
-- drive of the plan, at the cost of the plan renumbered, with tree and amounts between the plan's own vertices. Its tree has its place
-- among those tried of the plan renumbered: which pairs are links, and which part is part 0, goes by the numbers, so of the plan
-- itself it may be none.
pub record IsRenumberedDrive (p : Plan) (π : ℕ → ℕ) (budget : ℕ) (w : List ℕ) : Type 0 where
  pub drive : IsDrive p w
  pub costs : drive_cost p w ≡ best_cost (renumbered p π) budget
  pub nonempty : 0 < length w
  pub first : get_or w 0 0 ≡ get_or (required_numbers p) 0 0
  pub short : length w ≤ sheet_places
  pub tree : List Link
  pub tried : Memᴰ (renumbered_tree π tree) (take (tried_count (renumbered p π) budget) (arborescences (renumbered p π)))
  pub least : completion_cost p tree ≡ best_cost (renumbered p π) budget
  pub amounts : ℕ → ℕ → ℕ
  pub balances : IsBalancing (required p) (imbalance p tree) amounts
  pub balances_least : balancing_cost (required p) (distance p) amounts ≡ least_balancing p tree
  pub laid : IsLaid p tree amounts w
