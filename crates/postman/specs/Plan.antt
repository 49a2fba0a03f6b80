-- The plan: a directed graph whose arcs have a standing, a cost and a service cost.
use Rattle.std.specs.Prelude.{Bool, ℕ, ◌≤◌, ◌<◌, length, get_or, eqb, ltb}
use mathlib.Core.List.{List, Memᴰ}
use Rattle.postman.specs.Lists.{select, below}

-- "tail 6, head 6, standing 2, cost 16. […] Standing 0: may be driven; 1: must be driven; 2: closed, held in the file and never
-- driven." The service cost (document 02: the checking cost) is that of the pass on which a must arc is checked: "our drivers crawl the
-- first time along a must arc to read signs".
pub record Arc : Type 0 where
  pub tail : ℕ
  pub head : ℕ
  pub standing : ℕ
  pub cost : ℕ
  pub service : ℕ

-- "Vertices are 0 to n−1, arcs 0 to m−1 in file order." The arc count m is the list's length.
pub record Plan : Type 0 where
  pub n : ℕ
  pub arcs : List Arc

-- An open arc may be driven; a required arc (document 01: a must arc) must be.
abbrev pub is_open : Arc → Bool
is_open a = ltb a.standing 2

abbrev pub is_required_arc : Arc → Bool
is_required_arc a = eqb a.standing 1

-- Arc number k. A number that no arc has reads as a closed arc.
abbrev pub arc_at : List Arc → ℕ → Arc
arc_at arcs k = get_or arcs k (record { tail = 0; head = 0; standing = 2; cost = 0; service = 0 })

-- The required arcs, in file order, and their numbers.
unfoldable pub required_arcs : Plan → List Arc
unfolding select
required_arcs p = select is_required_arc p.arcs

unfoldable pub required_numbers : Plan → List ℕ
unfolding select below
required_numbers p = select (λ k. is_required_arc (arc_at p.arcs k)) (below (length p.arcs))

-- What the layers above the plan file ask of an arc, and of a plan. `Laws.Acceptance`: a plan that was read, or that is written, is
-- well formed. A plan that is made from another may be well formed and yet refused as a file: nothing is asked of which arcs have a
-- service cost. An arc of any standing may be free.
pub record IsArc (n : ℕ) (a : Arc) : Type 0 where
  pub tail_in : a.tail < n
  pub head_in : a.head < n
  pub standing_in : a.standing ≤ 2
  pub cost_in_holds : a.cost ≤ 65535
  pub service_in : a.service ≤ 65535

pub record WellFormed (p : Plan) : Type 0 where
  pub some_vertex : 1 ≤ p.n
  pub vertices : p.n ≤ 64
  pub some_arc : 1 ≤ length p.arcs
  pub arc_count_holds : length p.arcs ≤ 256
  pub each : (a : Arc) → Memᴰ a p.arcs → IsArc p.n a
