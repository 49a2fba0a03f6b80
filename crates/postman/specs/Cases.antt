-- Document 01's starred cases, one of them renumbered, document 02's with free arcs, the refusal 13, edition 2, and lists that are judged,
-- as rows of one table under one lemma, `cases`. The checker computes each claim from the definitions.
use Rattle.std.specs.Prelude.{◌≡◌, Bool, true, false, ℕ, length, get_or, pos}
use mathlib.Core.List.{List, [], ◌∷◌, ◌++◌, map}
use Rattle.std.proofs.Math.Option.{Option, none, some}
use Rattle.postman.specs.Lists.{below}
use Rattle.postman.specs.Plan.{Arc, Plan}
use Rattle.postman.specs.Refusal.{given, refused}
use Rattle.postman.specs.PlanFile.{implied_service, edition, plan_of, file_length, file_of, write_refusal}
use Rattle.postman.specs.Link.{links}
use Rattle.postman.specs.Component.{component_count}
use Rattle.postman.specs.Arborescence.{arborescence_count}
use Rattle.postman.specs.Balancing.{least_balancing}
use Rattle.postman.specs.LagrangianBound.{Multipliers, lagrangian_bound}
use Rattle.postman.specs.PlanCall.{sheet_places, default_budget, call_refusal, is_whole, best_cost, lower_bound}
use Rattle.postman.specs.Judge.{judge_answer}
use Rattle.postman.specs.Marks.{car_refusal}
use Rattle.postman.specs.Renumbering.{number_in, renumbered}

-- ---- what a case says of its plan

pub data Claim : Type 0 where
  file : ℕ → List ℕ → Claim
  refusal : ℕ → Claim
  refusal2 : ℕ → Claim
  unreadable : List ℕ → ℕ → Claim
  car : List ℕ → ℕ → Claim
  writing : ℕ → ℕ → Claim
  cramped : ℕ → ℕ → Claim
  parts : ℕ → Claim
  link_count : ℕ → Claim
  trees : ℕ → Claim
  balancing : ℕ → Claim
  bound_at_zero : ℕ → Claim
  bound_at : List ℕ → ℕ → Claim
  cost_at : ℕ → ℕ → Claim
  cost_under : List ℕ → ℕ → ℕ → Claim
  whole_at : ℕ → Bool → Claim
  floor_at : ℕ → ℕ → Claim
  floor_by : List ℕ → ℕ → ℕ → Claim
  judged : List ℕ → ℕ → Claim
  fault : List ℕ → ℕ → Claim

-- A refusal, 0 for none.
abbrev pub or_zero : Option ℕ → ℕ
or_zero none = 0
or_zero (some r) = r

-- The short call's, of a plan's file.
abbrev pub refusal_of : ℕ → Plan → ℕ
refusal_of e p = or_zero (call_refusal (file_of e p) default_budget sheet_places)

-- And of any bytes.
abbrev pub bytes_refusal : List ℕ → ℕ
bytes_refusal bytes = or_zero (call_refusal bytes default_budget sheet_places)

-- A car's, of a plan's file in edition 2, by marks.
abbrev pub car_refusal_of : Plan → List ℕ → ℕ
car_refusal_of p marks = or_zero (car_refusal (file_of 2 p) default_budget sheet_places marks)

-- The writer's, where there is room.
abbrev pub writing_of : ℕ → Plan → ℕ
writing_of e p = or_zero (write_refusal e p (file_length e (length p.arcs)))

-- Multipliers, as the list of what they are at 0, 1, …
abbrev pub multipliers : List ℕ → Multipliers
multipliers us i = pos (get_or us i 0)

-- The file of an edition, both ways; the refusal in edition 1, and in edition 2; that of some bytes; a car's by marks; the writer's in an
-- edition, and where there is no room; k; the number of links; N; Z; L(u); the cost, the same of the plan renumbered by a list, whole, the
-- floor, whatever u is, and the floor by a u, at a budget; the cost that a list of arcs is judged to have in edition 2, and the fault of one.
abbrev pub Means : Plan → Claim → Type 0
Means p (file e bytes) = (file_of e p ≡ bytes) × (edition bytes ≡ e) × (plan_of bytes ≡ p)
Means p (refusal r) = refusal_of 1 p ≡ r
Means p (refusal2 r) = refusal_of 2 p ≡ r
Means p (unreadable bytes r) = bytes_refusal bytes ≡ r
Means p (car marks r) = car_refusal_of p marks ≡ r
Means p (writing e r) = writing_of e p ≡ r
Means p (cramped e r) = or_zero (write_refusal e p 0) ≡ r
Means p (parts k) = component_count p ≡ k
Means p (link_count k) = length (links p) ≡ k
Means p (trees k) = arborescence_count p ≡ k
Means p (balancing c) = least_balancing p [] ≡ c
Means p (bound_at_zero l) = lagrangian_bound p (λ i. pos 0) ≡ pos l
Means p (bound_at us l) = lagrangian_bound p (multipliers us) ≡ pos l
Means p (cost_at b c) = best_cost p b ≡ c
Means p (cost_under ns b c) = best_cost (renumbered p (number_in ns)) b ≡ c
Means p (whole_at b w) = is_whole p b ≡ w
Means p (floor_at b l) = (u : Multipliers) → lower_bound p b u ≡ pos l
Means p (floor_by us b l) = lower_bound p b (multipliers us) ≡ pos l
Means p (judged w c) = judge_answer (file_of 2 p) w ≡ given c
Means p (fault w r) = judge_answer (file_of 2 p) w ≡ refused r

-- ---- the table

pub record Row : Type 0 where
  pub plan : Plan
  pub claims : List Claim

-- an arc of edition 1, and one of edition 2
abbrev arc : ℕ → ℕ → ℕ → ℕ → Arc
unfolding implied_service
arc tail head standing cost = record { tail = tail; head = head; standing = standing; cost = cost; service = implied_service standing cost }

abbrev arc2 : ℕ → ℕ → ℕ → ℕ → ℕ → Arc
arc2 tail head standing cost service = record { tail = tail; head = head; standing = standing; cost = cost; service = service }

abbrev row : ℕ → List Arc → List Claim → Row
row n arcs cs = record { plan = record { n = n; arcs = arcs }; claims = cs }

-- a required loop of cost 1 at each of n vertices
abbrev loops : ℕ → List Arc
unfolding below
loops n = map (λ v. arc v v 1 1) (below n)

unfoldable pub table : List Row
unfolding below arc
table =
    -- A
    row 2 (arc 0 1 1 5 ∷ arc 1 0 0 3 ∷ [])
    (file 1 (0x10 ∷ 0x40 ∷ 0x20 ∷ 0x01 ∷ 0x40 ∷ 0x01 ∷ 0x41 ∷ 0x00 ∷ 0x00 ∷ 0x03 ∷ []) ∷ refusal 0 ∷ cost_at 10000 8 ∷ trees 1 ∷ balancing 3 ∷ [])
    -- B
    ∷ row 4 (arc 0 1 1 1 ∷ arc 1 0 0 1 ∷ arc 2 3 1 1 ∷ arc 3 2 0 1 ∷ arc 1 2 0 10 ∷ arc 3 0 0 10 ∷ [])
    (refusal 0 ∷ parts 2 ∷ trees 1 ∷ cost_at 10000 22 ∷ balancing 2 ∷ bound_at_zero 12 ∷ bound_at (0 ∷ 1 ∷ 0 ∷ 1 ∷ []) 13 ∷ [])
    -- C; and with its vertices 0 and 1 exchanged, when the first tree is one of least cost
    ∷ row 3 (arc 0 0 1 1 ∷ arc 1 1 1 1 ∷ arc 2 2 1 1 ∷ arc 0 1 0 2 ∷ arc 1 2 0 2 ∷ arc 2 0 0 2 ∷ arc 0 2 0 3 ∷ [])
    (refusal 0 ∷ link_count 4 ∷ trees 2 ∷ cost_at 1 14 ∷ whole_at 1 false ∷ cost_at 2 9 ∷ whole_at 2 true ∷ bound_at_zero 7 ∷ bound_at (0 ∷ 0 ∷ 2 ∷ []) 9
    ∷ floor_by [] 1 7 ∷ floor_by (0 ∷ 0 ∷ 2 ∷ []) 1 9 ∷ cost_under (1 ∷ 0 ∷ []) 1 9 ∷ [])
    -- six bits of fill; one of them 1, a byte too few, and one too many
    ∷ row 1 (arc 0 0 1 1 ∷ [])
    (file 1 (0x10 ∷ 0x20 ∷ 0x10 ∷ 0x00 ∷ 0x40 ∷ 0x00 ∷ 0x40 ∷ []) ∷ unreadable (0x10 ∷ 0x20 ∷ 0x10 ∷ 0x00 ∷ 0x40 ∷ 0x00 ∷ 0x41 ∷ []) 4
    ∷ unreadable (0x10 ∷ 0x20 ∷ 0x10 ∷ 0x00 ∷ 0x40 ∷ 0x00 ∷ []) 1
    ∷ unreadable (0x10 ∷ 0x20 ∷ 0x10 ∷ 0x00 ∷ 0x40 ∷ 0x00 ∷ 0x40 ∷ 0x00 ∷ []) 4 ∷ [])
    -- D, E
    ∷ row 2 (arc 0 1 1 5 ∷ []) (refusal 12 ∷ [])
    ∷ row 2 (arc 0 1 0 5 ∷ arc 1 0 0 3 ∷ []) (refusal 10 ∷ [])
    -- F
    ∷ row 8 (loops 8) (refusal 12 ∷ [])
    ∷ row 9 (loops 9) (refusal 11 ∷ [])
    -- G
    ∷ row 2 (arc 0 1 1 5 ∷ arc 1 0 0 0 ∷ []) (refusal 0 ∷ cost_at 10000 5 ∷ [])
    ∷ row 2 (arc 0 1 1 5 ∷ arc 1 0 3 3 ∷ []) (refusal 7 ∷ [])
    ∷ row 2 (arc 0 1 1 5 ∷ arc 1 0 3 0 ∷ []) (refusal 7 ∷ [])
    -- free arcs join all pairs of three vertices both ways
    ∷ row 3 (loops 3 ++ arc 0 1 0 0 ∷ arc 0 2 0 0 ∷ arc 1 0 0 0 ∷ arc 1 2 0 0 ∷ arc 2 0 0 0 ∷ arc 2 1 0 0 ∷ [])
    (refusal 0 ∷ link_count 4 ∷ trees 1 ∷ cost_at 10000 3 ∷ floor_at 10000 3 ∷ [])
    -- a must arc of cost 0, in edition 1; in edition 2 its first pass has a price, and a closed arc may be free
    ∷ row 2 (arc 0 1 1 0 ∷ arc 1 0 0 3 ∷ []) (refusal 6 ∷ [])
    ∷ row 2 (arc2 0 1 1 0 4 ∷ arc2 1 0 0 0 0 ∷ arc2 0 0 2 0 0 ∷ []) (refusal2 0 ∷ writing 1 6 ∷ cost_at 10000 4 ∷ [])
    -- A with its first arc typed in twice, and with one that differs from it in cost
    ∷ row 2 (arc 0 1 1 5 ∷ arc 1 0 0 3 ∷ arc 0 1 1 5 ∷ []) (refusal 13 ∷ cramped 1 13 ∷ [])
    ∷ row 2 (arc 0 1 1 5 ∷ arc 1 0 0 3 ∷ arc 0 1 1 6 ∷ []) (refusal 0 ∷ cost_at 10000 17 ∷ [])
    -- A in edition 2, its first arc checked at 9: one slow pass; a car for that arc, one for none, and one with a mark of 2: 18 stands before 10
    ∷ row 2 (arc2 0 1 1 5 9 ∷ arc2 1 0 0 3 0 ∷ [])
    (file 2 (0x20 ∷ 0x40 ∷ 0x20 ∷ 0x01 ∷ 0x40 ∷ 0x01 ∷ 0x40 ∷ 0x02 ∷ 0x41 ∷ 0x00 ∷ 0x00 ∷ 0x03 ∷ 0x00 ∷ 0x00 ∷ [])
    ∷ refusal2 0 ∷ cost_at 10000 12 ∷ trees 1 ∷ balancing 3 ∷ writing 2 0 ∷ writing 1 6 ∷ writing 3 2 ∷ cramped 2 8
    ∷ car (1 ∷ 0 ∷ []) 0 ∷ car (0 ∷ 0 ∷ []) 10 ∷ car (2 ∷ 0 ∷ []) 18 ∷ [])
    -- a must arc without a checking cost, another arc with one, and standing 3 with one: 6 stands before 7
    ∷ row 2 (arc2 0 1 1 5 0 ∷ arc2 1 0 0 3 0 ∷ []) (refusal2 6 ∷ [])
    ∷ row 2 (arc2 0 1 1 5 5 ∷ arc2 1 0 0 3 1 ∷ []) (refusal2 6 ∷ [])
    ∷ row 2 (arc2 0 1 1 5 5 ∷ arc2 1 0 3 3 1 ∷ []) (refusal2 6 ∷ [])
    ∷ row 2 (arc2 0 1 1 5 5 ∷ arc2 1 0 3 3 0 ∷ []) (refusal2 7 ∷ [])
    -- two arcs that agree but for their checking costs, and two that agree in all
    ∷ row 2 (arc2 0 1 1 5 9 ∷ arc2 1 0 0 3 0 ∷ arc2 0 1 1 5 8 ∷ []) (refusal2 0 ∷ cost_at 10000 23 ∷ [])
    ∷ row 2 (arc2 0 1 1 5 9 ∷ arc2 1 0 0 3 0 ∷ arc2 0 1 1 5 9 ∷ []) (refusal2 13 ∷ [])
    -- lists of arcs, judged: A with a closed arc, its must arc driven once and twice, from either arc on; a foreign arc at the end before a
    -- gap at the start, a gap before a missed arc
    ∷ row 2 (arc2 0 1 1 5 9 ∷ arc2 1 0 0 3 0 ∷ arc2 0 0 2 1 0 ∷ arc2 0 0 0 1 0 ∷ [])
    (judged (0 ∷ 1 ∷ []) 12 ∷ judged (1 ∷ 0 ∷ []) 12 ∷ judged (0 ∷ 1 ∷ 3 ∷ 0 ∷ 1 ∷ []) 21 ∷ fault (0 ∷ 0 ∷ 2 ∷ []) 14 ∷ fault (4 ∷ []) 14 ∷ fault (0 ∷ []) 15
    ∷ fault (1 ∷ 3 ∷ []) 15 ∷ fault (3 ∷ []) 16 ∷ fault [] 16 ∷ [])
    -- without a must arc there is nothing to judge
    ∷ row 1 (arc2 0 0 0 1 0 ∷ []) (fault (7 ∷ []) 10 ∷ [])
    ∷ []
