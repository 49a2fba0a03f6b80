-- THE ROUNDS. Each is the plan call on the plan under a numbering of its vertices, with so many trees; arcs keep their numbers, so that its
-- drive is one of the file's plan, at its cost, and its floor is under every drive of that plan. Of all rounds the least cost and the
-- greatest floor are kept, and the numbering of which the fewest trees are left, where rounds go on until none is left. What is kept after
-- so many rounds is a function of the plan and the budget. A tree that costs no less than what is kept changes nothing, so that no round
-- has to look for one.
use Rattle.std.specs.Prelude.{Bool, false, cond, List, ℕ, zero, suc, ◌+◌, ◌-◌, ◌%◌, min, get_or, eqb, leb, ltb, ℤ, pos}
use Rattle.std.specs.Int.Signed.{le_z, lt_z}
use Rattle.postman.specs.Plan.{Plan}
use Rattle.postman.specs.Renumbering.{number_in, renumbered}
use Rattle.postman.specs.Component.{component_count}
use Rattle.postman.specs.Arborescence.{arborescence_count}
use Rattle.postman.specs.PlanCall.{Summary, best_cost, lower_bound, tried_count}
use Rattle.small_counts.specs.Matrix.{cap}
use Rattle.multipliers.specs.Ascent.{multipliers_for}
use Rattle.multipliers.specs.Drive.{drive_of}
use Rattle.renumbering.specs.declared.numbering.Numbering.{Numbering}
use Rattle.renumbering.specs.Numbering.{unchanged}
use Rattle.renumbering.specs.Shuffle.{shuffled}
use Rattle.renumbering.specs.Renumbered.{carried_in}
use Rattle.round_rule.specs.declared.kept.Kept.{Kept}
use Rattle.round_rule.specs.declared.trial.Trial.{Trial}
use Rattle.round_rule.specs.declared.trial.Chosen.{Chosen}

-- The plan under a numbering.
abbrev pub under : Plan → Numbering → Plan
under p x = renumbered p (number_in x.to)

-- The floor that the plan call answers, with the multipliers that it answers.
unfoldable pub floor_of : Plan → ℕ → ℤ
unfolding lower_bound multipliers_for
floor_of q budget = lower_bound q budget (λ i. get_or (multipliers_for q) i (pos 0))

-- What the plan call answers for the plan under a numbering, with so many trees: cost, floor, and multipliers carried back.
abbrev pub cost_of : Plan → Trial → ℕ
cost_of p x = best_cost (under p x.numbering) x.tries

abbrev pub floor_under : Plan → Trial → ℤ
floor_under p x = floor_of (under p x.numbering) x.tries

abbrev pub carried_back : Plan → Trial → List ℤ
carried_back p x = carried_in x.numbering.to (multipliers_for (under p x.numbering))

-- How many trees of a plan are left once so many are tried, by a count that ends at 4,294,967,296.
unfoldable pub left_of : Plan → ℕ → ℕ
unfolding arborescence_count
left_of q tries = min (arborescence_count q) cap - tries

-- How many of the first trees, or of all, are new where all but the last `budget` of them were tried before.
unfoldable pub new_trees : Plan → ℕ → ℕ → ℕ
unfolding tried_count
new_trees q budget tries = tried_count q tries - tried_count q (tries - budget)

-- ---- what is kept

-- After the first round, which is the plan call's: every number as it is, and the budget.
unfoldable pub begun : ℕ → ℕ → ℤ → List ℤ → ℕ → ℕ → Kept
unfolding unchanged
begun budget cost floor u left trees =
    let first : Trial = record { numbering = unchanged; tries = budget } in
    record {
      drive = first;
      cost = cost;
      bound = first;
      floor = floor;
      multipliers = u;
      base = first;
      left = left;
      trees = trees;
      random = 1;
    }

-- A drive that is cheaper is kept, with what it was found with: of equal costs the first.
unfoldable pub with_drive : Trial → ℕ → Kept → Kept
with_drive x cost k =
    cond (ltb cost k.cost)
    (record {
      drive = x;
      cost = cost;
      bound = k.bound;
      floor = k.floor;
      multipliers = k.multipliers;
      base = k.base;
      left = k.left;
      trees = k.trees;
      random = k.random;
    })
    k

-- A floor that is greater is kept, with what it was found with and its multipliers: of equal floors the first.
unfoldable pub with_floor : Trial → ℤ → List ℤ → Kept → Kept
with_floor x floor u k =
    cond (lt_z k.floor floor)
    (record {
      drive = k.drive;
      cost = k.cost;
      bound = x;
      floor = floor;
      multipliers = u;
      base = k.base;
      left = k.left;
      trees = k.trees;
      random = k.random;
    })
    k

-- A search of which no more trees are left is kept: the rounds go on there.
unfoldable pub with_base : Trial → ℕ → Kept → Kept
with_base x left k =
    cond (leb left k.left)
    (record {
      drive = k.drive;
      cost = k.cost;
      bound = k.bound;
      floor = k.floor;
      multipliers = k.multipliers;
      base = x;
      left = left;
      trees = k.trees;
      random = k.random;
    })
    k

-- The trees of the round are counted, and the generator goes on.
unfoldable pub counted : ℕ → ℕ → Kept → Kept
counted trees random k =
    record {
      drive = k.drive;
      cost = k.cost;
      bound = k.bound;
      floor = k.floor;
      multipliers = k.multipliers;
      base = k.base;
      left = k.left;
      trees = k.trees + trees;
      random = random;
    }

-- Whether floor and cost meet.
unfoldable pub have_met : Kept → Bool
have_met k = le_z (pos k.cost) k.floor

-- ---- the rounds

-- Whether a round goes on with the search that is kept, by how many trees are left of it: every second, if 100 rounds could try them; every
-- eighth, if all rounds together could not. Between the two, fewer trees are looked for first.
unfoldable pub is_gone_on : ℕ → ℕ → Bool
is_gone_on round left = cond (leb left 100000000) (eqb (round % 2) 0) (cond (leb left 1000000000) false (eqb (round % 8) 0))

-- It tries as many trees more as the budget says.
unfoldable pub gone_on : ℕ → Kept → Chosen
gone_on budget k = record { trial = record { numbering = k.base.numbering; tries = k.base.tries + budget }; random = k.random }

-- Any other takes the numbering of that search, with two exchanges: fewer trees are found by small steps. Where more are left than all
-- rounds together can try, it takes the numbering of the cheapest drive.
unfoldable pub numbers_of : Kept → Numbering
numbers_of k = cond (ltb 1000000000 k.left) k.drive.numbering k.base.numbering

unfoldable pub exchanged_by : Plan → ℕ → Kept → Chosen
unfolding shuffled numbers_of
exchanged_by p budget k =
    let d = shuffled p.n (record { numbering = numbers_of k; random = k.random }) 2 in
    record { trial = record { numbering = d.numbering; tries = budget }; random = d.random }

unfoldable pub next_round : Plan → ℕ → ℕ → Kept → Chosen
unfolding is_gone_on gone_on exchanged_by
next_round p budget round k = cond (is_gone_on round k.left) (gone_on budget k) (exchanged_by p budget k)

-- A round: its cost, its floor, its multipliers carried back, the trees that are left, and those that it tries.
unfoldable pub round_with : Plan → ℕ → Chosen → Kept → Kept
unfolding best_cost floor_of multipliers_for carried_in left_of new_trees with_drive with_floor with_base counted
round_with p budget c k =
    let x = c.trial in
    let q = under p x.numbering in
    counted (new_trees q budget x.tries) c.random
    (with_base x (left_of q x.tries) (with_floor x (floor_under p x) (carried_back p x) (with_drive x (cost_of p x) k)))

unfoldable pub next_kept : Plan → ℕ → ℕ → Kept → Kept
unfolding next_round round_with
next_kept p budget round k = round_with p budget (next_round p budget round k) k

-- What is kept after the first round and r more; the next one is round r + 2. It ends as soon as floor and cost meet.
unfoldable pub kept_after : Plan → ℕ → ℕ → Kept
unfolding begun best_cost floor_of multipliers_for left_of tried_count have_met next_kept
kept_after p budget zero = begun budget (best_cost p budget) (floor_of p budget) (multipliers_for p) (left_of p budget)
    (tried_count p budget)
kept_after p budget (suc r) =
    cond (have_met (kept_after p budget r)) (kept_after p budget r) (next_kept p budget (r + 2) (kept_after p budget r))

-- ---- the answer

-- What is kept after so many rounds; the answer's fields but for the places and u; and the drive.
unfoldable pub kept : Plan → ℕ → ℕ → Kept
unfolding kept_after
kept p budget rounds = kept_after p budget (rounds - 1)

unfoldable pub deep_summary : Plan → ℕ → ℕ → Summary
unfolding kept have_met component_count
deep_summary p budget rounds =
    let k = kept p budget rounds in
    record { cost = k.cost; floor = k.floor; trees = k.trees; whole = have_met k; parts = component_count p }

unfoldable pub deep_drive : Plan → ℕ → ℕ → List ℕ
unfolding kept drive_of
deep_drive p budget rounds =
    let x = (kept p budget rounds).drive in
    drive_of (under p x.numbering) x.tries
