-- EIGHT DISTRICTS IN TURN: the line of districts, an entry and a turn. "One machine, empty at
-- first, lays drives for up to eight districts."
use Rattle.std.specs.Prelude.{Bool, false, not, cond, List, [], ◌∷◌, ◌++◌, map, ℕ, ◌+◌, length, leb, ltb}
use Rattle.std.proofs.Math.Option.{Option}
use Rattle.postman.specs.Lists.{below, first_index, occurs}
use Rattle.postman.specs.Refusal.{Conditions, first_refusal, unless}
use Rattle.postman.specs.PlanFile.{file_conditions, is_outside, plan_of}
use Rattle.postman.specs.PlanCall.{highest_budget, budget_conditions, sheet_places, last_conditions, tried_count}

-- A district that is not finished: its place, its plan and budget as it entered with them, and how many trees were tried.
pub record District : Type 0 where
  pub place : ℕ
  pub bytes : List ℕ
  pub budget : ℕ
  pub tried : ℕ

abbrev pub district : ℕ → List ℕ → ℕ → ℕ → District
district place bytes budget tried = record { place = place; bytes = bytes; budget = budget; tried = tried }

-- The line, its front first.
abbrev pub Line : Type 0
Line = List District

abbrev pub places : Line → List ℕ
places l = map (λ (d : District). d.place) l

-- ---- entry

-- "22 full: eight districts are unfinished; at entry, after the plan call's own refusals but 8."
unfoldable pub entry_conditions : Line → List ℕ → ℕ → Conditions
unfolding file_conditions is_outside highest_budget plan_of
entry_conditions l file b = file_conditions file ++ (budget_conditions b ++ (last_conditions (plan_of file) ++ (leb 8 (length l), 22) ∷ []))

unfoldable pub entry_refusal : Line → List ℕ → ℕ → Option ℕ
unfolding first_refusal entry_conditions
entry_refusal l bytes budget = first_refusal (entry_conditions l bytes budget)

-- "entry answers the lowest free place, 0 to 7"
unfoldable pub lowest_free : Line → ℕ
unfolding first_index occurs below
lowest_free l = first_index (λ q. not (occurs q (places l))) (below 8)

-- "Each enters at the back of the line with its plan and a budget"; in a refused entry "nothing moves".
unfoldable pub enter : Line → List ℕ → ℕ → Line
unfolding entry_refusal lowest_free unless
enter l bytes budget = unless (entry_refusal l bytes budget) (l ++ district (lowest_free l) bytes budget 0 ∷ []) l

-- ---- a turn

-- T of a district.
unfoldable pub total : District → ℕ
unfolding tried_count plan_of
total d = tried_count (plan_of d.bytes) d.budget

-- "A turn … takes 1,000 trees or the rest of T."
abbrev pub turn_trees : ℕ
turn_trees = 1000

abbrev pub gone_on : District → District
gone_on d = district d.place d.bytes d.budget (d.tried + turn_trees)

-- Whether its next turn is its last.
unfoldable pub finishes : District → Bool
unfolding total
finishes d = leb (total d) (d.tried + turn_trees)

-- "A turn goes to the front district"; "then it goes to the back or, finished, leaves and frees its place."
unfoldable pub turn : Line → Line
unfolding finishes
turn [] = []
turn (d ∷ l) = cond (finishes d) l (l ++ gone_on d ∷ [])

-- A turn with no district inside "says so, short sheet or not, and changes nothing"; a short sheet "gets 8, and
-- there … nothing moves". The others are accepted.
unfoldable pub is_accepted : Line → ℕ → Bool
unfolding sheet_places
is_accepted [] sheet = false
is_accepted (d ∷ l) sheet = not (ltb sheet sheet_places)
