-- Judging a drive that another house laid: the cost of a list of arc numbers, or the first fault of it.
use Rattle.std.specs.Prelude.{Bool, false, not, ◌||◌, List, [], ◌∷◌, ◌++◌, ℕ, length, eqb, ltb, leb}
use Rattle.std.proofs.Math.Option.{Option}
use Rattle.postman.specs.Lists.{any_of}
use Rattle.postman.specs.Plan.{Arc, Plan, is_open, arc_at, required_arcs, required_numbers}
use Rattle.postman.specs.Refusal.{Conditions, first_refusal, Answer, answer}
use Rattle.postman.specs.PlanFile.{edition, vertex_count, arc_count, plan_of, edition_conditions, extent_conditions, body_conditions, file_conditions_with}
use Rattle.postman.specs.Drive.{drive_cost}

-- ---- the faults of a list

-- 14 foreign: an arc of "number m or more, or closed", anywhere in the list
unfoldable pub is_foreign : Plan → ℕ → Bool
is_foreign p k = leb (length p.arcs) k || not (is_open (arc_at p.arcs k))

unfoldable pub has_foreign : Plan → List ℕ → Bool
unfolding any_of is_foreign
has_foreign p w = any_of (is_foreign p) w

-- 15 unjoined: an arc's head is not the next one's tail, "the last to the first included". First, of arcs that a car at
-- vertex v is to drive until it is at vertex j:
unfoldable pub is_broken : List Arc → ℕ → List ℕ → ℕ → Bool
is_broken arcs v [] j = not (eqb v j)
is_broken arcs v (k ∷ w) j = not (eqb v (arc_at arcs k).tail) || is_broken arcs (arc_at arcs k).head w j

unfoldable pub is_unjoined : Plan → List ℕ → Bool
unfolding is_broken
is_unjoined p [] = false
is_unjoined p (k ∷ w) = is_broken p.arcs (arc_at p.arcs k).head w (arc_at p.arcs k).tail

-- 16 missed: "a must arc doesn't occur". "An empty list misses its must arcs."
unfoldable pub is_missed : Plan → List ℕ → Bool
unfolding any_of required_numbers
is_missed p w = any_of (λ k. not (any_of (eqb k) w)) (required_numbers p)

-- By number, and not by place in the list.
unfoldable pub fault_conditions : Plan → List ℕ → Conditions
unfolding has_foreign is_unjoined is_missed
fault_conditions p w = (has_foreign p w, 14) ∷ (is_unjoined p w, 15) ∷ (is_missed p w, 16) ∷ []

-- ---- the refusals, and the answer

-- "A list above 65,535 places gets 3, together with n and m": the conditions of the file, with the list's length among its limits.
unfoldable pub highest_places : ℕ
highest_places = 65535

unfoldable pub lent_conditions : List ℕ → ℕ → Conditions
unfolding edition edition_conditions extent_conditions vertex_count arc_count body_conditions plan_of highest_places
lent_conditions bytes places = file_conditions_with ((ltb highest_places places, 3) ∷ []) bytes

-- "1 to 7, 10 and 13", with "8, 9, 11 and 12 not applied": the conditions under which the list itself is not looked at.
unfoldable pub unjudged_conditions : List ℕ → ℕ → Conditions
unfolding lent_conditions required_arcs plan_of
unjudged_conditions bytes places = lent_conditions bytes places ++ (eqb (length (required_arcs (plan_of bytes))) 0, 10) ∷ []

unfoldable pub judge_refusal : List ℕ → List ℕ → Option ℕ
unfolding first_refusal unjudged_conditions fault_conditions plan_of
judge_refusal bytes w = first_refusal (unjudged_conditions bytes (length w) ++ fault_conditions (plan_of bytes) w)

-- "It returns the cost exactly when the list is a drive by the definition, and otherwise names the first fault." `Laws.Judge`: so it does.
unfoldable pub judge_answer : List ℕ → List ℕ → Answer ℕ
unfolding answer judge_refusal drive_cost plan_of
judge_answer bytes w = answer (judge_refusal bytes w) (drive_cost (plan_of bytes) w)
