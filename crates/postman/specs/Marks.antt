-- "Two cars, one distance table": a car's own required arcs, by marks, and the refusals of its call.
use Rattle.std.specs.Prelude.{Bool, not, cond, ◌&&◌, ◌||◌, List, [], ◌∷◌, ◌++◌, map, ℕ, length, get_or, eqb, ltb}
use Rattle.std.proofs.Math.Option.{Option}
use Rattle.postman.specs.Lists.{any_of, below}
use Rattle.postman.specs.Plan.{Arc, Plan, is_open, is_required_arc, arc_at}
use Rattle.postman.specs.Refusal.{Conditions, first_refusal}
use Rattle.postman.specs.PlanFile.{plan_of}
use Rattle.postman.specs.PlanCall.{conditions_before, is_cut_off}

-- ---- the plan of a car

-- "Each car has its own list of must marks, which replaces the plan's must marks (a plain arc if unmarked)." Closed arcs stay closed. "A
-- marked arc that has no checking cost uses its plain cost, even 0."
unfoldable pub marked_service : ℕ → Arc → ℕ
marked_service mark a = cond (eqb mark 1) (cond (eqb a.service 0) a.cost a.service) 0

unfoldable pub marked : ℕ → Arc → Arc
unfolding marked_service
marked mark a = record {
  tail = a.tail;
  head = a.head;
  standing = cond (is_open a) (cond (eqb mark 1) 1 0) a.standing;
  cost = a.cost;
  service = cond (is_open a) (marked_service mark a) a.service;
}

-- THE PLAN OF A CAR: the file's, with a mark for each arc; an arc for which there is none counts as unmarked.
unfoldable pub car_plan : Plan → List ℕ → Plan
unfolding marked below
car_plan p marks = record { n = p.n; arcs = map (λ k. marked (get_or marks k 0) (arc_at p.arcs k)) (below (length p.arcs)) }

-- The plan's own must arcs, as marks.
unfoldable pub own_marks : Plan → List ℕ
own_marks p = map (λ a. cond (is_required_arc a) 1 0) p.arcs

-- ---- the refusals

-- 18 bad marks: "list length isn't m, a mark isn't 0 or 1, or a closed arc is marked"
unfoldable pub is_bad_mark : ℕ → Arc → Bool
is_bad_mark mark a = ltb 1 mark || (eqb mark 1 && not (is_open a))

unfoldable pub has_bad_mark : Plan → List ℕ → Bool
unfolding is_bad_mark any_of below
has_bad_mark p marks = not (eqb (length marks) (length p.arcs)) || any_of (λ k. is_bad_mark (get_or marks k 0) (arc_at p.arcs k)) (below (length p.arcs))

unfoldable pub mark_conditions : Plan → List ℕ → Conditions
unfolding has_bad_mark
mark_conditions p marks = (has_bad_mark p marks, 18) ∷ []

-- "Only 1 to 7 and 13 reach both; any other refusal is that car's alone": a car's refusals are the file's, then its own, 18 "after 9,
-- before 10"; from 10 on the plan is the car's.
unfoldable pub earlier_conditions_for : List ℕ → ℕ → ℕ → List ℕ → Conditions
unfolding conditions_before mark_conditions car_plan plan_of
earlier_conditions_for bytes b n marks = conditions_before bytes b n (mark_conditions (plan_of bytes) marks) (car_plan (plan_of bytes) marks)

unfoldable pub car_refusal : List ℕ → ℕ → ℕ → List ℕ → Option ℕ
unfolding first_refusal earlier_conditions_for is_cut_off car_plan plan_of
car_refusal bytes b n marks = first_refusal (earlier_conditions_for bytes b n marks ++ (is_cut_off (car_plan (plan_of bytes) marks), 12) ∷ [])
