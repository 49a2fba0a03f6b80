-- A TURN, of any machine, with any sheet: what it meets, and what it makes of that.
use Rattle.std.specs.Prelude.{◌≡◌, Result, Ok, Bool, false, not, cond, ◌&&◌, List, [], ◌∷◌, ◌++◌, map, ℕ, length, replicate, pos, leb, ltb}
use Rattle.postman.specs.Lists.{occurs}
use Rattle.postman.specs.Plan.{Plan}
use Rattle.postman.specs.Refusal.{first_refusal, is_good}
use Rattle.postman.specs.PlanFile.{file_conditions, is_outside, plan_of}
use Rattle.postman.specs.PlanCall.{sheet_places, highest_budget}
use Rattle.refusal.specs.declared.Refusal.{Refusal}
use Rattle.refusal.specs.declared.Refusal.TheVariants.{ShortSheet as ShortSheetRefusal}
use Rattle.call_steps.specs.Refused.{refused_with}
use Rattle.solution.specs.declared.Planned.{Planned}
use Rattle.tree_search.specs.declared.trees.Reached.{Reached}
use Rattle.district_turn.specs.declared.plan_turn.DistrictTurn.{DistrictTurn}
use Rattle.district_turn.specs.declared.plan_turn.DistrictTurn.TheVariants.{Stuck, Unfinished, Finished}
use Rattle.district_turn.specs.DistrictTurn.{is_holding, can_go_on, reached_after, is_last, last_answer, last_sheet}
use Rattle.district_machine.specs.declared.machine.District.{District as DistrictRecord}
use Rattle.district_machine.specs.declared.machine.Machine.{Machine}
use Rattle.districts.specs.declared.turn.Outcome.{Outcome}
use Rattle.districts.specs.declared.turn.Outcome.TheVariants.{Empty, ShortSheet, Unfinished as UnfinishedAt, Finished as FinishedAt}
use Rattle.districts.specs.declared.turn.Turned.{Turned}
use Rattle.postman.specs.Districts.{places}
use Rattle.district_machine.specs.Machine.{bytes_of, district_of, waiting_in, machine_of}

-- ---- whether the front district can be gone on with: it can, in every machine that entries and turns lead to from the empty one

abbrev pub plan_by : DistrictRecord → Plan
plan_by d = plan_of (bytes_of d)

-- Its place is one of eight, and no other district in line has it.
unfoldable pub has_own_place : DistrictRecord → List DistrictRecord → Bool
unfolding occurs
has_own_place d ds = ltb d.place 8 && not (occurs d.place (places (map district_of ds)))

-- Its file is read, and its budget is within its limits.
unfoldable pub is_readable : DistrictRecord → Bool
unfolding first_refusal file_conditions is_outside highest_budget is_good
is_readable d =
    leb d.plan.length 1475 && (not (is_outside d.budget 1 highest_budget) && is_good (first_refusal (file_conditions (bytes_of d))))

-- Its plan has drives, and it holds a tree and its cost, or has tried none; and some tree is left to be tried.
abbrev pub can_be_served : DistrictRecord → Bool
can_be_served d = is_readable d && can_go_on (plan_by d) d.budget d.held

-- ---- what a turn meets

pub data Meeting : Type 0 where
  nobody : Meeting
  short_sheet : Meeting
  stuck : Meeting
  goes_on : DistrictRecord → List DistrictRecord → Meeting
  leaves : DistrictRecord → List DistrictRecord → Meeting

-- "A turn with no district inside says so, short sheet or not"; "a short one gets 8".
unfoldable pub meeting_in : ℕ → ℕ → List DistrictRecord → Meeting
unfolding sheet_places has_own_place is_readable is_holding is_good
meeting_in waiting sheet [] = nobody
meeting_in waiting sheet (d ∷ ds) =
    cond (ltb sheet sheet_places) short_sheet
    (cond (leb waiting 8 && (has_own_place d ds && can_be_served d))
    (cond (is_last (plan_by d) d.budget d.held) (leaves d ds) (goes_on d ds)) stuck)

abbrev pub meeting : Machine → ℕ → Meeting
meeting m sheet = meeting_in m.waiting sheet (waiting_in m)

-- ---- what it makes of it

-- "Then it goes to the back", with what it holds now.
abbrev pub held_now : DistrictRecord → Reached → DistrictRecord
held_now d g = record { place = d.place; plan = d.plan; budget = d.budget; held = g }

abbrev pub reached_now : DistrictRecord → Reached
reached_now d = reached_after (plan_by d) d.budget d.held

-- THE MACHINE AFTER A TURN: as it was, or without its front district, or with that at the back.
abbrev pub after_turn : Machine → Meeting → Machine
after_turn m nobody = m
after_turn m short_sheet = m
after_turn m stuck = m
after_turn m (goes_on d ds) = machine_of (ds ++ held_now d (reached_now d) ∷ [])
after_turn m (leaves d ds) = machine_of ds

-- What is answered before the last turn: "the trees so far and their least cost".
abbrev pub so_far : ℕ → ℕ → Planned
so_far cost trees =
    record {
      places = 0;
      cost = cost;
      floor = pos 0;
      trees = trees;
      whole = false;
      parts = 0;
      multipliers = replicate 64 (pos 0);
    }

-- What is answered: "an unfinished one answers the trees so far and their least cost".
abbrev pub outcome_of : Meeting → Outcome
outcome_of nobody = Empty
outcome_of short_sheet = ShortSheet
outcome_of stuck = Empty
outcome_of (goes_on d ds) = UnfinishedAt d.place
outcome_of (leaves d ds) = FinishedAt d.place

abbrev pub answer_of : Meeting → Result Planned Refusal
answer_of nobody = Ok (so_far 0 0)
answer_of short_sheet = refused_with ShortSheetRefusal
answer_of stuck = Ok (so_far 0 0)
answer_of (goes_on d ds) = Ok (so_far (reached_now d).cost (reached_now d).tried)
answer_of (leaves d ds) = Ok (last_answer (plan_by d) d.budget d.held)

-- The sheet is "written in a district's last turn only".
abbrev pub sheet_after : Meeting → List ℕ → List ℕ
sheet_after nobody old = old
sheet_after short_sheet old = old
sheet_after stuck old = old
sheet_after (goes_on d ds) old = old
sheet_after (leaves d ds) old = last_sheet (plan_by d) d.budget d.held old

pub record IsTurned (m : Machine) (old new : List ℕ) (r : Turned) : Type 0 where
  pub outcome : r.outcome ≡ outcome_of (meeting m (length old))
  pub planned : r.planned ≡ answer_of (meeting m (length old))
  pub machine : r.machine ≡ after_turn m (meeting m (length old))
  pub sheet : new ≡ sheet_after (meeting m (length old)) old

-- What a turn of the front district d makes of the machine, by what it leaves, where ds are the others.
abbrev pub turned_by : Machine → DistrictRecord → List DistrictRecord → DistrictTurn → Turned
turned_by m d ds Stuck = record { outcome = Empty; planned = Ok (so_far 0 0); machine = m }
turned_by m d ds (Unfinished g) =
    record { outcome = UnfinishedAt d.place; planned = Ok (so_far g.cost g.tried); machine = machine_of (ds ++ held_now d g ∷ []) }
turned_by m d ds (Finished answer) = record { outcome = FinishedAt d.place; planned = Ok answer; machine = machine_of ds }
