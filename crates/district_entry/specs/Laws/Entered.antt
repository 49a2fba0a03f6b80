-- An entry. The plan call's conditions but 8 stand before 22; where none applies the district goes behind the last one.
use Rattle.budget.specs.Checks.{checked_of}
use Rattle.budget.specs.declared.Budget.{Budget}
use Rattle.std.specs.Prelude.{◌≡◌, refl, Bool, true, false, cond, Result, Ok, Err, ℕ, ◌+◌, ◌≤◌, ◌<◌, length, set, leb}
use Rattle.std.proofs.Common.{sym, ◌∙◌, arith, le-leb, length-append, length-take-le, T_not}
use Rattle.std.proofs.Math.Path.{ap}
use mathlib.Core.List.{List, [], ◌∷◌, ◌++◌, append_assoc, map-append}
use Rattle.std.proofs.Math.Option.{Option, none, some, some-ne-none}
use Rattle.std.proofs.lemmas.Bool.{lt-leb}
use Rattle.postman_laws.specs.Laws.Contradiction.{zero_is_one}
use Rattle.postman.specs.Plan.{Plan, WellFormed}
use Rattle.postman.specs.Refusal.{Conditions, first_refusal}
use Rattle.postman.specs.PlanFile.{file_conditions, is_outside, plan_of}
use Rattle.postman.specs.PlanCall.{highest_budget, last_conditions}
use Rattle.postman_laws.specs.Laws.Refusal.{first_on, first_stop}
use Rattle.postman_laws.specs.Laws.Acceptance.{file_accepted, inside}
use Rattle.postman.specs.Laws.Tests.{is_false}
use Rattle.refusal.specs.declared.Refusal.{Refusal}
use Rattle.refusal.specs.Verdict.{refusal_number}
use Rattle.call_steps.specs.Refusals.{plan_refusal, budget_refusal}
use Rattle.call_steps.specs.Laws.Call.{parts_refusal}
use Rattle.held_file.specs.Padded.{padded}
use Rattle.held_file.specs.Laws.Held.{held_file, file_short}
use Rattle.held_file.specs.Laws.Padded.{padded_set}
use Rattle.district_machine.specs.declared.machine.District.{District as DistrictRecord}
use Rattle.district_machine.specs.declared.machine.Machine.{Machine}
use Rattle.postman.specs.Districts.{District, district, Line, entry_conditions, entry_refusal, lowest_free, enter}
use Rattle.district_machine.specs.Machine.{district_of, waiting_in, line_of, empty_district, machine_of}
use Rattle.district_entry.specs.Entered.{call_part, entrant, moved_unless, after_entry, IsEntered}
use Rattle.district_entry.specs.Laws.Line.{parts, later, enter_refused, enter_accepted}
use Rattle.district_machine.specs.Laws.Held.{room, machine_is, line_is}

-- ---- the refusals in their order

module _ (bytes : List ℕ) (budget : ℕ) where
  abbrev rest : Conditions
  rest = (is_outside budget 1 highest_budget, 9) ∷ last_conditions (plan_of bytes)

  pub part_file : (r : ℕ) → first_refusal (file_conditions bytes) ≡ some r → call_part bytes budget ≡ some r
  unfolding call_part
  part_file r e = first_stop (file_conditions bytes) rest r e

  rest_refusal : WellFormed (plan_of bytes) → first_refusal rest ≡ budget_refusal (plan_of bytes) budget
  unfolding first_refusal budget_refusal
  rest_refusal w = rw (parts_refusal (plan_of bytes) w)

  pub part_good : first_refusal (file_conditions bytes) ≡ none → call_part bytes budget ≡ budget_refusal (plan_of bytes) budget
  unfolding call_part
  part_good e = first_on (file_conditions bytes) rest e ∙ rest_refusal (file_accepted bytes e)

  module _ (l : Line) where
    abbrev full : Conditions
    full = (leb 8 (length l), 22) ∷ []

    in_order : entry_refusal l bytes budget ≡ first_refusal ((file_conditions bytes ++ rest) ++ full)
    unfolding entry_refusal entry_conditions
    in_order = ap first_refusal (sym (append_assoc (file_conditions bytes) rest full))

    pub entry_refused : (r : ℕ) → call_part bytes budget ≡ some r → entry_refusal l bytes budget ≡ some r
    unfolding call_part
    entry_refused r e = in_order ∙ first_stop (file_conditions bytes ++ rest) full r e

    then_full : call_part bytes budget ≡ none → entry_refusal l bytes budget ≡ first_refusal full
    unfolding call_part
    then_full e = in_order ∙ first_on (file_conditions bytes ++ rest) full e

    pub entry_full : call_part bytes budget ≡ none → 8 ≤ length l → entry_refusal l bytes budget ≡ some 22
    unfolding first_refusal
    entry_full e m = then_full e ∙ rw (le-leb 8 (length l) m)

    pub entry_good : call_part bytes budget ≡ none → length l < 8 → entry_refusal l bytes budget ≡ none
    unfolding first_refusal
    entry_good e m = then_full e ∙ rw (lt-leb 8 (length l) m)

    -- an entry that is not refused is not refused by the plan call's part
    pub call_part_lem : entry_refusal l bytes budget ≡ none → call_part bytes budget ≡ none
    call_part_lem e = at (call_part bytes budget) refl
      where
        at : (o : Option ℕ) → call_part bytes budget ≡ o → call_part bytes budget ≡ none
        at none q = q
        at (some k) q = absurd (some-ne-none k (sym (entry_refused k q) ∙ e))

-- ---- a budget that is refused

pub budget_stopped : (p : Plan) (n : ℕ) (r : Refusal) → checked_of n ≡ Err r → budget_refusal p n ≡ some (refusal_number r)
unfolding checked_of budget_refusal
budget_stopped p n r = at (is_outside n 1 highest_budget)
  where
    at : (x : Bool) → cond {A = Result Budget Refusal} x (Err Refusal.Budget) (Ok (record { trees = n })) ≡ Err r
        → cond x (some 9) (plan_refusal p) ≡ some (refusal_number r)
    at true e = let q : Refusal.Budget ≡ r = cc in ap (λ (r : Refusal). some (refusal_number r)) q
    at false e = zero_is_one (cc)

-- ---- what a plan and a budget that are not refused are

module _ (bytes : List ℕ) (budget : ℕ) (e : call_part bytes budget ≡ none) where
  alone : entry_refusal [] bytes budget ≡ none
  alone = entry_good bytes budget [] e (omega arith)

  pub part_limits : (1 ≤ budget) × (budget ≤ 1000000)
  unfolding highest_budget
  part_limits = inside budget 1 highest_budget (is_false (T_not (is_outside budget 1 highest_budget) (later [] bytes budget alone).0))

  pub short_file : length bytes ≤ 1475
  short_file = file_short bytes (parts [] bytes budget alone).0

-- ---- a refused entry

pub entry_stays : (m : Machine) (bytes : List ℕ) (budget k : ℕ) → entry_refusal (line_of m) bytes budget ≡ some k
    → after_entry m bytes budget ≡ m
unfolding moved_unless
entry_stays m bytes budget k f = rw f refl

pub refused_entered : (m : Machine) (bytes : List ℕ) (budget : ℕ) (r : Refusal)
    → entry_refusal (line_of m) bytes budget ≡ some (refusal_number r)
    → IsEntered m bytes budget (record { answer = Err r; machine = m })
refused_entered m bytes budget r f = record {
  refusal = sym f;
  place = λ q a. (zero_is_one (cc));
  machine = sym (entry_stays m bytes budget (refusal_number r) f);
}

-- ---- an accepted one

pub entry_moves : (m : Machine) (bytes : List ℕ) (budget : ℕ) → entry_refusal (line_of m) bytes budget ≡ none
    → after_entry m bytes budget ≡ machine_of (waiting_in m ++ entrant (lowest_free (line_of m)) bytes budget ∷ [])
unfolding moved_unless
entry_moves m bytes budget f = rw f refl

pub entrant_is : (q : ℕ) (bytes : List ℕ) (budget : ℕ) → district_of (entrant q bytes budget) ≡ district q bytes budget 0
entrant_is q bytes budget = ap (λ (b : List ℕ). district q b budget 0) (held_file bytes)

-- THE DISTRICT IS AT THE BACK
pub admitted : (m : Machine) (bytes : List ℕ) (budget place : ℕ) → length m.line ≡ 8 → m.waiting < 8 → place ≡ lowest_free (line_of m)
    → call_part bytes budget ≡ none → (line : List DistrictRecord) (d : DistrictRecord)
    → line ≡ padded 8 empty_district (waiting_in m) → d ≡ entrant place bytes budget
    → IsEntered m bytes budget
    (record { answer = Ok place; machine = record { line = set line m.waiting d; waiting = m.waiting + 1 } })
admitted m bytes budget place long few p e line d el ed =
    let good = entry_good bytes budget (line_of m) e (room m.line m.waiting long few) in
    let x = entrant (lowest_free (line_of m)) bytes budget in
    let n : length (waiting_in m) ≡ m.waiting = length-take-le m.waiting m.line (omega arith) in
    let a = length-append (waiting_in m) (x ∷ []) in
    let same : d ≡ x = ed ∙ ap (λ q. entrant q bytes budget) p in
    let l : set line m.waiting d ≡ padded 8 empty_district (waiting_in m ++ x ∷ []) =
    ap (λ (y : List DistrictRecord). set y m.waiting d) el ∙ ap (λ k. set (padded 8 empty_district (waiting_in m)) k d) (sym n)
    ∙ padded_set 8 empty_district (waiting_in m) d (omega arith)
    ∙ ap (λ (y : DistrictRecord). padded 8 empty_district (waiting_in m ++ y ∷ [])) same in
    record {
      refusal = sym good;
      place = λ q a. (let s : place ≡ q = cc in sym s ∙ p);
      machine = machine_is (set line m.waiting d) (m.waiting + 1) (waiting_in m ++ x ∷ []) l (omega arith)
          ∙ sym (entry_moves m bytes budget good);
    }

-- ---- the line

module _ (m : Machine) (bytes : List ℕ) (budget : ℕ) where
  abbrev x : DistrictRecord
  x = entrant (lowest_free (line_of m)) bytes budget

  pub entry_line : line_of (after_entry m bytes budget) ≡ enter (line_of m) bytes budget
  entry_line = at (entry_refusal (line_of m) bytes budget) refl
    where
      at : (o : Option ℕ) → entry_refusal (line_of m) bytes budget ≡ o
          → line_of (after_entry m bytes budget) ≡ enter (line_of m) bytes budget
      at (some k) f = ap (λ (y : Machine). line_of y) (entry_stays m bytes budget k f) ∙ sym (enter_refused (line_of m) bytes budget k f)
      at none f =
          ap (λ (y : Machine). line_of y) (entry_moves m bytes budget f)
          ∙ line_is (waiting_in m ++ x ∷ [])
          ∙ map-append district_of (waiting_in m) (x ∷ [])
          ∙ ap (λ (y : District). line_of m ++ y ∷ []) (entrant_is (lowest_free (line_of m)) bytes budget)
          ∙ sym (enter_accepted (line_of m) bytes budget f)
