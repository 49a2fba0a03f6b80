-- What the calls of a machine answer after a run, and what the run's line is.
use Rattle.std.specs.Prelude.{◌≡◌, Ok, refl, Bool, true, false, not, cond, ℕ, suc, ◌+◌, ◌*◌, ◌≤◌, ◌<◌, length, T, Result}
use Rattle.std.proofs.Common.{sym, ap, ◌∙◌, arith, leb→le}
use Rattle.std.proofs.Math.Path.{subst⁻¹}
use mathlib.Core.List.{List, [], ◌∷◌, Memᴰ}
use Rattle.std.proofs.Math.Option.{Option, none, some}
use Rattle.postman.specs.Laws.Tests.{of_true}
use Rattle.postman.specs.PlanFile.{plan_of}
use Rattle.postman.specs.PlanCall.{sheet_places}
use Rattle.refusal.specs.declared.Refusal.{Refusal}
use Rattle.solution.specs.Planned.{u_list}
use Rattle.solution.specs.declared.Planned.{Planned}
use Rattle.planner.specs.Contract.{IsPlanCall}
use Rattle.district_machine.specs.declared.machine.Machine.{Machine}
use Rattle.district_entry.specs.declared.enter.Entered.{Entered}
use Rattle.districts.specs.declared.turn.Outcome.TheVariants.{Empty, ShortSheet}
use Rattle.districts.specs.declared.turn.Turned.{Turned}
use Rattle.postman.specs.Districts.{District, Line, entry_refusal, lowest_free, total, finishes}
use Rattle.postman.specs.DistrictRuns.{Event, run, run_from, is_turn_of, turns_in, turns_of, last_entry, turns_since, NoTurnOf}
use Rattle.district_machine.specs.Machine.{line_of}
use Rattle.district_entry.specs.Admitted.{admission_number}
use Rattle.district_entry.specs.Entered.{moved_unless, IsEntered}
use Rattle.districts.specs.Turned.{Meeting, nobody, short_sheet, meeting, outcome_of, after_turn, sheet_after, IsTurned}
use Rattle.districts.specs.Led.{Led}
use Rattle.districts.specs.Laws.Theorem.{run_line, served, finished_as_plan_call}
use Rattle.districts.specs.Laws.Turned.{empty_met, line_short_met}
use Rattle.district_machine.specs.Laws.Places.{free_small}
use Rattle.district_entry.specs.Laws.Line.{room, waits_short}
use Rattle.districts.specs.Laws.Runs.{waits_in, waits_run, run_kept}
use Rattle.promises.specs.Laws.Demands.{equal_multipliers}

-- no turn of a place
pub none_of : (q : ℕ) (l : Line) (es : List Event) → turns_of q l es ≡ 0 → NoTurnOf q l es
unfolding turns_of NoTurnOf
none_of q l [] e = tt
none_of q l (x ∷ es) e = at (is_turn_of q (run_from l es) x) e (none_of q l es)
  where
    at : (b : Bool) → cond b 1 0 + turns_of q l es ≡ 0 → (turns_of q l es ≡ 0 → NoTurnOf q l es) → T (not b) × NoTurnOf q l es
    at true e more = absurd (omega arith)
    at false e more = (tt, more (omega arith))

-- the place that an entry answers
pub entry_place : {m : Machine} {bytes : List ℕ} {budget : ℕ} {r : Entered} {l : Line} → IsEntered m bytes budget r → line_of m ≡ l
    → (q : ℕ) → r.answer ≡ Ok q → (q ≡ lowest_free l) × (q < 8)
entry_place {m} {bytes} {budget} {r} {l} h e q a =
    let p = h.place q a ∙ ap lowest_free e in
    let g : entry_refusal l bytes budget ≡ none =
    ap (λ (x : Line). entry_refusal x bytes budget) (sym e) ∙ sym h.refusal ∙ ap admission_number a in
    let s = free_small l (room l bytes budget g) in
    (p, omega arith)

-- a refused entry
not_moved : (o : Option ℕ) (k : ℕ) (new old : Machine) → o ≡ some k → moved_unless o new old ≡ old
unfolding moved_unless
not_moved o k new old e = ap (λ (o : Option ℕ). moved_unless o new old) e

pub refused_still : {m : Machine} {bytes : List ℕ} {budget k : ℕ} {r : Entered} → IsEntered m bytes budget r
    → admission_number r.answer ≡ some k → r.machine ≡ m
refused_still {m} {k = k} h e = h.machine ∙ not_moved _ k _ m (sym h.refusal ∙ e)

-- a turn that nobody has
still : {m : Machine} {old new : List ℕ} {r : Turned} (k : Meeting) → IsTurned m old new r → meeting m (length old) ≡ k
    → (r.outcome ≡ outcome_of k) × (r.machine ≡ after_turn m k) × (new ≡ sheet_after k old)
still {m} {old} k t e = (t.outcome ∙ ap outcome_of e, t.machine ∙ ap (after_turn m) e, t.sheet ∙ ap (λ (x : Meeting). sheet_after x old) e)

module _ (es : List Event) {m : Machine} (h : Led es m) {old new : List ℕ} {r : Turned} (t : IsTurned m old new r) where
  pub nobody_still : run es ≡ [] → (r.outcome ≡ Empty) × (r.machine ≡ m) × (new ≡ old)
  nobody_still e = still nobody t (empty_met m (length old) (run_line es m h ∙ e))

  pub short_still : (d : District) (l : Line) → run es ≡ d ∷ l → length old < sheet_places
      → (r.outcome ≡ ShortSheet) × (r.machine ≡ m) × (new ≡ old)
  short_still d l e few = still short_sheet t (line_short_met m (length old) d l (run_line es m h ∙ e) few)

  -- u of a last turn is that of the plan call
  pub last_multipliers : {new' : List ℕ} {s : Result Planned Refusal} (d : District) (l : Line) → run es ≡ d ∷ l → sheet_places ≤ length old
      → finishes d ≡ true
      → IsPlanCall (last_entry d.place es).bytes (last_entry d.place es).budget old new' s → u_list r.planned ≡ u_list s
  last_multipliers {new'} {s} d l e long f c =
      let x = ((served es m h old new r t d l e long).last f).1 in
      let k = ((run_kept es).each d (subst⁻¹ (λ (y : Line). Memᴰ d y) e (Memᴰ.head refl))).bytes_are in
      let same = (finished_as_plan_call es m h old new r t d l e long f new' s c).1 in
      equal_multipliers x c.planned (ap plan_of k) x.verdict (sym same.refusal ∙ x.verdict)

-- ---- what a line's districts are, after a run

pub seven : (es : List Event) (d : District) → Memᴰ d (run es) → (more : List Event) → turns_of d.place (run es) more ≡ 0
    → turns_in (run es) more ≤ 7
seven es d m more never =
    let w = waits_in (run es) d m in
    let a = waits_short w.1 in
    let b = (run_kept es).short in
    let c = (waits_run (run es) w.0 w.1 more (none_of d.place (run es) more never)).0 in
    omega arith

pub rounded_up : (es : List Event) (d : District) → Memᴰ d (run es) → finishes d ≡ true
    → (total d ≤ suc (turns_since d.place es) * 1000) × (suc (turns_since d.place es) * 1000 < total d + 1000)
unfolding finishes
rounded_up es d m f =
    let k = (run_kept es).each d m in
    let a = k.tried_are in
    let b = k.unfinished in
    let c = leb→le (total d) (d.tried + 1000) (of_true f) in
    (omega arith, omega arith)

pub entered_with : (es : List Event) (d : District) → Memᴰ d (run es)
    → (d.bytes ≡ (last_entry d.place es).bytes) × (d.budget ≡ (last_entry d.place es).budget)
entered_with es d m = let k = (run_kept es).each d m in (k.bytes_are, k.budget_is)
