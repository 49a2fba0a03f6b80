-- WHAT ENTRIES AND TURNS PROMISE, in any order from the empty machine, accepted or not. The machine after any run of them has the run's
-- line (`Laws.Led.led`), so that what is said of lines is said of machines.
use Rattle.std.specs.Prelude.{◌≡◌, refl, true, ℕ, suc, ◌+◌, ◌*◌, ◌≤◌, ◌<◌, length, T, Result}
use Rattle.std.proofs.Math.Path.{ap, subst⁻¹}
use Rattle.std.proofs.Common.{◌∙◌, subst}
use mathlib.Core.List.{List, [], ◌∷◌, map, Memᴰ}
use native.Mathlib.Omega.{arith}
use Rattle.std.proofs.Math.Dec.{leb→le}
use Rattle.postman.specs.PlanCall.{sheet_places}
use Rattle.postman.specs.Laws.Membership.{mem_map}
use Rattle.refusal.specs.declared.Refusal.{Refusal}
use Rattle.solution.specs.declared.Planned.{Planned}
use Rattle.planner.specs.Contract.{IsPlanCall}
use Rattle.solution.specs.SameAnswer.{SameAnswer}
use Rattle.district_machine.specs.declared.machine.District.{District as DistrictRecord}
use Rattle.district_machine.specs.declared.machine.Machine.{Machine}
use Rattle.districts.specs.declared.turn.Outcome.TheVariants.{Finished}
use Rattle.districts.specs.declared.turn.Turned.{Turned}
use Rattle.postman.specs.Districts.{District, Line, total, finishes}
use Rattle.postman.specs.DistrictRuns.{Event, turned, run, is_turn, is_turn_of, turns_in, last_entry, turns_since, NoTurnOf}
use Rattle.district_machine.specs.Machine.{district_of, bytes_of, waiting_in, line_of, machine_of, empty_machine}
use Rattle.districts.specs.Number.{outcome_number, had_turn, had_last, is_of, HasPlace}
use Rattle.districts.specs.Turned.{plan_by, IsTurned}
use Rattle.districts.specs.Finished.{HoldsDrive}
use Rattle.districts.specs.Led.{Led}
use Rattle.districts.specs.Served.{IsServed}
use Rattle.district_entry.specs.Laws.Line.{waits_short}
use Rattle.districts.specs.Laws.Runs.{waits_run, waits_in, run_kept}
use Rattle.districts.specs.Laws.Turned.{placed}
use Rattle.districts.specs.Laws.Number.{number_apart}
use Rattle.districts.specs.Laws.Drive.{finished_drive}
use Rattle.districts.specs.Laws.Led.{led, led_meets, met_answered, met_of}
use Rattle.districts.specs.Laws.Finished.{front_accepted, front_turn, as_call}

-- ---- any machine

-- WHAT A TURN ANSWERS CAN BE TOLD BY ITS NUMBER: no two answers that a turn of any machine gives have the same.
pub number_injective : (m m' : Machine) (old new old' new' : List ℕ) (r r' : Turned) → IsTurned m old new r → IsTurned m' old' new' r'
    → outcome_number r.outcome ≡ outcome_number r'.outcome → r.outcome ≡ r'.outcome
number_injective m m' old new old' new' r r' t t' e =
    number_apart r.outcome r'.outcome (subst⁻¹ HasPlace t.outcome (placed m (length old)))
    (subst⁻¹ HasPlace t'.outcome (placed m' (length old'))) e

-- AFTER A LAST TURN A DRIVE OF THE FRONT DISTRICT'S PLAN STANDS ON THE SHEET: its places are counted, and its cost is answered.
pub finished_places : (m : Machine) (old new : List ℕ) (r : Turned) → IsTurned m old new r
    → (d : DistrictRecord) (ds : List DistrictRecord) → waiting_in m ≡ d ∷ ds → had_last r.outcome ≡ true
    → HoldsDrive (plan_by d) new r.planned
finished_places m old new r t d ds w e = finished_drive m old new r t d ds w e

-- ---- machines that calls lead to

module _ (es : List Event) (m : Machine) (h : Led es m) where
  -- The line of the machine is the run's.
  pub run_line : line_of m ≡ run es
  run_line = (led es m h).0

  -- A MACHINE THAT IS EMPTY AGAIN IS THE EMPTY MACHINE.
  pub drained : line_of m ≡ [] → m ≡ empty_machine
  drained e =
      let x = (led es m h).1.exact in
      let n : waiting_in m ≡ [] = none (waiting_in m) e in
      x ∙ ap machine_of n
    where
      none : (ds : List DistrictRecord) → map district_of ds ≡ [] → ds ≡ []
      none [] q = refl
      none (d ∷ ds) q = (let n = ap length q in absurd (omega arith))

  -- A district that waits, as one of the run's line.
  waits : (d : DistrictRecord) → Memᴰ d (waiting_in m) → Memᴰ (district_of d) (run es)
  waits d x = subst (λ (l : Line). Memᴰ (district_of d) l) run_line (mem_map district_of x)

  -- "No waiting district sees more than seven turns of others before its own, in any run of entries and accepted turns." After any further
  -- run in which it has no turn: at most seven accepted turns are in that one.
  pub seven_turns : (d : DistrictRecord) → Memᴰ d (waiting_in m) → (more : List Event) → NoTurnOf d.place (line_of m) more
      → turns_in (line_of m) more ≤ 7
  seven_turns d x more never =
      let w = waits_in (run es) (district_of d) (waits d x) in
      let a = waits_short w.1 in
      let b = (run_kept es).short in
      let c = (waits_run (run es) w.0 w.1 more (subst (λ (l : Line). NoTurnOf d.place l more) run_line never)).0 in
      let e = ap (λ (l : Line). turns_in l more) run_line in
      omega arith

  -- A district that waits has the plan and the budget that it entered with, whatever entered, left or was refused in between.
  pub as_entered : (d : DistrictRecord) → Memᴰ d (waiting_in m)
      → (bytes_of d ≡ (last_entry d.place es).bytes) × (d.budget ≡ (last_entry d.place es).budget)
  as_entered d x = let k = (run_kept es).each (district_of d) (waits d x) in (k.bytes_are, k.budget_is)

-- n is T ÷ 1,000, rounded up.
pub record IsRoundedUp (t n : ℕ) : Type 0 where
  pub enough : t ≤ n * 1000
  pub no_more : n * 1000 < t + 1000

module _ (es : List Event) (m : Machine) (h : Led es m) where
  -- "It finishes in turn T ÷ 1,000 of its own, rounded up."
  pub last_turn : (d : DistrictRecord) → Memᴰ d (waiting_in m) → T (finishes (district_of d))
      → IsRoundedUp (total (district_of d)) (suc (turns_since d.place es))
  unfolding finishes
  last_turn d x f =
      let k = (run_kept es).each (district_of d) (waits es m h d x) in
      let a = k.tried_are in
      let b = k.unfinished in
      let c = leb→le (total (district_of d)) (d.held.tried + 1000) f in
      record { enough = omega arith; no_more = omega arith }

  module _ (old new : List ℕ) (r : Turned) (t : IsTurned m old new r) where
    -- AN ANSWERED TURN IS EXACTLY AN ACCEPTED EVENT OF THE RUN; and it is of place q exactly where that place is named.
    pub answered_accepted : had_turn r.outcome ≡ is_turn (run es) (turned (length old))
    unfolding is_turn
    answered_accepted =
        ap had_turn t.outcome ∙ met_answered m (length old) (led_meets es m h (length old))
        ∙ ap (λ (l : Line). is_turn l (turned (length old))) (run_line es m h)

    pub answered_of : (q : ℕ) → is_of q r.outcome ≡ is_turn_of q (run es) (turned (length old))
    unfolding is_turn
    answered_of q =
        ap (is_of q) t.outcome ∙ met_of m (length old) q (led_meets es m h (length old))
        ∙ ap (λ (l : Line). is_turn_of q l (turned (length old))) (run_line es m h)

    module _ (d : District) (l : Line) (e : run es ≡ d ∷ l) (long : sheet_places ≤ length old) where
      -- THE FRONT DISTRICT'S TURN.
      pub served : IsServed d old new r
      served = front_turn m old new r t d l (run_line es m h ∙ e) long (led_meets es m h (length old))

      -- "A district's answer equals one plan call with its budget, however many turns it took": in its last turn its place
      -- is answered, and what is answered and written is what one plan call gives for the plan and the budget that it
      -- entered with, whatever came in between.
      pub finished_as_plan_call : finishes d ≡ true → (new' : List ℕ) (s : Result Planned Refusal)
          → IsPlanCall (last_entry d.place es).bytes (last_entry d.place es).budget old new' s
          → (r.outcome ≡ Finished d.place) × SameAnswer r.planned s × (new ≡ new')
      finished_as_plan_call f new' s g =
          let x = served.last f in
          let k = (run_kept es).each d (subst⁻¹ (λ (y : Line). Memᴰ d y) e (Memᴰ.head refl)) in
          let a = as_call d.bytes _ d.budget _ old new new' r.planned s k.bytes_are k.budget_is
          (front_accepted m (led es m h).1 d l (run_line es m h ∙ e) (length old) long) x.1 g in
          (x.0, a.0, a.1)
