-- EIGHT DISTRICTS IN TURN, for callers in other languages: first of any bytes that are lent as a machine, then of what the calls answer
-- after every run of calls from a start on, accepted or not. It is what `districts` promises of machines, since the machine that is lent is
-- one that the run leads to (`Laws.LentTurns.lent_led`).
use Rattle.std.specs.Prelude.{◌≡◌, refl, true, false, ℕ, suc, ◌+◌, ◌≤◌, ◌<◌, T, ℤ, pos, neg_ℤ, nat_abs, length, drop, Result}
use Rattle.std.proofs.Math.Path.{sym, ap, subst⁻¹}
use Rattle.std.proofs.Common.{◌∙◌, subst, arith}
use Rattle.std.proofs.Math.Bool.{cond}
use mathlib.Core.List.{List, [], ◌∷◌, ◌++◌, Memᴰ}
use Rattle.std.proofs.Math.Option.{Option, none}
use Rattle.postman.specs.Refusal.{answer, unless}
use Rattle.postman.specs.PlanFile.{plan_of}
use Rattle.postman.specs.PlanCall.{sheet_places, best_cost}
use Rattle.refusal.specs.Verdict.{verdict_number}
use Rattle.refusal.specs.declared.Refusal.{Refusal}
use Rattle.solution.specs.Planned.{u_list}
use Rattle.solution.specs.declared.Planned.{Planned}
use Rattle.solution.specs.SameAnswer.{SameAnswer}
use Rattle.multipliers.specs.Ascent.{multipliers_for}
use Rattle.postman.specs.Districts.{turn_trees, District, Line, entry_refusal, lowest_free, total, finishes}
use Rattle.district_machine.specs.declared.machine.District.{District as DistrictRecord}
use Rattle.district_machine.specs.declared.machine.Machine.{Machine}
use Rattle.districts.specs.declared.turn.Outcome.{Outcome}
use Rattle.districts.specs.declared.turn.Outcome.TheVariants.{Finished}
use Rattle.districts.specs.declared.turn.Turned.{Turned}
use Rattle.postman.specs.DistrictRuns.{Event, turned, run, is_turn, last_entry, turns_since}
use Rattle.district_machine.specs.Machine.{district_of, bytes_of, waiting_in, line_of, empty_machine}
use Rattle.districts.specs.Number.{outcome_number, had_turn, had_last}
use Rattle.district_entry.specs.Entered.{after_entry}
use Rattle.districts.specs.Turned.{Meeting, nobody, short_sheet, meeting, after_turn, outcome_of, answer_of, sheet_after}
use Rattle.districts.specs.Served.{IsServed}
use Rattle.districts.specs.Laws.Theorem.{run_line, drained, as_entered, IsRoundedUp, last_turn, served, finished_as_plan_call}
use Rattle.districts.specs.Laws.Runs.{run_kept, waits_run, waits_in}
use Rattle.district_entry.specs.Laws.Line.{waits_short}
use Rattle.districts.specs.Laws.Turned.{empty_met, line_short_met}
use Rattle.answers.specs.Number.{one_number}
use Rattle.answers.specs.Answer.{words_of, put_first}
use Rattle.exports.specs.Call.{IsExportedCall}
use Rattle.machine_bytes.specs.MachineBytes.{districts_bytes, machine_in, machine_bytes}
use Rattle.district_exports.specs.Turns.{IsExportedEntry, IsExportedTurn, Call, turns, events_of, LentTurn, LedLent}
use Rattle.promises.specs.Told.{is_told, turns_told, NeverTold}
use Rattle.promises.specs.Laws.ToldTurns.{turn_told, turns_counted, never_of}
use Rattle.machine_bytes.specs.MachineStored.{IsTurnHandedOver}
use Rattle.promises.specs.Laws.LentTurns.{lent_led, admitted_is}

-- ---- ANY BYTES that are long enough are a machine, and the machine after a call is a function of the one before

pub entry_bytes : (plan : List ℕ) (budget : ℕ) (bytes bytes' : List ℕ) (n : ℤ) → districts_bytes ≤ length bytes
    → IsExportedEntry plan budget bytes bytes' n → let m = machine_in bytes in
    (n ≡ one_number (answer (entry_refusal (line_of m) plan budget) (lowest_free (line_of m))))
    × (bytes' ≡ unless (entry_refusal (line_of m) plan budget) (machine_bytes (after_entry m plan budget) ++ drop districts_bytes bytes)
    bytes)
entry_bytes plan budget bytes bytes' n long x =
    let y = x.entered long in
    let r = y.0 in (
      y.2.number_is ∙ admitted_is r.answer _ _ y.1.refusal y.1.place,
      y.2.machine_is ∙ ap (λ (o : Option ℕ). unless o (machine_bytes r.machine ++ drop districts_bytes bytes) bytes) y.1.refusal
          ∙ ap (λ (m : Machine). unless (entry_refusal (line_of (machine_in bytes)) plan budget)
          (machine_bytes m ++ drop districts_bytes bytes) bytes) y.1.machine,
    )

-- A turn, where k is what it meets.
pub record IsTurnOf (k : Meeting) (bytes bytes' sheet sheet' words words' : List ℕ) (u u' : List ℤ) (n : ℤ) : Type 0 where
  pub number_is : n ≡ one_number (outcome_number (outcome_of k))
  pub machine_is : bytes' ≡ cond (had_turn (outcome_of k)) (machine_bytes (after_turn (machine_in bytes) k) ++ drop districts_bytes bytes)
      bytes
  pub sheet_is : sheet' ≡ sheet_after k sheet
  pub words_are : words' ≡ cond (had_turn (outcome_of k)) (put_first (words_of (answer_of k)) words) words
  pub multipliers_are : u' ≡ cond (had_last (outcome_of k)) (put_first (u_list (answer_of k)) u) u

pub turn_bytes : (bytes bytes' sheet sheet' words words' : List ℕ) (u u' : List ℤ) (n : ℤ) → districts_bytes ≤ length bytes
    → IsExportedTurn bytes bytes' sheet sheet' words words' u u' n
    → IsTurnOf (meeting (machine_in bytes) (length sheet)) bytes bytes' sheet sheet' words words' u u' n
turn_bytes bytes bytes' sheet sheet' words words' u u' n long x =
    let y = x.turned long in
    let t = y.1 in
    let h = y.2 in
    let after : Outcome → Machine → List ℕ = λ o m. cond (had_turn o) (machine_bytes m ++ drop districts_bytes bytes) bytes in
    let told : Outcome → Result Planned Refusal → List ℕ = λ o p. cond (had_turn o) (put_first (words_of p) words) words in
    let found : Outcome → Result Planned Refusal → List ℤ = λ o p. cond (had_last o) (put_first (u_list p) u) u in
    record {
      number_is = h.number_is ∙ ap (λ (o : Outcome). one_number (outcome_number o)) t.outcome;
      machine_is = h.machine_is ∙ (λ i. after (t.outcome i) (t.machine i));
      sheet_is = t.sheet;
      words_are = h.words_are ∙ (λ i. told (t.outcome i) (t.planned i));
      multipliers_are = h.multipliers_are ∙ (λ i. found (t.outcome i) (t.planned i));
    }

-- ---- AFTER A RUN

-- AN ENTRY answers the lowest free place of the run's line, or minus the refusal.
pub lent_entry : (cs : List Call) (b : List ℕ) → LedLent cs b → (plan : List ℕ) (budget : ℕ) (bytes : List ℕ) (n : ℤ)
    → IsExportedEntry plan budget b bytes n
    → n ≡ one_number (answer (entry_refusal (run (events_of cs)) plan budget) (lowest_free (run (events_of cs))))
lent_entry cs b h plan budget bytes n x =
    let i = lent_led cs b h in
    (entry_bytes plan budget b bytes n i.0 x).0
    ∙ ap (λ (l : Line). one_number (answer (entry_refusal l plan budget) (lowest_free l))) (run_line (events_of cs) (machine_in b) i.1)

module _ (cs : List Call) (b : List ℕ) (h : LedLent cs b) (bytes sheet sheet' words words' : List ℕ) (u u' : List ℤ) (n : ℤ)
    (x : IsExportedTurn b bytes sheet sheet' words words' u u' n) where
  abbrev es : List Event
  es = events_of cs

  -- Nothing is changed, of what a caller lends.
  abbrev IsUnchanged : Type 0
  IsUnchanged = (bytes ≡ b) × (sheet' ≡ sheet) × (words' ≡ words) × (u' ≡ u)

  led_here : districts_bytes ≤ length b
  led_here = (lent_led cs b h).0

  line_here : line_of (machine_in b) ≡ run es
  line_here = run_line es (machine_in b) (lent_led cs b h).1

  unchanged_by : (k : Meeting) → meeting (machine_in b) (length sheet) ≡ k → IsTurnOf k b bytes sheet sheet' words words' u u' n
  unchanged_by k q =
      subst (λ (k : Meeting). IsTurnOf k b bytes sheet sheet' words words' u u' n) q
      (turn_bytes b bytes sheet sheet' words words' u u' n led_here x)

  -- A TURN WITH NO DISTRICT INSIDE, and one with a short sheet.
  pub lent_empty : run es ≡ [] → (n ≡ pos 16) × IsUnchanged
  lent_empty e = let t = unchanged_by nobody (empty_met (machine_in b) (length sheet) (line_here ∙ e)) in
      (t.number_is, (t.machine_is, t.sheet_is, t.words_are, t.multipliers_are))

  pub lent_short : (d : District) (l : Line) → run es ≡ d ∷ l → length sheet < sheet_places → (n ≡ neg_ℤ (pos 8)) × IsUnchanged
  lent_short d l e few =
      let t = unchanged_by short_sheet (line_short_met (machine_in b) (length sheet) d l (line_here ∙ e) few) in
      (t.number_is, (t.machine_is, t.sheet_is, t.words_are, t.multipliers_are))

  abbrev r : Turned
  r = (x.turned led_here).0

  abbrev handed : IsTurnHandedOver r b bytes words words' u u' n
  handed = (x.turned led_here).2

  module _ (d : District) (l : Line) (e : run es ≡ d ∷ l) (long : sheet_places ≤ length sheet) where
    front : IsServed d sheet sheet' r
    front = served es (machine_in b) (lent_led cs b h).1 sheet sheet' r (x.turned led_here).1 d l e long

    -- A TURN THAT IS NOT THE LAST answers the place, the trees so far and their least cost; sheet and multipliers are as they were.
    pub lent_going : finishes d ≡ false
        → (n ≡ pos d.place) × (sheet' ≡ sheet)
        × (words' ≡ put_first (0 ∷ best_cost (plan_of d.bytes) (d.tried + turn_trees) ∷ 0 ∷ (d.tried + turn_trees) ∷ 0 ∷ 0 ∷ []) words)
        × (u' ≡ u)
    lent_going f =
        let s = front.going f in (
          handed.number_is ∙ ap (λ (o : Outcome). one_number (outcome_number o)) s.0,
          s.2,
          handed.words_are ∙ ap (λ (o : Outcome). cond (had_turn o) (put_first (words_of r.planned) words) words) s.0
              ∙ ap (λ (p : Result Planned Refusal). put_first (words_of p) words) s.1,
          handed.multipliers_are ∙ ap (λ (o : Outcome). cond (had_last o) (put_first (u_list r.planned) u) u) s.0,
        )

    -- THE LAST TURN of a district answers its place, and hands over what one plan call with the plan and the budget that it entered
    -- with does: sheet, words and multipliers.
    module _ (f : finishes d ≡ true) (sheet'' words'' : List ℕ) (u'' : List ℤ) (k : ℤ)
        (c : IsExportedCall (last_entry d.place es).bytes (last_entry d.place es).budget sheet sheet'' words words'' u u'' k) where
      last : (r.outcome ≡ Finished d.place) × SameAnswer r.planned c.answer × (sheet' ≡ sheet'')
      last = finished_as_plan_call es (machine_in b) (lent_led cs b h).1 sheet sheet' r (x.turned led_here).1 d l e long f sheet''
          c.answer c.called

      good : verdict_number c.answer ≡ none
      good = sym last.1.refusal ∙ (front.last f).1.verdict

      same_words : words_of r.planned ≡ words_of c.answer
      same_words =
          let s = last.1 in
          λ j. s.places j ∷ s.cost j ∷ nat_abs (s.floor j) ∷ s.trees j ∷ cond (s.whole j) 1 0 ∷ s.parts j ∷ []

      same_multipliers : u_list r.planned ≡ u_list c.answer
      same_multipliers =
          let m = ((run_kept es).each d (subst⁻¹ (λ (y : Line). Memᴰ d y) e (Memᴰ.head refl))).bytes_are in
          let p = c.called.planned in
          ((front.last f).1.answered refl).multipliers_are ∙ ap (λ (y : List ℕ). multipliers_for (plan_of y)) m
          ∙ sym (p.answered (sym p.verdict ∙ good)).multipliers_are

      pub lent_last : (n ≡ pos (8 + d.place)) × (k ≡ pos 0) × (sheet' ≡ sheet'') × (words' ≡ words'') × (u' ≡ u'')
      unfolding unless answer
      lent_last =
          let o = last.0 in
          let t = c.handed_over in (
            handed.number_is ∙ ap (λ (o : Outcome). one_number (outcome_number o)) o,
            t.number_is ∙ ap (λ (v : Option ℕ). one_number (answer v 0)) good,
            last.2,
            handed.words_are ∙ ap (λ (o : Outcome). cond (had_turn o) (put_first (words_of r.planned) words) words) o
                ∙ ap (λ (w : List ℕ). put_first w words) same_words
                ∙ sym (t.words_are ∙ ap (λ (v : Option ℕ). unless v (put_first (words_of c.answer) words) words) good),
            handed.multipliers_are ∙ ap (λ (o : Outcome). cond (had_last o) (put_first (u_list r.planned) u) u) o
                ∙ ap (λ (w : List ℤ). put_first w u) same_multipliers
                ∙ sym (t.multipliers_are ∙ ap (λ (v : Option ℕ). unless v (put_first (u_list c.answer) u) u) good),
          )

-- ---- READ OFF THE NUMBERS

-- AN ANSWERED TURN IS EXACTLY AN ACCEPTED EVENT of the run: one that answered 0 to 15.
pub lent_answered : (cs : List Call) (b bytes : List ℕ) → LedLent cs b → (places : ℕ) (n : ℤ) → LentTurn b bytes places n
    → is_told (turns places n) ≡ is_turn (run (events_of cs)) (turned places)
lent_answered cs b bytes h places n t = turn_told cs b bytes h places n t

-- "No waiting district sees more than seven turns of others before its own": after any run of calls in which a district is in the line, and
-- any further calls of which none was answered for its place, at most seven of these were turns that a district had.
pub lent_seven_turns : (cs more : List Call) (bytes : List ℕ) → LedLent (more ++ cs) bytes → (d : District)
    → Memᴰ d (run (events_of cs)) → NeverTold d.place more → turns_told more ≤ 7
lent_seven_turns cs more bytes h d x never =
    let es = events_of cs in
    let w = waits_in (run es) d x in
    let a = waits_short w.1 in
    let b = (run_kept es).short in
    let c = (waits_run (run es) w.0 w.1 (events_of more) (never_of cs d.place more bytes h never)).0 in
    let e = turns_counted cs more bytes h in
    omega arith

module _ (cs : List Call) (b : List ℕ) (h : LedLent cs b) (d : DistrictRecord) (x : Memᴰ d (waiting_in (machine_in b))) where
  -- A district that waits in the bytes has the plan and the budget that it entered with.
  pub lent_as_entered : (bytes_of d ≡ (last_entry d.place (events_of cs)).bytes) × (d.budget ≡ (last_entry d.place (events_of cs)).budget)
  lent_as_entered = as_entered (events_of cs) (machine_in b) (lent_led cs b h).1 d x

  -- "It finishes in turn T ÷ 1,000 of its own, rounded up."
  pub lent_last_turn : T (finishes (district_of d)) → IsRoundedUp (total (district_of d)) (suc (turns_since d.place (events_of cs)))
  lent_last_turn f = last_turn (events_of cs) (machine_in b) (lent_led cs b h).1 d x f

-- A MACHINE THAT IS EMPTY AGAIN is zeros, as at its start.
pub lent_drained : (cs : List Call) (b : List ℕ) → LedLent cs b → run (events_of cs) ≡ [] → machine_in b ≡ empty_machine
lent_drained cs b h e = let i = lent_led cs b h in
    drained (events_of cs) (machine_in b) i.1 (run_line (events_of cs) (machine_in b) i.1 ∙ e)
