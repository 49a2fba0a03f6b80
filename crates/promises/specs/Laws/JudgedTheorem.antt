-- EVERY DRIVE THAT THE PLANNER WRITES PASSES THE JUDGE WITH THE COST IT PRINTED: the plan call's and so the short call's, that of a plan
-- call at a departure, of the deep call, of asking an open plan, of a district's last turn, and of a car whose marks are the plan's own.
-- And no drive that anyone sent is judged to cost less than the floor. For every input, from the contracts of the calls alone; then once
-- more over what callers in other languages lend.
use Rattle.std.specs.Prelude.{◌≡◌, true, cond, ℕ, ◌%◌, ◌≤◌, ◌<◌, length, get_or, take, ℤ, pos, ◌≤ℤ◌, Result}
use Rattle.std.proofs.Common.{sym, ap, ◌∙◌, subst, arith}
use mathlib.Core.List.{List, ◌∷◌, Memᴰ}
use Rattle.std.proofs.Math.Option.{Option, none}
use Rattle.postman.specs.Refusal.{given, unless}
use Rattle.postman.specs.PlanFile.{plan_of}
use Rattle.postman.specs.PlanCall.{sheet_places, call_refusal}
use Rattle.postman.specs.Windows.{Departure, windows_in}
use Rattle.postman.specs.Marks.{own_marks}
use Rattle.postman.specs.Judge.{highest_places, judge_answer}
use Rattle.postman_laws.specs.Laws.Judge.{call_judged, file_judged}
use Rattle.postman_laws.specs.Laws.Windows.{call_accepted_at, same_some}
use Rattle.refusal.specs.Verdict.{verdict_number}
use Rattle.refusal.specs.declared.Refusal.{Refusal}
use Rattle.solution.specs.declared.Planned.{Planned}
use Rattle.solution.specs.Planned.{IsPlanned, summary_of, places_of}
use Rattle.solution.specs.Laws.Answered.{accepted, is_answer, cost_is, floor_is, drive_written}
use Rattle.planner.specs.Contract.{IsPlanCall}
use Rattle.windows.specs.Contract.{IsPlanCallAt}
use Rattle.two_cars.specs.Contract.{IsCar}
use Rattle.deep_call.specs.Contract.{IsDeepCall}
use Rattle.deep_call.specs.Laws.Theorem.{passes_the_judge}
use Rattle.two_cars.specs.Laws.Own.{as_plan_call}
use Rattle.district_machine.specs.declared.machine.Machine.{Machine}
use Rattle.districts.specs.declared.turn.Outcome.{Outcome}
use Rattle.districts.specs.declared.turn.Turned.{Turned}
use Rattle.postman.specs.Districts.{District, Line, finishes}
use Rattle.postman.specs.DistrictRuns.{Event, run, last_entry}
use Rattle.districts.specs.Number.{had_turn}
use Rattle.districts.specs.Turned.{IsTurned}
use Rattle.districts.specs.Led.{Led}
use Rattle.districts.specs.Laws.Theorem.{served}
use Rattle.districts.specs.Laws.Runs.{run_kept}
use Rattle.districts.specs.Laws.Led.{led}
use Rattle.districts.specs.Laws.Finished.{front_accepted}
use Rattle.judge.specs.Contract.{judged_answer, IsJudged}
use Rattle.held_file.specs.Held.{file_in}
use Rattle.answers.specs.Number.{one_number}
use Rattle.answers.specs.Answer.{words_of, put_first, IsHandedOver}
use Rattle.answers.specs.Laws.Answer.{put_at, answered_zero}
use Rattle.answers.specs.Laws.CarsNumber.{first_told, second_told}
use Rattle.machine_bytes.specs.MachineBytes.{machine_in}
use Rattle.open_plan_bytes.specs.StateBytes.{open_bytes, open_in}
use Rattle.exports.specs.Call.{IsExportedCall, IsExportedCallAt, IsExportedDeepCall}
use Rattle.open_plan_exports.specs.Editing.{IsExportedAsk}
use Rattle.exports.specs.Cars.{IsLeft, Lent, IsExportedCars}
use Rattle.district_exports.specs.Turns.{IsExportedTurn, Call, events_of, LedLent}
use Rattle.promises.specs.Laws.LentTurns.{lent_led}

-- Judged on the file's plan, the list w costs c, whoever judges it by the contract of the judging call.
abbrev pub Passes : List ℕ → List ℕ → ℕ → Type 0
Passes bytes w c = (j : Result ℕ Refusal) → IsJudged bytes w j → judged_answer j ≡ given c

passes : {bytes w : List ℕ} {c : ℕ} → judge_answer bytes w ≡ given c → Passes bytes w c
passes e j h = h.answer_is ∙ e

-- ---- what is judged of the places written

-- an answer for the file's plan
planned_judged : (bytes : List ℕ) (budget : ℕ) (refusal : Option ℕ) (old new : List ℕ) (r : Result Planned Refusal)
    → IsPlanned (plan_of bytes) budget refusal old new r → verdict_number r ≡ none
    → call_refusal bytes budget (length old) ≡ none → judge_answer bytes (take (places_of r) new) ≡ given (summary_of r).cost
unfolding highest_places sheet_places
planned_judged bytes budget refusal old new r i good e =
    let t = drive_written _ _ _ _ _ _ i good in
    let l = t.short in
    call_judged bytes (take (places_of r) new) budget (length old) e (omega arith) t.drive
    ∙ ap given (t.costs ∙ sym (cost_is _ _ _ _ _ _ i good))

call_passes : (bytes : List ℕ) (budget : ℕ) (old new : List ℕ) (r : Result Planned Refusal) → IsPlanCall bytes budget old new r
    → verdict_number r ≡ none
    → judge_answer bytes (take (places_of r) new) ≡ given (summary_of r).cost
call_passes bytes budget old new r call good =
    planned_judged bytes budget _ old new r call.planned good (accepted _ _ _ _ _ _ call.planned good)

-- the plan at a departure has the file's must arcs, so that its drives are judged by the file's plan at the same cost
at_passes : (bytes : List ℕ) (budget : ℕ) (numbers : List ℕ) (d : Departure) (old new : List ℕ) (r : Result Planned Refusal)
    → IsPlanCallAt bytes budget numbers d old new r → verdict_number r ≡ none
    → judge_answer bytes (take (places_of r) new) ≡ given (summary_of r).cost
unfolding highest_places sheet_places
at_passes bytes budget numbers d old new r call good =
    let a = call_accepted_at bytes budget (length old) numbers d (accepted _ _ _ _ _ _ call.planned good) in
    let l = (drive_written _ _ _ _ _ _ call.planned good).short in
    file_judged bytes (take (places_of r) new) a.before.file
    (same_some (plan_of bytes) (windows_in numbers) d a.none_shut a.before.some_required) (omega arith) (call.written_drive good)
    ∙ ap given (call.written_cost good)

-- ---- THE CALLS

module _ (bytes : List ℕ) (budget : ℕ) (old new : List ℕ) (r : Result Planned Refusal) (good : verdict_number r ≡ none) where
  -- the plan call; the short call is the plan call at its budget
  pub written_passes : IsPlanCall bytes budget old new r → Passes bytes (take (places_of r) new) (summary_of r).cost
  written_passes call = passes (call_passes bytes budget old new r call good)

  -- the plan call at a departure; asking an open plan is this call on the file that it holds
  pub written_passes_at : (numbers : List ℕ) (d : Departure) → IsPlanCallAt bytes budget numbers d old new r
      → Passes bytes (take (places_of r) new) (summary_of r).cost
  written_passes_at numbers d call = passes (at_passes bytes budget numbers d old new r call good)

  -- the deep call
  pub written_passes_deep : (rounds : ℕ) → IsDeepCall bytes budget rounds old new r
      → Passes bytes (take (places_of r) new) (summary_of r).cost
  written_passes_deep rounds call = passes (passes_the_judge bytes budget rounds old new r call good)

  -- a car whose marks are the plan's own must arcs
  pub written_passes_car : IsCar bytes (own_marks (plan_of bytes)) budget old new r
      → Passes bytes (take (places_of r) new) (summary_of r).cost
  written_passes_car car = written_passes (as_plan_call bytes budget old new r car)

  -- NO DRIVE THAT ANOTHER HOUSE SENT IS JUDGED TO COST LESS THAN THE FLOOR
  pub floor_below : IsPlanCall bytes budget old new r → (w : List ℕ) (j : Result ℕ Refusal) → IsJudged bytes w j → (c : ℕ)
      → judged_answer j ≡ given c
      → (summary_of r).floor ≤ℤ pos c
  floor_below call w j h c e =
      let t = h.costs c e in
      let f = floor_is _ _ _ _ _ _ call.planned good in
      rw (f, t.1) ((is_answer _ _ _ _ _ _ call.planned good).guarantee.below_every_drive w t.0)

-- a district's last turn, after every run of entries and turns: judged on the plan that it entered with
module _ (es : List Event) (m : Machine) (h : Led es m) (d : District) (l : Line) (e : run es ≡ d ∷ l) (f : finishes d ≡ true)
    (old new : List ℕ) (r : Turned) (t : IsTurned m old new r) (long : sheet_places ≤ length old) where
  turn_judged : judge_answer (last_entry d.place es).bytes (take (places_of r.planned) new) ≡ given (summary_of r.planned).cost
  turn_judged =
      let i = led es m h in
      let x = ((served es m h old new r t d l e long).last f).1 in
      let k = ((run_kept es).each d (subst (λ (y : Line). Memᴰ d y) (sym e) (Memᴰ.head (λ i. d)))).bytes_are in
      ap (λ (b : List ℕ). judge_answer b (take (places_of r.planned) new)) (sym k)
      ∙ planned_judged d.bytes d.budget none old new r.planned x x.verdict
      (front_accepted m i.1 d l (i.0 ∙ e) (length old) long)

  pub last_turn_passes : Passes (last_entry d.place es).bytes (take (places_of r.planned) new) (summary_of r.planned).cost
  last_turn_passes = passes turn_judged

-- ---- over what callers in other languages lend: two words at least, and the sheet

-- The drive that words and sheet hold, and what it costs; and that `postman_judge` answers that cost for it.
abbrev pub lent_drive : List ℕ → List ℕ → List ℕ
lent_drive words sheet = take (get_or words 0 0) sheet

abbrev pub LentPasses : List ℕ → List ℕ → List ℕ → Type 0
LentPasses bytes words sheet = (n : ℤ) → n ≡ one_number (judge_answer bytes (lent_drive words sheet)) → n ≡ pos (get_or words 1 0)

lent_passes : (bytes : List ℕ) (r : Result Planned Refusal) (sheet words words' : List ℕ) → 2 ≤ length words
    → words' ≡ put_first (words_of r) words → judge_answer bytes (take (places_of r) sheet) ≡ given (summary_of r).cost
    → LentPasses bytes words' sheet
lent_passes bytes r sheet words words' room e j n h =
    let a : get_or words' 0 0 ≡ (places_of r) = ap (λ (w : List ℕ). get_or w 0 0) e
    ∙ put_at (words_of r) words 0 0 (omega arith) (omega arith) in
    let b : get_or words' 1 0 ≡ (summary_of r).cost = ap (λ (w : List ℕ). get_or w 1 0) e
    ∙ put_at (words_of r) words 0 1 (omega arith) (omega arith) in
    h ∙ ap (λ (k : ℕ). one_number (judge_answer bytes (take k sheet))) a ∙ ap one_number j ∙ sym (ap pos b)

-- what an answer hands over
handed_words : {r : Result Planned Refusal} {words words' : List ℕ} {u u' : List ℤ} {n : ℤ} → IsHandedOver r words words' u u' n → n ≡ pos 0
    → (verdict_number r ≡ none) × (words' ≡ put_first (words_of r) words)
unfolding unless
handed_words {r} {words} h e =
    let g = answered_zero r (sym h.number_is ∙ e) in
    (g, h.words_are ∙ ap (λ (o : Option ℕ). unless o (put_first (words_of r) words) words) g)

module _ (bytes : List ℕ) (budget : ℕ) (sheet sheet' words words' : List ℕ) (u u' : List ℤ) (n : ℤ) (room : 2 ≤ length words)
    (zero : n ≡ pos 0) where
  pub lent_passes_call : IsExportedCall bytes budget sheet sheet' words words' u u' n → LentPasses bytes words' sheet'
  lent_passes_call x =
      let g = handed_words x.handed_over zero in
      lent_passes bytes x.answer sheet' words words' room g.1 (call_passes bytes budget sheet sheet' x.answer x.called g.0)

  pub lent_passes_at : (numbers : List ℕ) (d : Departure) → IsExportedCallAt bytes budget numbers d sheet sheet' words words' u u' n
      → LentPasses bytes words' sheet'
  lent_passes_at numbers d x =
      let g = handed_words x.handed_over zero in
      lent_passes bytes x.answer sheet' words words' room g.1
      (at_passes bytes budget numbers d sheet sheet' x.answer x.called g.0)

  pub lent_passes_deep : (rounds : ℕ) → IsExportedDeepCall bytes budget rounds sheet sheet' words words' u u' n
      → LentPasses bytes words' sheet'
  lent_passes_deep rounds x =
      let g = handed_words x.handed_over zero in
      lent_passes bytes x.answer sheet' words words' room g.1
      (passes_the_judge bytes budget rounds sheet sheet' x.answer x.called g.0)

-- asking: judged on the file that the state holds
pub lent_passes_ask : (state : List ℕ) (budget : ℕ) (numbers : List ℕ) (d : Departure) (sheet sheet' words words' : List ℕ) (u u' : List ℤ)
    (n : ℤ) → 2 ≤ length words → n ≡ pos 0 → open_bytes ≤ length state
    → IsExportedAsk state budget numbers d sheet sheet' words words' u u' n → LentPasses (file_in (open_in state).plan) words' sheet'
lent_passes_ask state budget numbers d sheet sheet' words words' u u' n room zero long x =
    lent_passes_at (file_in (open_in state).plan) budget sheet sheet' words words' u u' n room zero numbers d (x.asked long)

-- a district's last turn, after every run of calls from a start on
pub lent_passes_turn : (cs : List Call) (b : List ℕ) → LedLent cs b → (bytes sheet sheet' words words' : List ℕ) (u u' : List ℤ) (n : ℤ)
    → IsExportedTurn b bytes sheet sheet' words words' u u' n
    → (d : District) (l : Line) → run (events_of cs) ≡ d ∷ l → finishes d ≡ true → sheet_places ≤ length sheet → 2 ≤ length words
    → LentPasses (last_entry d.place (events_of cs)).bytes words' sheet'
lent_passes_turn cs b h bytes sheet sheet' words words' u u' n x d l e f long room =
    let es = events_of cs in
    let i = lent_led cs b h in
    let y = x.turned i.0 in
    let r = y.0 in
    let o = ((served es (machine_in b) i.1 sheet sheet' r y.1 d l e long).last f).0 in
    lent_passes _ r.planned sheet' words words' room
    (y.2.words_are ∙ ap (λ (o : Outcome). cond (had_turn o) (put_first (words_of r.planned) words) words) o)
    (turn_judged es (machine_in b) i.1 d l e f sheet sheet' r y.1 long)

-- two cars: the number tells whether a car is answered
left_words : {r : Result Planned Refusal} {words words' : List ℕ} {u u' : List ℤ} → IsLeft r words words' u u' → verdict_number r ≡ none
    → words' ≡ put_first (words_of r) words
unfolding unless
left_words {r} {words} h g = h.words_are ∙ ap (λ (o : Option ℕ). unless o (put_first (words_of r) words) words) g

module _ (bytes : List ℕ) (a b : Lent) (n : ℤ) (x : IsExportedCars bytes a b n) (k : ℕ) (e : n ≡ pos k) where
  own_passes : (c : Lent) (r : Result Planned Refusal) → c.marks ≡ own_marks (plan_of bytes)
      → IsCar bytes c.marks c.budget c.sheet c.sheet' r → verdict_number r ≡ none
      → judge_answer bytes (take (places_of r) c.sheet') ≡ given (summary_of r).cost
  own_passes c r m car good =
      call_passes bytes c.budget c.sheet c.sheet' r
      (as_plan_call bytes c.budget c.sheet c.sheet' r
      (subst (λ (q : List ℕ). IsCar bytes q c.budget c.sheet c.sheet' r) m car)) good

  pub lent_passes_first : k < 256 → a.marks ≡ own_marks (plan_of bytes) → 2 ≤ length a.words → LentPasses bytes a.words' a.sheet'
  lent_passes_first l m room =
      let r = x.answer.first in
      let g = first_told r x.answer.second k (sym x.number_is ∙ e) l in
      lent_passes bytes r a.sheet' a.words a.words' room (left_words x.first_left g) (own_passes a r m x.called.first g)

  pub lent_passes_second : k % 256 ≡ 0 → b.marks ≡ own_marks (plan_of bytes) → 2 ≤ length b.words
      → LentPasses bytes b.words' b.sheet'
  lent_passes_second l m room =
      let r = x.answer.second in
      let g = second_told x.answer.first r k (sym x.number_is ∙ e) l in
      lent_passes bytes r b.sheet' b.words b.words' room (left_words x.second_left g) (own_passes b r m x.called.second g)
