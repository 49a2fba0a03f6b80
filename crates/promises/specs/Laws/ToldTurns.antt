-- The turns that the numbers tell of are the accepted turns of the run.
use Rattle.std.specs.Prelude.{◌≡◌, ◌≢◌, Bool, false, not, ◌&&◌, ℕ, ◌+◌, eqb, ℤ, pos, length}
use Rattle.std.proofs.Math.Path.{refl, ap, subst⁻¹}
use Rattle.std.proofs.Common.{sym, ap₂, ◌∙◌, arith, le-leb, eqb→eq}
use Rattle.std.proofs.Math.Bool.{cond}
use mathlib.Core.List.{List, [], ◌∷◌, ◌++◌}
use Rattle.std.proofs.Math.Dec.{T}
use Rattle.std.specs.Int.Signed.{le_z}
use Rattle.postman.specs.Laws.Tests.{is_false}
use Rattle.districts.specs.declared.turn.Outcome.{Outcome}
use Rattle.districts.specs.declared.turn.Outcome.TheVariants.{Empty, ShortSheet, Unfinished, Finished}
use Rattle.districts.specs.declared.turn.Turned.{Turned}
use Rattle.postman.specs.Districts.{Line}
use Rattle.postman.specs.DistrictRuns.{turned, step, run_from, run, is_turn, is_turn_of, turns_in, NoTurnOf}
use Rattle.districts.specs.Number.{outcome_number, had_turn, is_of, HasPlace}
use Rattle.districts.specs.Turned.{IsTurned}
use Rattle.districts.specs.Laws.Theorem.{answered_accepted, answered_of}
use Rattle.districts.specs.Laws.Turned.{placed}
use Rattle.answers.specs.Number.{one_number}
use Rattle.machine_bytes.specs.MachineBytes.{machine_in}
use Rattle.district_exports.specs.Turns.{Call, enters, turns, event_of, events_of, LentTurn, LedLent}
use Rattle.promises.specs.Told.{is_told, turns_told, NeverTold}
use Rattle.promises.specs.Laws.LentTurns.{lent_led}

-- ---- one number

number_told : (o : Outcome) → HasPlace o
    → (le_z (pos 0) (one_number (outcome_number o)) && le_z (one_number (outcome_number o)) (pos 15)) ≡ had_turn o
number_told Empty h = refl
number_told ShortSheet h = refl
number_told (Unfinished q) h = ap₂ ◌&&◌ (le-leb 0 q (omega arith)) (le-leb q 15 (omega arith))
number_told (Finished q) h = ap₂ ◌&&◌ (le-leb 0 (8 + q) (omega arith)) (le-leb (8 + q) 15 (omega arith))

number_of : (q : ℕ) (o : Outcome) → one_number (outcome_number o) ≢ pos q → one_number (outcome_number o) ≢ pos (8 + q) → is_of q o ≡ false
number_of q Empty a b = refl
number_of q ShortSheet a b = refl
number_of q (Unfinished p) a b = is_false {b = eqb p q} (λ t. a (ap pos (eqb→eq p q t)))
number_of q (Finished p) a b = is_false {b = eqb p q} (λ t. b (ap (λ x. pos (8 + x)) (eqb→eq p q t)))

-- ---- one turn

module _ (cs : List Call) (b bytes : List ℕ) (h : LedLent cs b) (places : ℕ) (n : ℤ) (t : LentTurn b bytes places n) where
  abbrev r : Turned
  r = (t.contract.turned (lent_led cs b h).0).0

  turned_is : IsTurned (machine_in b) t.sheet t.sheet' r
  turned_is = (t.contract.turned (lent_led cs b h).0).1

  number_is : n ≡ one_number (outcome_number r.outcome)
  number_is = (t.contract.turned (lent_led cs b h).0).2.number_is

  has_place : HasPlace r.outcome
  has_place = subst⁻¹ HasPlace turned_is.outcome (placed (machine_in b) (length t.sheet))

  pub turn_told : is_told (turns places n) ≡ is_turn (run (events_of cs)) (turned places)
  turn_told =
      ap (λ (x : ℤ). le_z (pos 0) x && le_z x (pos 15)) number_is ∙ number_told r.outcome has_place
      ∙ answered_accepted (events_of cs) (machine_in b) (lent_led cs b h).1 t.sheet t.sheet' r turned_is
      ∙ ap (λ k. is_turn (run (events_of cs)) (turned k)) t.size

  pub turn_not_of : (q : ℕ) → n ≢ pos q → n ≢ pos (8 + q) → is_turn_of q (run (events_of cs)) (turned places) ≡ false
  turn_not_of q x y =
      sym (answered_of (events_of cs) (machine_in b) (lent_led cs b h).1 t.sheet t.sheet' r turned_is q
      ∙ ap (λ k. is_turn_of q (run (events_of cs)) (turned k)) t.size)
      ∙ number_of q r.outcome (λ e. x (number_is ∙ e)) (λ e. y (number_is ∙ e))

-- ---- further calls

module _ (cs : List Call) where
  abbrev l : Line
  l = run (events_of cs)

  goes_on : (more : List Call) → run (events_of (more ++ cs)) ≡ run_from l (events_of more)
  unfolding run_from
  goes_on [] = refl
  goes_on (c ∷ more) = ap (λ (y : Line). step y (event_of c)) (goes_on more)

  pub turns_counted : (more : List Call) (bytes : List ℕ) → LedLent (more ++ cs) bytes → turns_told more ≡ turns_in l (events_of more)
  unfolding LedLent turns_told turns_in is_turn
  turns_counted [] bytes h = refl
  turns_counted (enters plan budget n ∷ more) bytes h = ap (λ k. 0 + k) (turns_counted more h.0 h.1)
  turns_counted (turns places n ∷ more) bytes h =
      let e = turn_told (more ++ cs) h.0 bytes h.1 places n h.2 ∙ ap (λ (y : Line). is_turn y (turned places)) (goes_on more) in
      let i = turns_counted more h.0 h.1 in
      λ j. cond (e j) 1 0 + i j

  pub never_of : (q : ℕ) (more : List Call) (bytes : List ℕ) → LedLent (more ++ cs) bytes → NeverTold q more → NoTurnOf q l (events_of more)
  unfolding LedLent NeverTold NoTurnOf is_turn
  never_of q [] bytes h v = tt
  never_of q (enters plan budget n ∷ more) bytes h v = (tt, never_of q more h.0 h.1 v)
  never_of q (turns places n ∷ more) bytes h v =
      let e = ap (λ (y : Line). is_turn_of q y (turned places)) (sym (goes_on more))
      ∙ turn_not_of (more ++ cs) h.0 bytes h.1 places n h.2 q v.0 v.1 in
      (subst⁻¹ (λ (x : Bool). T (not x)) e tt, never_of q more h.0 h.1 v.2)
