-- Machines that are lent, from the start on. A machine that was stored is lent again as it was, and where none is stored nothing has moved:
-- so the machine after any run of calls is one that the run's entries and turns lead to (`districts` `Led`).
use Rattle.std.specs.Prelude.{◌≡◌, Result, Ok, Err, refl, Bool, true, false, cond, List, [], ◌∷◌, ◌++◌, ℕ, ◌≤◌, T, ℤ, pos, length, drop, replicate}
use Rattle.std.proofs.Common.{sym, ap, ◌∙◌, subst, arith, length-append}
use Rattle.std.proofs.Math.Path.{subst⁻¹}
use Rattle.std.proofs.Math.Option.{Option, none, some}
use Rattle.std.proofs.lemmas.List.{length-replicate}
use Rattle.postman.specs.Refusal.{answer, unless}
use Rattle.district_machine.specs.declared.machine.Machine.{Machine}
use Rattle.refusal.specs.declared.Refusal.{Refusal}
use Rattle.district_entry.specs.declared.enter.Entered.{Entered}
use Rattle.districts.specs.declared.turn.Turned.{Turned}
use Rattle.district_machine.specs.Machine.{empty_machine}
use Rattle.district_entry.specs.Admitted.{admitted, admission_number}
use Rattle.districts.specs.Number.{had_turn}
use Rattle.district_entry.specs.Entered.{IsEntered}
use Rattle.districts.specs.Turned.{Meeting, nobody, short_sheet, stuck, goes_on, leaves, meeting, after_turn, outcome_of, IsTurned}
use Rattle.districts.specs.Led.{LedFrom, Led}
use Rattle.district_entry.specs.Laws.Entered.{entry_stays}
use Rattle.answers.specs.Number.{one_number}
use Rattle.machine_bytes.specs.MachineBytes.{districts_bytes, machine_in, machine_bytes, IsSized}
use Rattle.district_exports.specs.Turns.{IsStarted, Call, enters, turns, events_of, LedLent}
use Rattle.machine_bytes.specs.MachineStored.{IsEntryStored, IsTurnHandedOver}
use Rattle.machine_bytes.specs.Laws.MachineBytes.{machine_long, machine_back}
use Rattle.machine_bytes.specs.Laws.EmptyMachine.{zeros_empty}

-- ---- the start

started_empty : (old bytes : List ℕ) (n : ℤ) → IsStarted old bytes n → districts_bytes ≤ length old
    → (districts_bytes ≤ length bytes) × (machine_in bytes ≡ empty_machine)
started_empty old bytes n h l =
    let e = (h.started l).1 in
    let rest = drop districts_bytes old in
    let a = ap length e ∙ length-append (replicate districts_bytes 0) rest in
    let b = length-replicate {A = ℕ} districts_bytes 0 in
    (omega arith, ap machine_in e ∙ zeros_empty rest)

-- ---- a machine that was stored

stored_led : (m : Machine) → IsSized m → (rest bytes : List ℕ) → bytes ≡ machine_bytes m ++ rest
    → (districts_bytes ≤ length bytes) × (m ≡ machine_in bytes)
stored_led m z rest bytes q =
    (subst⁻¹ (λ (x : List ℕ). districts_bytes ≤ length x) q (machine_long m z rest), sym (ap machine_in q ∙ machine_back m z rest))

-- ---- an entry

entry_led : (r : Entered) (b bytes : List ℕ) (n : ℤ) (plan : List ℕ) (budget : ℕ) → districts_bytes ≤ length b
    → IsEntered (machine_in b) plan budget r → IsEntryStored r b bytes n
    → (districts_bytes ≤ length bytes) × (r.machine ≡ machine_in bytes)
unfolding unless
entry_led r b bytes n plan budget l h s = at (admission_number r.answer) refl s.machine_is
  where
    at : (o : Option ℕ) → admission_number r.answer ≡ o → bytes ≡ unless o (machine_bytes r.machine ++ drop districts_bytes b) b
        → (districts_bytes ≤ length bytes) × (r.machine ≡ machine_in bytes)
    at none e q = stored_led r.machine (s.sized e) (drop districts_bytes b) bytes q
    at (some k) e q = (
      subst⁻¹ (λ (x : List ℕ). districts_bytes ≤ length x) q l,
      h.machine
          ∙ entry_stays (machine_in b) plan budget k (sym h.refusal ∙ e) ∙ ap machine_in (sym q),
    )

-- what it answers
pub admitted_is : (a : Result ℕ Refusal) (o : Option ℕ) (q : ℕ) → admission_number a ≡ o → ((p : ℕ) → a ≡ Ok p → p ≡ q)
    → one_number (admitted a) ≡ one_number (answer o q)
unfolding answer
admitted_is (Ok p) o q e f = ap pos (f p refl) ∙ ap (λ (o : Option ℕ). one_number (answer o q)) e
admitted_is (Err r) o q e f = ap (λ (o : Option ℕ). one_number (answer o q)) e

-- ---- a turn

still_machine : (m : Machine) (k : Meeting) → had_turn (outcome_of k) ≡ false → after_turn m k ≡ m
still_machine m nobody e = refl
still_machine m short_sheet e = refl
still_machine m stuck e = refl
still_machine m (goes_on d ds) e = absurd (subst T e tt)
still_machine m (leaves d ds) e = absurd (subst T e tt)

turn_led : (r : Turned) (b bytes old new words words' : List ℕ) (u u' : List ℤ) (n : ℤ) → districts_bytes ≤ length b
    → IsTurned (machine_in b) old new r
    → IsTurnHandedOver r b bytes words words' u u' n → (districts_bytes ≤ length bytes) × (r.machine ≡ machine_in bytes)
turn_led r b bytes old new words words' u u' n l h s = at (had_turn r.outcome) refl s.machine_is
  where
    at : (x : Bool) → had_turn r.outcome ≡ x → bytes ≡ cond x (machine_bytes r.machine ++ drop districts_bytes b) b
        → (districts_bytes ≤ length bytes) × (r.machine ≡ machine_in bytes)
    at true e q = stored_led r.machine (s.sized e) (drop districts_bytes b) bytes q
    at false e q = (
      subst⁻¹ (λ (x : List ℕ). districts_bytes ≤ length x) q l,
      h.machine
          ∙ still_machine (machine_in b) (meeting (machine_in b) (length old)) (sym (ap had_turn h.outcome) ∙ e) ∙ ap machine_in (sym q),
    )

-- THE MACHINE THAT IS LENT IS ONE THAT THE RUN LEADS TO
pub lent_led : (cs : List Call) (bytes : List ℕ) → LedLent cs bytes
    → (districts_bytes ≤ length bytes) × Led (events_of cs) (machine_in bytes)
unfolding LedLent LedFrom
lent_led [] bytes h = started_empty h.0 bytes h.1 h.2 h.3
lent_led (enters plan budget n ∷ cs) bytes h =
    let i = lent_led cs h.0 h.1 in
    let x = h.2.entered i.0 in
    let y = entry_led x.0 h.0 bytes n plan budget i.0 x.1 x.2 in
    (y.0, (machine_in h.0, x.0, i.1, x.1, y.1))
lent_led (turns places n ∷ cs) bytes h =
    let t = h.2 in
    let i = lent_led cs h.0 h.1 in
    let x = t.contract.turned i.0 in
    let y = turn_led x.0 h.0 bytes t.sheet t.sheet' t.words t.words' t.u t.u' n i.0 x.1 x.2 in
    (y.0, (machine_in h.0, x.0, t.sheet, t.sheet', i.1, x.1, t.size, y.1))
