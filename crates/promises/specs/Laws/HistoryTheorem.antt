-- THE THEOREM OF THE HISTORY, for callers in other languages: the state that they lend holds, after every list of calls from an
-- opening on, the open plan that the history of the accepted ones gives. It is that of `open_plan`, since a state that was
-- stored is lent again as it was (`Laws.Lent`).
use Rattle.std.specs.Prelude.{◌≡◌, refl, ℕ, ◌≤◌, ◌<◌, ℤ, pos, length, get_or, drop}
use Rattle.std.proofs.Common.{sym, ap, ap₂, ◌∙◌}
use Rattle.std.proofs.Math.Path.{subst}
use mathlib.Core.List.{List, ◌∷◌, ◌++◌, map}
use Rattle.std.proofs.Math.Option.{Option, none, some, some-ne-none}
use Rattle.postman.specs.Refusal.{answer, unless}
use Rattle.postman.specs.PlanFile.{edition, plan_of}
use Rattle.postman.specs.OpenPlan.{Open, Call, opened, taken, outcome, history, refusals, refusal_in, unless_refused, after_call}
use Rattle.refusal.specs.Verdict.{or_else}
use Rattle.open_plan.specs.declared.OpenPlan.{OpenPlan}
use Rattle.held_file.specs.Held.{held_of}
use Rattle.open_plan.specs.State.{fresh_state, refusal_of, next}
use Rattle.open_plan.specs.Run.{Fits, StandsFor}
use Rattle.open_plan.specs.Laws.Theorem.{history_more}
use Rattle.open_plan.specs.Laws.History.{Stands, stands_for, refused_alike, after_stands, opening_stands}
use Rattle.answers.specs.Number.{one_number}
use Rattle.open_plan_exports.specs.Editing.{move_refusal, IsExportedOpen, IsExportedMove}
use Rattle.open_plan_bytes.specs.StateBytes.{open_bytes, open_in, state_bytes}
use Rattle.open_plan_exports.specs.Laws.Editing.{has_room}
use Rattle.promises.specs.ExportedRuns.{RanLent, ended, called}
use Rattle.promises.specs.Laws.Opening.{zero_opened}
use Rattle.promises.specs.Laws.Lent.{stands_sized, state_long, state_back}

-- What a call answers by its refusal: 0, or minus the number.
abbrev pub number_of : Option ℕ → ℤ
number_of o = one_number (answer o 0)

module _ (e : ℕ) where
  -- bytes that hold a state which stands for an open plan
  pub record Holds (o : Open) (bytes : List ℕ) : Type 0 where
    pub room : open_bytes ≤ length bytes
    pub stands : Stands e o (open_in bytes)

  stored : (o : Open) (s : OpenPlan) (rest : List ℕ) → Stands e o s → Holds o (state_bytes s ++ rest)
  stored o s rest h =
      let z = stands_sized e o s h in
      record { room = state_long s z rest; stands = subst (Stands e o) (sym (state_back s z rest)) h }

  left : (o : Open) (bytes : List ℕ) → Holds o bytes → (c : Call) → Fits c → (q : Option ℕ) → refusal_in e o c ≡ q
      → Holds (unless_refused q (taken o c) o) (unless q (state_bytes (next (open_in bytes) c) ++ drop open_bytes bytes) bytes)
  unfolding unless
  left o bytes h c fits none r =
      stored (taken o c) (next (open_in bytes) c) (drop open_bytes bytes) (after_stands e o (open_in bytes) h.stands c fits none r)
  left o bytes h c fits (some k) r = h

  pub lent_step : (o : Open) (bytes bytes' : List ℕ) (c : Call) (n : ℤ) → Holds o bytes → Fits c → IsExportedMove c bytes bytes' n
      → (n ≡ number_of (refusal_in e o c)) × Holds (after_call e o c) bytes'
  lent_step o bytes bytes' c n h fits m =
      let q : move_refusal c bytes ≡ refusal_in e o c =
      has_room bytes (refusal_of (open_in bytes) c) h.room ∙ refused_alike e o (open_in bytes) h.stands c in
      let new = state_bytes (next (open_in bytes) c) ++ drop open_bytes bytes in (
        m.number_is
            ∙ ap number_of q,
        subst (Holds (after_call e o c)) (sym (m.state_is ∙ ap (λ (r : Option ℕ). unless r new bytes) q))
            (left o bytes h c fits (refusal_in e o c) refl),
      )

  pub run_holds : {bytes last : List ℕ} {cs : List Call} {numbers : List ℤ} → RanLent bytes cs last numbers → (o : Open) → Holds o bytes
      → (numbers ≡ map number_of (refusals e o cs)) × Holds (outcome o (history e o cs)) last
  unfolding refusals outcome history
  run_holds (ended bytes) o h = (refl, h)
  run_holds (called bytes last c cs numbers bytes' n fits m rest) o h =
      let one = lent_step o bytes bytes' c n h fits m in
      let more = run_holds rest (after_call e o c) one.1 in
      (ap₂ (λ (x : ℤ) (l : List ℤ). x ∷ l) one.0 more.0, subst (λ (x : Open). Holds x last) (sym (history_more e o c cs)) more.1)

-- An opening that answers 0.
pub opening_holds : (file bytes bytes' : List ℕ) (n : ℤ) → ((k : ℕ) → get_or file k 0 < 256) → IsExportedOpen file bytes bytes' n
    → n ≡ pos 0
    → Holds (edition file) (opened (plan_of file)) bytes'
unfolding unless
opening_holds file bytes bytes' n small m zero =
    let good = zero_opened file bytes bytes' n m zero in
    let e = edition file in
    let o = opened (plan_of file) in
    let s = fresh_state (held_of file) in
    subst (Holds e o) (sym (m.state_is ∙ ap (λ (r : Option ℕ). unless r (state_bytes s ++ drop open_bytes bytes) bytes) good))
    (stored e o s (drop open_bytes bytes) (opening_stands file small (file_read _ _ good)))
  where
    file_read : (a b : Option ℕ) → or_else a b ≡ none → a ≡ none
    file_read none b q = refl
    file_read (some k) b q = absurd (some-ne-none k q)

-- From an opening on that answers 0: what each call answers, and what the lent bytes hold in the end.
pub lent_history : (file bytes bytes' : List ℕ) (n : ℤ) → ((k : ℕ) → get_or file k 0 < 256) → IsExportedOpen file bytes bytes' n → n ≡ pos 0
    → (cs : List Call) (last : List ℕ) (numbers : List ℤ) → RanLent bytes' cs last numbers
    → (numbers ≡ map number_of (refusals (edition file) (opened (plan_of file)) cs))
    × StandsFor (edition file) (outcome (opened (plan_of file)) (history (edition file) (opened (plan_of file)) cs)) (open_in last)
lent_history file bytes bytes' n small m zero cs last numbers run =
    let x = run_holds (edition file) run (opened (plan_of file)) (opening_holds file bytes bytes' n small m zero) in
    (x.0, stands_for (edition file) _ (open_in last) x.1.stands)
