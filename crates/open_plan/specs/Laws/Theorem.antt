-- THE THEOREM OF THE HISTORY, over the contracts of the calls. Opening gives a state that stands for the plan opened, with no mark set;
-- each call keeps what the state stands for (`Laws.History`); so after every list of calls the state stands for what the history of the
-- accepted ones gives, and each call was refused as that history says.
use Rattle.std.specs.Prelude.{◌≡◌, refl, ◌≢◌, ℕ, ◌<◌, length, get_or, take, Result}
use Rattle.std.proofs.Common.{sym, ap, ap₂, ◌∙◌, subst, arith, get_or-set_same, get_or-set_other}
use mathlib.Core.List.{List, ◌∷◌, Memᴰ}
use Rattle.std.proofs.Math.Option.{Option, none, some}
use Rattle.postman.specs.Refusal.{first_refusal, unless}
use Rattle.postman.specs.PlanFile.{edition, plan_of, file_of, file_conditions}
use Rattle.postman.specs.OpenPlan.{Open, Call, change, mark, return, taken, opened, outcome, history, refusals, refusal_in, unless_refused, after_call}
use Rattle.postman.specs.Windows.{Departure}
use Rattle.refusal.specs.Verdict.{verdict_number}
use Rattle.refusal.specs.declared.Refusal.{Refusal}
use Rattle.solution.specs.Planned.{places_of}
use Rattle.solution.specs.declared.Planned.{Planned}
use Rattle.solution.specs.SameAnswer.{SameAnswer}
use Rattle.windows.specs.Contract.{IsPlanCallAt}
use Rattle.held_file.specs.declared.Held.{Held}
use Rattle.open_plan.specs.declared.OpenPlan.{OpenPlan}
use Rattle.open_plan.specs.declared.Moved.{Moved}
use Rattle.held_file.specs.Held.{file_in, held_of}
use Rattle.open_plan.specs.State.{fresh_state, mark_in, refusal_of, next}
use Rattle.open_plan.specs.Contract.{IsOpened, IsMoved}
use Rattle.open_plan.specs.Run.{Ran, ended, called, StandsFor}
use Rattle.open_plan.specs.Laws.Call.{return_set}
use Rattle.open_plan.specs.Laws.Asked.{same_asked}
use Rattle.open_plan.specs.Laws.History.{keeps_some, below_four, Stands, stands_for, step, opening_stands}

-- ---- the history

-- One call more at the front.
pub history_more : (e : ℕ) (o : Open) (c : Call) (cs : List Call)
    → outcome o (history e o (c ∷ cs)) ≡ outcome (after_call e o c) (history e (after_call e o c) cs)
unfolding outcome history
history_more e o c cs = at (refusal_in e o c)
  where
    at : (r : Option ℕ)
        → outcome o (unless_refused r (c ∷ history e (unless_refused r (taken o c) o) cs) (history e (unless_refused r (taken o c) o) cs))
        ≡ outcome (unless_refused r (taken o c) o) (history e (unless_refused r (taken o c) o) cs)
    at none = refl
    at (some k) = refl

run_stands : (e : ℕ) {s t : OpenPlan} {cs : List Call} {numbers : List (Option ℕ)} → Ran s cs t numbers → (o : Open) → Stands e o s
    → (numbers ≡ refusals e o cs) × Stands e (outcome o (history e o cs)) t
unfolding refusals outcome history
run_stands e (ended s) o h = (refl, h)
run_stands e (called s t c cs numbers r fits m rest) o h =
    let one = step e o s h c r fits m in
    let more = run_stands e rest (after_call e o c) one.1 in (
      ap₂ (λ (x : Option ℕ) (l : List (Option ℕ)). x ∷ l) one.0 more.0,
      subst (λ (x : Open). Stands e x t) (sym (history_more e o c cs)) more.1,
    )

-- ---- returns

-- A call other than setting mark k leaves what mark k holds.
mark_stays : (s : OpenPlan) (k : ℕ) (c : Call) → c ≢ mark k → (q : Option ℕ) → mark_in (unless_refused q (next s c) s) k ≡ mark_in s k
mark_stays s k c other (some n) = refl
mark_stays s k (change c) other none = refl
mark_stays s k (mark j) other none = get_or-set_other s.marks j k s.plan _ (λ e. other (ap mark (sym e)))
mark_stays s k (return j) other none = refl

marks_stay : (k : ℕ) {s t : OpenPlan} {cs : List Call} {numbers : List (Option ℕ)} → Ran s cs t numbers → (Memᴰ (mark k) cs → ⊥)
    → mark_in t k ≡ mark_in s k
marks_stay k (ended s) none_of = refl
marks_stay k (called s t c cs numbers r fits m rest) none_of =
    marks_stay k rest (λ i. none_of (Memᴰ.tail i))
    ∙ ap (λ (x : OpenPlan). mark_in x k) m.state
    ∙ mark_stays s k c (λ e. none_of (Memᴰ.head (sym e))) (refusal_of s c)

-- ---- from an opening on

-- Bytes are numbers below 256.
module _ (bytes : List ℕ) (small : (k : ℕ) → get_or bytes k 0 < 256) (r : Moved) (begun : IsOpened bytes r)
    (good : verdict_number r.verdict ≡ none) where
  read : first_refusal (file_conditions bytes) ≡ none
  read = sym begun.verdict ∙ good

  opened_state : r.state ≡ fresh_state (held_of bytes)
  unfolding unless
  opened_state = rw read at begun.state

  begun_stands : Stands (edition bytes) (opened (plan_of bytes)) r.state
  begun_stands = subst (Stands (edition bytes) (opened (plan_of bytes))) (sym opened_state) (opening_stands bytes small read)

  -- AFTER EVERY LIST OF CALLS from an opening on, "the open plan equals what the history of accepted changes, marks and returns
  -- gives", its edition and its marks too, and each call's refusal is the one that the history says. The file that is held is the one
  -- written from the open plan, and it reads back.
  pub history_gives : (cs : List Call) (t : OpenPlan) (numbers : List (Option ℕ)) → Ran r.state cs t numbers
      → (numbers ≡ refusals (edition bytes) (opened (plan_of bytes)) cs)
      × StandsFor (edition bytes) (outcome (opened (plan_of bytes)) (history (edition bytes) (opened (plan_of bytes)) cs)) t
  history_gives cs t numbers run =
      let x = run_stands (edition bytes) run (opened (plan_of bytes)) begun_stands in
      (x.0, stands_for (edition bytes) _ t x.1)

  -- "Asking gives what the plan call gives for the file written from it."
  pub asking : (cs : List Call) (t : OpenPlan) (numbers : List (Option ℕ)) → Ran r.state cs t numbers
      → (budget : ℕ) (windows : List ℕ) (d : Departure) (old new : List ℕ) (a : Result Planned Refusal)
      → IsPlanCallAt (file_in t.plan) budget windows d old new a
      → IsPlanCallAt
      (file_of (edition bytes)
      (outcome (opened (plan_of bytes)) (history (edition bytes) (opened (plan_of bytes)) cs)).plan) budget windows d old new a
  asking cs t numbers run budget windows d old new a h =
      subst (λ (l : List ℕ). IsPlanCallAt l budget windows d old new a) (history_gives cs t numbers run).1.plan_is.file h

  -- RETURNING to a mark that was set at some moment brings back the file of that moment, whatever was called before it and in between, but
  -- for setting that mark again; and it is never refused.
  module _ (earlier : List Call) (s : OpenPlan) (first : List (Option ℕ)) (come : Ran r.state earlier s first)
      (k : ℕ) (r₁ : Moved) (set_at : IsMoved s (mark k) r₁) (accepted : verdict_number r₁.verdict ≡ none)
      (between : List Call) (t : OpenPlan) (then : List (Option ℕ)) (gone : Ran r₁.state between t then)
      (not_again : Memᴰ (mark k) between → ⊥)
      (r₂ : Moved) (back : IsMoved t (return k) r₂) where
    stood : Stands (edition bytes) (outcome (opened (plan_of bytes)) (history (edition bytes) (opened (plan_of bytes)) earlier)) s
    stood = (run_stands (edition bytes) come (opened (plan_of bytes)) begun_stands).1

    was_set : refusal_of s (mark k) ≡ none
    was_set = sym set_at.verdict ∙ accepted

    good_number : k < 4
    good_number = (below_four k none was_set).0

    marked_state : r₁.state ≡ next s (mark k)
    marked_state = set_at.state ∙ ap (λ (q : Option ℕ). unless_refused q (next s (mark k)) s) was_set

    holds : mark_in t k ≡ s.plan
    holds =
        let l = good_number in
        let f = stood.four in
        marks_stay k gone not_again ∙ ap (λ (x : OpenPlan). mark_in x k) marked_state ∙ get_or-set_same s.marks k s.plan _ (omega arith)

    pub never_refused : verdict_number r₂.verdict ≡ none
    never_refused =
        let some_file : (mark_in t k).length ≢ 0 =
        subst (λ (h : Held). h.length ≢ 0) (sym holds) (keeps_some _ _ s.plan stood.plan_is) in
        let l = good_number in back.verdict ∙ return_set t k (omega arith) some_file

    pub same_plan_lem : r₂.state.plan ≡ r₁.state.plan
    same_plan_lem =
        let q : refusal_of t (return k) ≡ none = sym back.verdict ∙ never_refused in
        ap (λ (x : OpenPlan). x.plan) (back.state ∙ ap (λ (o : Option ℕ). unless_refused o (next t (return k)) t) q)
        ∙ holds
        ∙ sym (ap (λ (x : OpenPlan). x.plan) marked_state)

    -- "ASKING AFTER A RETURN GIVES WHAT ASKING AT THE MARK GAVE, with equal budget, windows, departure and sheet length": every field, and
    -- the places written; and every place where the sheet was the same before.
    pub asked_again : (budget : ℕ) (windows : List ℕ) (d : Departure) (old new old' new' : List ℕ) (a b : Result Planned Refusal)
        → length old ≡ length old'
        → IsPlanCallAt (file_in r₁.state.plan) budget windows d old new a
        → IsPlanCallAt (file_in r₂.state.plan) budget windows d old' new' b
        → SameAnswer a b × (take (places_of a) new ≡ take (places_of b) new') × (old ≡ old' → new ≡ new')
    asked_again budget windows d old new old' new' a b e at_mark later =
        let same : IsPlanCallAt (file_in r₁.state.plan) budget windows d old' new' b =
        subst (λ (h : Held). IsPlanCallAt (file_in h) budget windows d old' new' b) same_plan_lem later in
        same_asked (file_in r₁.state.plan) budget windows d old new old' new' a b e at_mark same
