-- "ASKING AFTER A RETURN GIVES WHAT ASKING AT THE MARK GAVE, with equal budget, windows, departure and sheet length", for callers in other
-- languages: over the bytes, numbers and slices of their calls. Both states hold the file of one plan, since the history says that a mark
-- keeps its plan until it is set again; and two calls on one file leave one answer.
use Rattle.std.specs.Prelude.{◌≡◌, refl, ◌≢◌, Bool, true, false, cond, ℕ, ◌<◌, eqb, ltb, ℤ, pos, length, get_or}
use Rattle.std.proofs.Common.{sym, ◌∙◌, subst, arith, ltb-true, eqb-true}
use Rattle.std.proofs.Math.Path.{ap}
use mathlib.Core.List.{List, [], ◌∷◌, Memᴰ}
use Rattle.std.proofs.Math.Option.{Option, none, some}
use Rattle.std.proofs.lemmas.Bool.{eqb-false}
use Rattle.postman.specs.Plan.{Plan}
use Rattle.postman.specs.Refusal.{answer}
use Rattle.postman.specs.PlanFile.{edition, plan_of, file_of}
use Rattle.postman.specs.OpenPlan.{Open, Call, change, mark, return, opened, taken, outcome, history, refusal_in, unless_refused, unless_held, held_or, after_call}
use Rattle.postman.specs.Windows.{Departure}
use Rattle.held_file.specs.Held.{file_in}
use Rattle.open_plan.specs.Laws.Theorem.{history_more}
use Rattle.open_plan.specs.Laws.History.{stands_for}
use Rattle.open_plan_bytes.specs.StateBytes.{open_in}
use Rattle.open_plan_exports.specs.Editing.{IsExportedOpen, IsExportedMove}
use Rattle.promises.specs.ExportedRuns.{RanLent}
use Rattle.promises.specs.Laws.HistoryTheorem.{number_of, Holds, lent_step, run_holds, opening_holds}
use Rattle.promises.specs.Slices.{Slices, IsCalledAt, IsAsked, LeaveOneAnswer}
use Rattle.promises.specs.Laws.OneAnswer.{one_answer_at}

-- ---- a mark keeps its plan until it is set again

call_keeps : (o : Open) (k : ℕ) (c : Call) → c ≢ mark k → (q : Option ℕ) → (unless_refused q (taken o c) o).marks k ≡ o.marks k
call_keeps o k c other (some n) = refl
call_keeps o k (change c) other none = refl
call_keeps o k (return j) other none = refl
call_keeps o k (mark j) other none = at (eqb k j) refl
  where
    at : (b : Bool) → eqb k j ≡ b → cond b (some o.plan) (o.marks k) ≡ o.marks k
    at true e = absurd (other (ap mark (sym (eqb-true k j e))))
    at false e = refl

mark_keeps : (e k : ℕ) (cs : List Call) (o : Open) → (Memᴰ (mark k) cs → ⊥) → (outcome o (history e o cs)).marks k ≡ o.marks k
unfolding outcome history
mark_keeps e k [] o none_of = refl
mark_keeps e k (c ∷ cs) o none_of =
    ap (λ (x : Open). x.marks k) (history_more e o c cs)
    ∙ mark_keeps e k cs (after_call e o c) (λ i. none_of (Memᴰ.tail i))
    ∙ call_keeps o k c (λ i. none_of (Memᴰ.head (sym i))) (refusal_in e o c)

-- a mark that is set, and one that is returned to
module _ (o : Open) (k : ℕ) where
  abbrev tested : Bool → Option ℕ → Option ℕ
  tested b q = cond b (some 21) q

  set_mark : (e : ℕ) → k < 4
      → (refusal_in e o (mark k) ≡ none) × ((after_call e o (mark k)).plan ≡ o.plan) × ((after_call e o (mark k)).marks k ≡ some o.plan)
  set_mark e l = at (ltb 3 k) refl
    where
      here : (b : Bool) → eqb k k ≡ b → cond b (some o.plan) (o.marks k) ≡ some o.plan
      here true i = refl
      here false i = absurd (eqb-false k k i refl)

      at : (b : Bool) → ltb 3 k ≡ b
          → (tested b none ≡ none) × ((unless_refused (tested b none) (taken o (mark k)) o).plan ≡ o.plan)
          × ((unless_refused (tested b none) (taken o (mark k)) o).marks k ≡ some o.plan)
      at true i = let x = ltb-true 3 k i in absurd (omega arith)
      at false i = (refl, refl, here (eqb k k) refl)

  returned : (e : ℕ) (p : Plan) → k < 4 → o.marks k ≡ some p → (refusal_in e o (return k) ≡ none) × ((after_call e o (return k)).plan ≡ p)
  returned e p l m = at (ltb 3 k) refl
    where
      at : (b : Bool) → ltb 3 k ≡ b
          → (tested b (unless_held (o.marks k)) ≡ none)
          × ((unless_refused (tested b (unless_held (o.marks k))) (taken o (return k)) o).plan ≡ p)
      at true i = let x = ltb-true 3 k i in absurd (omega arith)
      at false i = (
        ap unless_held m,
        ap (λ (q : Option Plan). (unless_refused (unless_held q) (taken o (return k)) o).plan) m ∙ ap (held_or o.plan) m,
      )

-- ---- the theorem

-- From an opening on that answers 0: calls, mark k, more calls of which none sets mark k, and a return to it. Bytes are numbers below 256.
module _ (file bytes bytes₀ : List ℕ) (n₀ : ℤ) (small : (k : ℕ) → get_or file k 0 < 256)
    (begun : IsExportedOpen file bytes bytes₀ n₀) (good : n₀ ≡ pos 0)
    (earlier : List Call) (bytes₁ : List ℕ) (first : List ℤ) (come : RanLent bytes₀ earlier bytes₁ first)
    (k : ℕ) (k_is : k < 4) (at_mark : List ℕ) (n₁ : ℤ) (set_at : IsExportedMove (mark k) bytes₁ at_mark n₁)
    (between : List Call) (bytes₂ : List ℕ) (then : List ℤ) (gone : RanLent at_mark between bytes₂ then)
    (not_again : Memᴰ (mark k) between → ⊥)
    (after : List ℕ) (n₂ : ℤ) (back : IsExportedMove (return k) bytes₂ after n₂) where
  abbrev e : ℕ
  e = edition file

  abbrev o₁ : Open
  o₁ = outcome (opened (plan_of file)) (history e (opened (plan_of file)) earlier)

  abbrev o₂ : Open
  o₂ = after_call e o₁ (mark k)

  abbrev o₃ : Open
  o₃ = outcome o₂ (history e o₂ between)

  marked : (n₁ ≡ number_of (refusal_in e o₁ (mark k))) × Holds e o₂ at_mark
  marked = lent_step e o₁ bytes₁ at_mark (mark k) n₁
      (run_holds e come (opened (plan_of file)) (opening_holds file bytes bytes₀ n₀ small begun good)).1 tt set_at

  gone_back : (n₂ ≡ number_of (refusal_in e o₃ (return k))) × Holds e (after_call e o₃ (return k)) after
  gone_back = lent_step e o₃ bytes₂ after (return k) n₂ (run_holds e gone o₂ marked.1).1 tt back

  brought : (refusal_in e o₃ (return k) ≡ none) × ((after_call e o₃ (return k)).plan ≡ o₁.plan)
  brought = returned o₃ k e o₁.plan k_is (mark_keeps e k between o₂ not_again ∙ (set_mark o₁ k e k_is).2)

  -- Neither the mark nor the return is refused.
  pub both_accepted : (n₁ ≡ pos 0) × (n₂ ≡ pos 0)
  unfolding answer
  both_accepted = (marked.0 ∙ ap number_of (set_mark o₁ k e k_is).0, gone_back.0 ∙ ap number_of brought.0)

  -- The state holds the file that it held at the mark.
  pub same_file : file_in (open_in at_mark).plan ≡ file_in (open_in after).plan
  same_file =
      (stands_for e o₂ (open_in at_mark) marked.1.stands).plan_is.file
      ∙ ap (file_of e) ((set_mark o₁ k e k_is).1 ∙ sym brought.1)
      ∙ sym (stands_for e (after_call e o₃ (return k)) (open_in after) gone_back.1.stands).plan_is.file

  pub asked_again_lent : (budget : ℕ) (windows : List ℕ) (d : Departure) (old new old' new' : Slices) (n n' : ℤ)
      → length old.sheet ≡ length old'.sheet
      → IsAsked at_mark budget windows d old new n
      → IsAsked after budget windows d old' new' n'
      → LeaveOneAnswer old new n old' new' n'
  asked_again_lent budget windows d old new old' new' n n' s x y =
      one_answer_at (file_in (open_in at_mark).plan) budget windows d old new old' new' n n' s (x.asked marked.1.room)
      (subst (λ (f : List ℕ). IsCalledAt f budget windows d old' new' n') (sym same_file) (y.asked gone_back.1.room))
