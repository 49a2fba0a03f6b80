-- The chain of refusals, and the whole call: as the plan call's, with 23 between 9 and 10.
use Rattle.std.specs.Prelude.{◌≡◌, true, false, List, [], ◌∷◌, ◌++◌, ℕ, ◌≤◌, ◌<◌, length, ltb, Result}
use Rattle.std.proofs.Math.Path.{refl, sym, ap}
use Rattle.std.proofs.Common.{◌∙◌, subst}
use Rattle.std.proofs.Math.Option.{Option, none, some, some-ne-none}
use native.Mathlib.Omega.{arith}
use borrow.Author.Tests.{lt-ltb, le-ltb}
use Rattle.postman.specs.Plan.{Plan, WellFormed}
use Rattle.postman.specs.Refusal.{Conditions, first_refusal, answer, unless}
use Rattle.postman.specs.PlanFile.{file_conditions, is_outside, plan_of}
use Rattle.postman.specs.PlanCall.{call_conditions, last_conditions, call_refusal, earlier_conditions, is_cut_off, fields}
use Rattle.postman_laws.specs.Laws.Theorem.{last_cut_off}
use Rattle.postman_laws.specs.Laws.Acceptance.{inside, before_accepted, file_accepted}
use Rattle.postman_laws.specs.Laws.Refusal.{Other, accepted_cons, first_on, first_stop, before_order, before_other, own_passed}
use Rattle.postman.specs.Laws.Tests.{of_not}
use Rattle.plan.specs.Records.{plan_value}
use Rattle.refusal.specs.declared.Refusal.{Refusal}
use Rattle.refusal.specs.Verdict.{refusal_number}
use Rattle.plan_file.specs.declared.Reading.{Reading}
use Rattle.plan_file.specs.Reading.{IsReading, plan_in}
use Rattle.plan_file.specs.Laws.Reading.{accepted_value}
use Rattle.solution.specs.declared.Planned.{Planned}
use Rattle.solution.specs.Planned.{count_unless}
use Rattle.call_steps.specs.Refusals.{plan_refusal}
use Rattle.call_steps.specs.Refused.{refused_with}
use Rattle.call_steps.specs.Laws.Call.{parts_refusal}
use Rattle.call_steps.specs.Laws.Answer.{answer_as, refused_answer, read_answer, file_refused_answer}
use Rattle.deep_call.specs.Refusals.{highest_rounds, round_conditions, earlier_conditions_in, deep_refusal}
use Rattle.deep_call.specs.Contract.{multipliers_unless, IsDeep, IsDeepCall}

-- ---- one step of the chain

pub deep_as : (p q : Plan) (budget rounds : ℕ) (o o' : Option ℕ) (old new : List ℕ) (x : Result Planned Refusal) → p ≡ q → o ≡ o'
    → IsDeep p budget rounds o old new x → IsDeep q budget rounds o' old new x
deep_as p q budget rounds o o' old new x e h i =
    answer_as (λ p o new x. IsDeep p budget rounds o old new x) p q o o' new x e h i

is_refused : (p : Plan) (budget rounds : ℕ) (old : List ℕ) (r : Refusal)
    → IsDeep p budget rounds (some (refusal_number r)) old old (refused_with r)
unfolding answer fields unless count_unless multipliers_unless
is_refused p budget rounds old r = record {
  verdict = refl;
  summary_is = refl;
  multipliers_are = refl;
  sheet = refl;
  places_are = refl;
  answered = λ e. absurd (some-ne-none (refusal_number r) e);
}

pub refused_deep : (p : Plan) (budget rounds : ℕ) (o : Option ℕ) (old : List ℕ) (r : Refusal) (x : Result Planned Refusal)
    → x ≡ refused_with r → o ≡ some (refusal_number r) → IsDeep p budget rounds o old old x
refused_deep p budget rounds o old r x e h =
    refused_answer (λ p o new x. IsDeep p budget rounds o old new x) old (λ p r. is_refused p budget rounds old r) p o r x e h

pub step_refused : (p : Plan) (budget rounds : ℕ) (cs ds : Conditions) (old : List ℕ) (r : Refusal) (x : Result Planned Refusal)
    → x ≡ refused_with r → first_refusal cs ≡ some (refusal_number r)
    → IsDeep p budget rounds (first_refusal (cs ++ ds)) old old x
step_refused p budget rounds cs ds old r x e h = refused_deep p budget rounds _ old r x e (first_stop cs ds _ h)

pub step_on : (p : Plan) (budget rounds : ℕ) (cs ds : Conditions) (old new : List ℕ) (x : Result Planned Refusal) → first_refusal cs ≡ none
    → IsDeep p budget rounds (first_refusal ds) old new x
    → IsDeep p budget rounds (first_refusal (cs ++ ds)) old new x
step_on p budget rounds cs ds old new x h i = deep_as p p budget rounds _ _ old new x refl (sym (first_on cs ds h)) i

-- ---- 23

module _ (rounds : ℕ) where
  pub few_rounds : rounds < 1 → true ≡ is_outside rounds 1 highest_rounds
  unfolding is_outside
  few_rounds l = let e = lt-ltb rounds 1 l in rw e refl

  pub by_highest : 1 ≤ rounds → ltb 1000 rounds ≡ is_outside rounds 1 highest_rounds
  unfolding is_outside highest_rounds
  by_highest l = let e = le-ltb rounds 1 l in rw e refl

  pub rounds_refused : is_outside rounds 1 highest_rounds ≡ true → first_refusal (round_conditions rounds) ≡ some 23
  unfolding first_refusal round_conditions
  rounds_refused h = rw h refl

  pub rounds_good : is_outside rounds 1 highest_rounds ≡ false → first_refusal (round_conditions rounds) ≡ none
  unfolding first_refusal round_conditions
  rounds_good h = rw h refl

  pub rounds_in : is_outside rounds 1 highest_rounds ≡ false → (1 ≤ rounds) × (rounds ≤ 1000)
  unfolding highest_rounds
  rounds_in h = inside rounds 1 1000 h

  pub rounds_accepted : first_refusal (round_conditions rounds) ≡ none → rounds ≤ 1000
  unfolding round_conditions highest_rounds
  rounds_accepted e = (inside rounds 1 1000 (of_not (accepted_cons _ _ _ e).0)).1

  pub rounds_other : Other 12 (round_conditions rounds)
  unfolding round_conditions
  rounds_other = (omega arith, tt)

-- from 10 on
pub last_deep : (p : Plan) (budget rounds : ℕ) (old new : List ℕ) (x : Result Planned Refusal) → WellFormed p
    → IsDeep p budget rounds (plan_refusal p) old new x → IsDeep p budget rounds (first_refusal (last_conditions p)) old new x
last_deep p budget rounds old new x w i = deep_as p p budget rounds _ _ old new x refl (sym (parts_refusal p w)) i

-- ---- the whole call

module _ (bytes : List ℕ) (budget rounds : ℕ) (old new : List ℕ) (r : Result Planned Refusal) where
  abbrev p : Plan
  p = plan_of bytes

  abbrev own : Conditions
  own = round_conditions rounds

  abbrev Answered : Plan → Option ℕ → List ℕ → Result Planned Refusal → Type 0
  Answered p o new x = IsDeep p budget rounds o old new x

  -- the conditions after the file's
  abbrev later : Plan → Conditions
  later p = call_conditions budget (length old) ++ (own ++ last_conditions p)

  abbrev Called : Type 0
  Called = Answered p (deep_refusal bytes budget rounds (length old)) new r

  conditions : deep_refusal bytes budget rounds (length old)
      ≡ first_refusal (earlier_conditions_in bytes budget rounds (length old) ++ (is_cut_off p, 12) ∷ [])
  unfolding deep_refusal
  conditions = refl

  other : Other 12 (earlier_conditions_in bytes budget rounds (length old))
  unfolding earlier_conditions_in
  other = before_other bytes budget (length old) own p (rounds_other rounds)

  order : deep_refusal bytes budget rounds (length old)
      ≡ first_refusal (file_conditions bytes ++ later p)
  unfolding deep_refusal earlier_conditions_in
  order = ap first_refusal (before_order bytes budget (length old) own p ((is_cut_off p, 12) ∷ []))

  pub is_deep_call : Called → IsDeepCall bytes budget rounds old new r
  unfolding earlier_conditions_in
  is_deep_call i =
      let sure = before_accepted bytes budget (length old) own p in
      let c = last_cut_off (earlier_conditions_in bytes budget rounds (length old)) p other
      (λ e. (file_accepted bytes (sure e).file, (sure e).some_required)) in
      record { deep = i; cut_off = ((λ h. c.0 (sym conditions ∙ sym i.verdict ∙ h)), (λ h. i.verdict ∙ conditions ∙ c.1 h)) }

  -- a file that is refused refuses the call
  pub file_refused_deep : (x : Refusal) → r ≡ refused_with x → old ≡ new → first_refusal (file_conditions bytes) ≡ some (refusal_number x)
      → Called
  file_refused_deep x h s e =
      subst (λ (new : List ℕ). Answered p (deep_refusal bytes budget rounds (length old)) new r) s
      (file_refused_answer Answered old (λ p x. is_refused p budget rounds old x) bytes p (later p) _ x r order e h)

  -- one that is not gives its plan
  pub read_deep : (x : Result Reading Refusal) → IsReading bytes x → first_refusal (file_conditions bytes) ≡ none
      → Answered (plan_value (plan_in x)) (first_refusal (later (plan_value (plan_in x)))) new r → Called
  read_deep x h e i =
      read_answer Answered bytes (plan_value (plan_in x)) (λ p. p) later _ new r order e (accepted_value bytes x h e) i

  -- with one round nothing but the plan call's refusals is left
  pub as_call_refusal : first_refusal own ≡ none → deep_refusal bytes budget rounds (length old) ≡ call_refusal bytes budget (length old)
  unfolding deep_refusal earlier_conditions_in call_refusal earlier_conditions
  as_call_refusal e = own_passed bytes budget (length old) own p ((is_cut_off p, 12) ∷ []) e
