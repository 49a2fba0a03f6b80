-- Answers that are the same field by field are equal: a verdict is told by its number, since no two refusals have one number.
use Rattle.std.specs.Prelude.{◌≡◌, refl, cond, List, ℕ, eqb, ℤ, pos, length, get_or, take, Result, Ok, Err}
use Rattle.std.proofs.Common.{sym, ap, ◌∙◌, subst}
use Rattle.std.proofs.Math.Option.{Option, none, some, some-ne-none}
use Rattle.postman.specs.Plan.{Plan}
use Rattle.postman.specs.Refusal.{answer}
use Rattle.postman.specs.PlanCall.{summary, fields}
use Rattle.postman.specs.Windows.{Departure, call_refusal_at}
use Rattle.refusal.specs.declared.Refusal.{Refusal}
use Rattle.refusal.specs.declared.Refusal.TheVariants.{Torn, Edition, Extent, Margin, OffSheet, Unpriced, Standing, ShortSheet, Budget, Idle, Scattered, CutOff, Repeated, Foreign, Unjoined, Missed, StrayPair, BadMarks, BadWindow, MustShut, NoMark, Full, Rounds}
use Rattle.refusal.specs.Verdict.{refusal_number, verdict_number}
use Rattle.solution.specs.declared.Planned.{Planned}
use Rattle.solution.specs.Planned.{IsPlanned, summary_of, places_of, u_list}
use Rattle.solution.specs.SameAnswer.{SameAnswer}
use Rattle.call_steps.specs.Laws.Call.{planned_as}
use Rattle.windows.specs.Contract.{IsPlanCallAt}
use Rattle.held_file.specs.declared.Held.{Held}
use Rattle.held_file.specs.Held.{file_in}
use Rattle.open_plan.specs.Laws.Asked.{same_asked}

-- The refusal that has a number.
abbrev refusal_of : ℕ → Refusal
refusal_of n =
    cond (eqb n 1) Torn
    (cond (eqb n 2) Edition
    (cond (eqb n 3) Extent
    (cond (eqb n 4) Margin
    (cond (eqb n 5) OffSheet
    (cond (eqb n 6) Unpriced
    (cond (eqb n 7) Standing
    (cond (eqb n 8) ShortSheet
    (cond (eqb n 9) Budget
    (cond (eqb n 10) Idle
    (cond (eqb n 11) Scattered
    (cond (eqb n 12) CutOff
    (cond (eqb n 13) Repeated
    (cond (eqb n 14) Foreign
    (cond (eqb n 15) Unjoined
    (cond (eqb n 16) Missed
    (cond (eqb n 17) StrayPair
    (cond (eqb n 18) BadMarks
    (cond (eqb n 19) BadWindow
    (cond (eqb n 20) MustShut
    (cond (eqb n 21) NoMark
    (cond (eqb n 22) Full
    Rounds)))))))))))))))))))))

number_back : (r : Refusal) → refusal_of (refusal_number r) ≡ r
number_back Torn = refl
number_back Edition = refl
number_back Extent = refl
number_back Margin = refl
number_back OffSheet = refl
number_back Unpriced = refl
number_back Standing = refl
number_back ShortSheet = refl
number_back Budget = refl
number_back Idle = refl
number_back Scattered = refl
number_back CutOff = refl
number_back Repeated = refl
number_back Foreign = refl
number_back Unjoined = refl
number_back Missed = refl
number_back StrayPair = refl
number_back BadMarks = refl
number_back BadWindow = refl
number_back MustShut = refl
number_back NoMark = refl
number_back Full = refl
number_back Rounds = refl

same_refusal : (r s : Refusal) → refusal_number r ≡ refusal_number s → r ≡ s
same_refusal r s e = sym (number_back r) ∙ ap refusal_of e ∙ number_back s

-- Answers with one verdict, equal places and fields and one u are equal.
same_parts : (r s : Result Planned Refusal) → verdict_number r ≡ verdict_number s → places_of r ≡ places_of s
    → summary_of r ≡ summary_of s → u_list r ≡ u_list s → r ≡ s
same_parts (Ok x) (Ok y) e n f u =
    λ j. Ok (record {
      places = n j;
      cost = (f j).cost;
      floor = (f j).floor;
      trees = (f j).trees;
      whole = (f j).whole;
      parts = (f j).parts;
      multipliers = u j;
    })
same_parts (Ok x) (Err s) e n f u = absurd (some-ne-none _ (sym e))
same_parts (Err r) (Ok y) e n f u = absurd (some-ne-none _ e)
same_parts (Err r) (Err s) e n f u = ap Err (same_refusal r s (ap held e))
  where
    held : Option ℕ → ℕ
    held none = 0
    held (some k) = k

pub equal : {r s : Result Planned Refusal} → SameAnswer r s → u_list r ≡ u_list s → r ≡ s
equal {r} {s} h u =
    same_parts r s h.refusal h.places
    (λ j. record { cost = h.cost j; floor = h.floor j; trees = h.trees j; whole = h.whole j; parts = h.parts j }) u

-- ---- two answers to calls on one plan, with one budget and one refusal, are equal, whatever the sheets hold

module _ {p : Plan} {budget : ℕ} {old new old' new' : List ℕ} {r s : Result Planned Refusal} where
  same_multipliers : (o : Option ℕ) → IsPlanned p budget o old new r → IsPlanned p budget o old' new' s → u_list r ≡ u_list s
  same_multipliers none i j = (i.answered refl).multipliers_are ∙ sym (j.answered refl).multipliers_are
  same_multipliers (some k) i j = i.no_multipliers k refl ∙ sym (j.no_multipliers k refl)

  pub equal_answers : {o : Option ℕ} → IsPlanned p budget o old new r → IsPlanned p budget o old' new' s → r ≡ s
  equal_answers {o} i j =
      let u = same_multipliers o i j in
      let e = i.summary_is ∙ ap (λ (l : List ℤ). fields (answer o (summary p budget (λ v. get_or l v (pos 0))))) u ∙ sym j.summary_is in
      same_parts r s (i.verdict ∙ sym j.verdict) (i.places_are ∙ sym j.places_are) e u

-- and where the sheets held the same, they hold the same
pub equal_calls : {p : Plan} {budget : ℕ} {o : Option ℕ} {old new new' : List ℕ} {r s : Result Planned Refusal}
    → IsPlanned p budget o old new r → IsPlanned p budget o old new' s → (r ≡ s) × (new ≡ new')
equal_calls i j = (equal_answers i j, i.sheet ∙ sym j.sheet)

-- at a departure, with sheets of one length
pub equal_at : {bytes windows : List ℕ} {budget : ℕ} {d : Departure} {old new old' new' : List ℕ} {r s : Result Planned Refusal}
    → length old ≡ length old' → IsPlanCallAt bytes budget windows d old new r → IsPlanCallAt bytes budget windows d old' new' s → r ≡ s
equal_at {bytes} {windows} {budget} {d} e x y =
    equal_answers x.planned
    (planned_as _ _ _ _ _ _ _ _ refl (ap (λ (n : ℕ). call_refusal_at bytes budget n windows d) (sym e)) y.planned)

-- and of an open plan that holds the same file
pub asked_equal : {f g : Held} {windows : List ℕ} {budget : ℕ} {d : Departure} {old new old' new' : List ℕ} {r s : Result Planned Refusal}
    → g ≡ f → length old ≡ length old'
    → IsPlanCallAt (file_in f) budget windows d old new r → IsPlanCallAt (file_in g) budget windows d old' new' s
    → (r ≡ s) × (take (places_of r) new ≡ take (places_of s) new') × (old ≡ old' → new ≡ new')
asked_equal {f} {g} {windows} {budget} {d} {old} {new} {old'} {new'} {r} {s} same e x y =
    let z = subst (λ (h : Held). IsPlanCallAt (file_in h) budget windows d old' new' s) same y in
    let q = same_asked (file_in f) budget windows d old new old' new' r s e x z in
    (equal_at e x z, q.1, q.2)
