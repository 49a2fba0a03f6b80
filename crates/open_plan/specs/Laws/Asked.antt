-- Two answers for one file, on sheets of one length, are the same, and so are the places written: what is answered goes by the
-- sheet's length alone, and the places by the plan.
use Rattle.std.specs.Prelude.{◌≡◌, refl, List, ℕ, length, Result}
use Rattle.std.proofs.Math.Path.{sym, ap}
use Rattle.std.proofs.Common.{◌∙◌, subst}
use Rattle.std.proofs.Math.Option.{Option, none, some}
use Rattle.std.proofs.Math.ListN.{take}
use Rattle.postman.specs.Plan.{Plan}
use Rattle.postman.specs.PlanFile.{plan_of}
use Rattle.postman.specs.Windows.{Departure, windows_in, plan_at, call_refusal_at}
use Rattle.refusal.specs.declared.Refusal.{Refusal}
use Rattle.solution.specs.declared.Planned.{Planned}
use Rattle.solution.specs.Planned.{count_unless, IsPlanned, places_of}
use Rattle.solution.specs.SameAnswer.{SameAnswer}
use Rattle.solution.specs.Laws.Answered.{drive_is}
use Rattle.solution.specs.Laws.SameAnswer.{same_answer}
use Rattle.windows.specs.Contract.{IsPlanCallAt}

module _ (p : Plan) (budget : ℕ) (old new old' new' : List ℕ) (r s : Result Planned Refusal) where
  -- the contract of an answer on another sheet
  on_sheet : (o : Option ℕ) → IsPlanned p budget o old' new' s → (l : List ℕ) × IsPlanned p budget o old l s
  on_sheet o i = (
    _,
    record {
      verdict = i.verdict;
      summary_is = i.summary_is;
      sheet = refl;
      places_are = i.places_are;
      no_multipliers = i.no_multipliers;
      answered = i.answered;
    },
  )

  same_places : (o : Option ℕ) → IsPlanned p budget o old new r → IsPlanned p budget o old' new' s
      → take (places_of r) new ≡ take (places_of s) new'
  unfolding count_unless
  same_places none i j = drive_is p budget none old new r i i.verdict ∙ sym (drive_is p budget none old' new' s j j.verdict)
  same_places (some k) i j = ap (λ (n : ℕ). take n new) i.places_are ∙ sym (ap (λ (n : ℕ). take n new') j.places_are)

  same_sheet : (o : Option ℕ) → IsPlanned p budget o old new r → IsPlanned p budget o old' new' s → old ≡ old' → new ≡ new'
  same_sheet o i j e = (same_answer p budget old new new' r s o i (subst (λ (l : List ℕ). IsPlanned p budget o l new' s) (sym e) j)).1

-- Every field, the places written, and the whole sheet where it was the same before.
pub same_asked : (bytes : List ℕ) (budget : ℕ) (windows : List ℕ) (d : Departure) (old new old' new' : List ℕ)
    (a b : Result Planned Refusal) → length old ≡ length old'
    → IsPlanCallAt bytes budget windows d old new a → IsPlanCallAt bytes budget windows d old' new' b
    → SameAnswer a b × (take (places_of a) new ≡ take (places_of b) new') × (old ≡ old' → new ≡ new')
same_asked bytes budget windows d old new old' new' a b e i j =
    let p = plan_at (plan_of bytes) (windows_in windows) d in
    let o = call_refusal_at bytes budget (length old) windows d in
    let j' : IsPlanned p budget o old' new' b =
    subst (λ (n : ℕ). IsPlanned p budget (call_refusal_at bytes budget n windows d) old' new' b) (sym e) j.planned in (
      (same_answer p budget old new _ a b o i.planned (on_sheet p budget old new old' new' a b o j').1).0,
      same_places p budget old new old' new' a b o i.planned j',
      same_sheet p budget old new old' new' a b o i.planned j',
    )
