-- Two answers to calls on one plan, with one budget, one refusal and one sheet, are the same, and so are the places that they leave: u is
-- fixed by the plan, and the rest follows from u.
use Rattle.std.specs.Prelude.{◌≡◌, refl, Result, List, ℕ, get_or, ℤ, pos}
use Rattle.std.proofs.Common.{sym, ap, ◌∙◌}
use Rattle.std.proofs.Math.Option.{Option, none, some, some-ne-none}
use Rattle.postman.specs.Plan.{Plan}
use Rattle.postman.specs.Refusal.{answer, unless}
use Rattle.postman.specs.LagrangianBound.{Multipliers}
use Rattle.postman.specs.PlanCall.{Summary, summary, fields}
use Rattle.refusal.specs.declared.Refusal.{Refusal}
use Rattle.solution.specs.declared.Planned.{Planned}
use Rattle.solution.specs.Planned.{summary_of, u_list, count_unless, IsPlanned}
use Rattle.solution.specs.SameAnswer.{SameAnswer}

module _ (p : Plan) (budget : ℕ) (old new new' : List ℕ) (r s : Result Planned Refusal) where
  same_multipliers : (o : Option ℕ) → IsPlanned p budget o old new r → IsPlanned p budget o old new' s → u_list r ≡ u_list s
  same_multipliers none i j = (i.answered refl).multipliers_are ∙ sym (j.answered refl).multipliers_are
  same_multipliers (some k) i j = i.no_multipliers k refl ∙ sym (j.no_multipliers k refl)

  pub same_answer : (o : Option ℕ) → IsPlanned p budget o old new r → IsPlanned p budget o old new' s → SameAnswer r s × (new ≡ new')
  same_answer o i j =
      let read : List ℤ → Multipliers = λ us v. get_or us v (pos 0) in
      let u = ap read (same_multipliers o i j) in
      let e : summary_of r ≡ summary_of s =
      i.summary_is ∙ ap (λ (u : Multipliers). fields (answer o (summary p budget u))) u ∙ sym j.summary_is in (
        record {
          refusal = i.verdict ∙ sym j.verdict;
          places = i.places_are ∙ sym j.places_are;
          cost = ap (λ (x : Summary). x.cost) e;
          floor = ap (λ (x : Summary). x.floor) e;
          trees = ap (λ (x : Summary). x.trees) e;
          whole = ap (λ (x : Summary). x.whole) e;
          parts = ap (λ (x : Summary). x.parts) e;
          multipliers = λ k. ap (λ (u : Multipliers). u k) u;
        },
        i.sheet ∙ sym j.sheet,
      )

-- A refusal says nothing of the plan.
pub refused_as : (p q : Plan) (budget k : ℕ) (old new : List ℕ) (r : Result Planned Refusal) → IsPlanned p budget (some k) old new r
    → IsPlanned q budget (some k) old new r
unfolding answer fields unless count_unless
refused_as p q budget k old new r i = record {
  verdict = i.verdict;
  summary_is = i.summary_is;
  sheet = i.sheet;
  places_are = i.places_are;
  no_multipliers = i.no_multipliers;
  answered = λ e. absurd (some-ne-none k e);
}
