-- A refusal's answer: its number, nothing else, and the sheet as it was.
use Rattle.std.specs.Prelude.{◌≡◌, refl, Result, Err, IsErrAnd, List, ℕ}
use Rattle.std.proofs.Common.{ap, ◌∙◌}
use Rattle.std.proofs.lemmas.Result.{err_from_is_err_and}
use Rattle.std.proofs.Math.Option.{some, some-ne-none}
use Rattle.postman.specs.Plan.{Plan}
use Rattle.postman.specs.Refusal.{answer, unless}
use Rattle.postman.specs.PlanCall.{fields}
use Rattle.refusal.specs.declared.Refusal.{Refusal}
use Rattle.refusal.specs.Verdict.{refusal_number}
use Rattle.solution.specs.Planned.{count_unless, IsPlanned}
use Rattle.call_steps.specs.Refused.{refused_with}

pub is_refused : (p : Plan) (budget : ℕ) (old : List ℕ) (r : Refusal)
    → IsPlanned p budget (some (refusal_number r)) old old (refused_with r)
unfolding answer fields unless count_unless
is_refused p budget old r = record {
  verdict = refl;
  summary_is = refl;
  sheet = refl;
  places_are = refl;
  no_multipliers = λ k e. refl;
  answered = λ e. absurd (some-ne-none (refusal_number r) e);
}

-- What `?` answers where it stops: the refusal that it met.
pub stopped : {A : Type 0} (r : Refusal) (x : Result A Refusal) → IsErrAnd x (λ s. s ≡ r) → x ≡ Err r
stopped r x h = let e = err_from_is_err_and x h in e.1 ∙ ap Err e.2
