-- ONE ROUND IS THE PLAN CALL; the deep call is no worse than the plan call with the same budget; MORE ROUNDS ARE NEVER WORSE; the drive
-- passes the judge with the cost answered. For every file, budget and sheet, over the contracts of the calls.
use Rattle.std.specs.Prelude.{◌≡◌, List, ℕ, ◌≤◌, length, take, T, ◌≤ℤ◌, Result}
use Rattle.std.proofs.Common.{sym, ap, ◌∙◌, subst, arith}
use Rattle.std.proofs.Math.Path.{subst⁻¹}
use Rattle.std.proofs.Math.Option.{Option, none}
use Rattle.postman.specs.Refusal.{given}
use Rattle.postman.specs.PlanFile.{plan_of}
use Rattle.postman.specs.PlanCall.{sheet_places}
use Rattle.postman.specs.Judge.{highest_places, judge_answer}
use Rattle.postman.specs.Laws.Tests.{is_true}
use Rattle.postman_laws.specs.Laws.Judge.{file_judged}
use Rattle.refusal.specs.Verdict.{verdict_number}
use Rattle.refusal.specs.declared.Refusal.{Refusal}
use Rattle.solution.specs.Planned.{summary_of, places_of}
use Rattle.solution.specs.declared.Planned.{Planned}
use Rattle.planner.specs.Contract.{IsPlanCall}
use Rattle.round_rule.specs.declared.kept.Kept.{Kept}
use Rattle.round_rule.specs.Rounds.{kept}
use Rattle.deep_call.specs.Contract.{IsDeep, IsDeepCall}
use Rattle.deep_call.specs.Compared.{SameButWhole, NoWorse, Deepens}
use Rattle.deep_call.specs.Laws.Answer.{is_tried}
use Rattle.deep_call.specs.Laws.Call.{as_call_refusal}
use Rattle.deep_call.specs.Laws.Compared.{summary_deep, cost_deep, floor_deep, whole_deep, multipliers_deep, drive_deep, deep_accepted, first_cost, first_floor, same, one_good, kept_better, from_first, same_summary, same_drive, kept_met}

-- With one round places, cost, floor, trees, parts and u are the plan call's, and so is the sheet; in a refusal too.
pub one_round : (bytes : List ℕ) (budget : ℕ) (old new new' : List ℕ) (r s : Result Planned Refusal) → IsDeepCall bytes budget 1 old new r
    → IsPlanCall bytes budget old new' s → SameButWhole r s × (new ≡ new')
one_round bytes budget old new new' r s d c =
    same (plan_of bytes) budget old new new' r s _
    (subst (λ (o : Option ℕ). IsDeep (plan_of bytes) budget 1 o old new r) (as_call_refusal bytes budget 1 old new r one_good) d.deep)
    c.planned

-- "cost no more and floor no less than the plan call's with the same budget"
pub beyond_plan_call : (bytes : List ℕ) (budget rounds : ℕ) (old new old' new' : List ℕ) (r s : Result Planned Refusal)
    → IsPlanCall bytes budget old new r → IsDeepCall bytes budget rounds old' new' s
    → verdict_number r ≡ none → verdict_number s ≡ none → NoWorse r s
beyond_plan_call bytes budget rounds old new old' new' r s c d good-c good-d =
    let p = plan_of bytes in
    let e = sym d.deep.verdict ∙ good-d in
    let i = subst (λ (o : Option ℕ). IsDeep p budget rounds o old' new' s) e d.deep in
    let t = is_tried p budget _ old new r c.planned (sym c.planned.verdict ∙ good-c) in
    let b = from_first bytes budget rounds (deep_accepted bytes budget rounds (length old') e) in
    record {
      no_dearer = subst⁻¹ (λ x. (summary_of s).cost ≤ x) (t.cost_is ∙ sym (first_cost p budget))
          (subst⁻¹ (λ x. x ≤ (kept p budget 1).cost) (cost_deep p budget rounds old' new' s i) b.0);
      no_lower = subst⁻¹ (λ x. x ≤ℤ (summary_of s).floor) (t.floor_is ∙ sym (first_floor p budget))
          (subst⁻¹ (λ x. (kept p budget 1).floor ≤ℤ x) (floor_deep p budget rounds old' new' s i) b.1);
    }

-- "more rounds are never worse"
pub more_rounds : (bytes : List ℕ) (budget a b : ℕ) → a ≤ b → (old new old' new' : List ℕ) (r s : Result Planned Refusal)
    → IsDeepCall bytes budget a old new r → IsDeepCall bytes budget b old' new' s
    → verdict_number r ≡ none → verdict_number s ≡ none → Deepens r s new new'
more_rounds bytes budget a b more old new old' new' r s x y good-x good-y =
    let p = plan_of bytes in
    let ex = sym x.deep.verdict ∙ good-x in
    let ey = sym y.deep.verdict ∙ good-y in
    let i = subst (λ (o : Option ℕ). IsDeep p budget a o old new r) ex x.deep in
    let j = subst (λ (o : Option ℕ). IsDeep p budget b o old' new' s) ey y.deep in
    let g = kept_better bytes budget b (deep_accepted bytes budget b (length old') ey) a more in
    let met : T (summary_of r).whole → kept p budget b ≡ kept p budget a =
    λ t. kept_met p budget a b more (sym (whole_deep p budget a old new r i) ∙ is_true t) in
    record {
      no_worse = record {
        no_dearer = subst⁻¹ (λ c. (summary_of s).cost ≤ c) (cost_deep p budget a old new r i)
            (subst⁻¹ (λ c. c ≤ (kept p budget a).cost) (cost_deep p budget b old' new' s j) g.0);
        no_lower = subst⁻¹ (λ f. f ≤ℤ (summary_of s).floor) (floor_deep p budget a old new r i)
            (subst⁻¹ (λ f. (kept p budget a).floor ≤ℤ f) (floor_deep p budget b old' new' s j) g.1);
      };
      met_fields =
          λ t. summary_deep p budget b old' new' s j ∙ same_summary p budget a b (met t) ∙ sym (summary_deep p budget a old new r i);
      met_multipliers =
          λ t. multipliers_deep p budget b old' new' s j ∙ ap (λ (k : Kept). k.multipliers) (met t)
          ∙ sym (multipliers_deep p budget a old new r i);
      met_drive = λ t. drive_deep p budget b old' new' s j ∙ same_drive p budget a b (met t) ∙ sym (drive_deep p budget a old new r i);
    }

-- "every drive passes the judge"
pub passes_the_judge : (bytes : List ℕ) (budget rounds : ℕ) (old new : List ℕ) (r : Result Planned Refusal)
    → IsDeepCall bytes budget rounds old new r → verdict_number r ≡ none
    → judge_answer bytes (take (places_of r) new) ≡ given (summary_of r).cost
unfolding highest_places sheet_places
passes_the_judge bytes budget rounds old new r d good =
    let e = sym d.deep.verdict ∙ good in
    let a = deep_accepted bytes budget rounds (length old) e in
    let t = d.deep.answered e in
    let l = t.drive.short in
    file_judged bytes (take (places_of r) new) a.file a.plannable.some_arc (omega arith) t.drive.drive ∙ ap given t.costs
