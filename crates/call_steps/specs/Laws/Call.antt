-- The refusals in their order. Each test of the code is a condition of the definition, and where the conditions before it do not
-- apply, the first that applies is among the rest.
use Rattle.std.specs.Prelude.{◌≡◌, refl, Result, Ok, Err, Bool, true, false, not, cond, List, [], ◌∷◌, ◌++◌, ◌≢◌, ℕ, ◌≤◌, length, T, eqb, ltb}
use Rattle.std.proofs.Common.{sym, ap, ◌∙◌, arith, le-ltb, nltb→le}
use Rattle.std.proofs.Math.Option.{Option, none, some}
use Rattle.postman_laws.specs.Laws.Contradiction.{zero_is_one}
use Rattle.postman.specs.Plan.{Plan, required_arcs, WellFormed}
use Rattle.postman.specs.Required.{required}
use Rattle.postman.specs.Refusal.{Conditions, first_refusal}
use Rattle.postman.specs.PlanFile.{is_outside}
use Rattle.postman.specs.Component.{component_count}
use Rattle.postman.specs.PlanCall.{sheet_places, highest_budget, is_cut_off, parts_conditions}
use Rattle.postman.specs.Laws.Tests.{eqb_other}
use Rattle.refusal.specs.declared.Refusal.{Refusal}
use Rattle.refusal.specs.Verdict.{refusal_number}
use Rattle.postman_laws.specs.Laws.Refusal.{accepted_cons}
use Rattle.budget.specs.declared.Budget.{Budget}
use Rattle.budget.specs.Checks.{checked_of}
use Rattle.network.specs.declared.network.Network.{Network}
use Rattle.network.specs.Network.{IsNetwork}
use Rattle.solution.specs.declared.Planned.{Planned}
use Rattle.call_steps.specs.Refusals.{network_refusal, plan_refusal, budget_refusal, sheet_refusal}
use Rattle.multipliers.specs.Drive.{table_of}
use Rattle.multipliers.specs.Prepared.{IsMeasured, IsKnown}
use Rattle.solution.specs.Planned.{IsPlanned}
use Rattle.call_steps.specs.Laws.Idle.{idle}
use Rattle.call_steps.specs.Refused.{refused_with}
use Rattle.call_steps.specs.Laws.Answer.{answer_as, refused_answer}
use Rattle.call_steps.specs.Laws.Refused.{is_refused}

-- ---- 10, 11 and 12

pub measured_refusal : (p : Plan) (net : Network) → IsNetwork p net → network_refusal net.components net.cut_off ≡ plan_refusal p
unfolding plan_refusal
measured_refusal p net h =
    ap (λ (n : ℕ). network_refusal n net.cut_off) h.components.all ∙ ap (network_refusal (component_count p)) h.cut_off

-- 10, 11 and 12 of any plan, from the number of its components
pub parts_refusal : (p : Plan) → WellFormed p → first_refusal (parts_conditions p ++ (is_cut_off p, 12) ∷ []) ≡ plan_refusal p
unfolding first_refusal parts_conditions plan_refusal network_refusal
parts_refusal p w = rw (idle p w)

pub is_known : (p : Plan) (table : List (List ℕ)) (net : Network) → IsMeasured p table net
    → network_refusal net.components net.cut_off ≡ none → IsKnown p table (required p)
unfolding network_refusal
is_known p table net m e =
    let last : Conditions = (net.cut_off, 12) ∷ [] in
    let ten = accepted_cons (eqb net.components 0) 10 ((ltb 8 net.components, 11) ∷ last) e in
    let eleven = accepted_cons (ltb 8 net.components) 11 last ten.1 in
    let twelve = accepted_cons net.cut_off 12 [] eleven.1 in
    let all = m.network.components.all in
    let arcs : T (not (eqb (length (required_arcs p)) 0)) = rw (idle p m.well_formed, sym all) ten.0 in
    let few = nltb→le 8 net.components eleven.0 in
    let some : length (required_arcs p) ≢ 0 = eqb_other arcs in
    record {
      plannable = record {
        well_formed = m.well_formed;
        some_arc = omega arith;
        connected = rw m.network.cut_off at twelve.0;
      };
      few = omega arith;
      distances = m.distances;
      vertices = refl;
    }

pub known_tabled : (p : Plan) (table : List (List ℕ)) → WellFormed p → table ≡ table_of p → plan_refusal p ≡ none → (net : Network)
    → IsNetwork p net → IsKnown p table (required p)
known_tabled p table w d e net n =
    is_known p table net (record { well_formed = w; distances = d; network = n }) (measured_refusal p net n ∙ e)

-- ---- 9

pub budget_refused : (p : Plan) (n : ℕ) → checked_of n ≡ Err Refusal.Budget → budget_refusal p n ≡ some 9
unfolding checked_of budget_refusal
budget_refused p n = at (is_outside n 1 highest_budget)
  where
    at : (x : Bool) → cond {A = Result Budget Refusal} x (Err Refusal.Budget) (Ok (record { trees = n })) ≡ Err Refusal.Budget
        → cond x (some 9) (plan_refusal p) ≡ some 9
    at true e = refl
    at false e = zero_is_one (cc)

pub budget_good : (p : Plan) (n : ℕ) (b : Budget) → checked_of n ≡ Ok b → budget_refusal p n ≡ plan_refusal p
unfolding checked_of budget_refusal
budget_good p n b = at (is_outside n 1 highest_budget)
  where
    at : (x : Bool) → cond {A = Result Budget Refusal} x (Err Refusal.Budget) (Ok (record { trees = n })) ≡ Ok b
        → cond x (some 9) (plan_refusal p) ≡ plan_refusal p
    at true e = zero_is_one (cc)
    at false e = refl

-- ---- 8

pub sheet_long : (p : Plan) (budget places : ℕ) → sheet_places ≤ places → sheet_refusal p budget places ≡ budget_refusal p budget
unfolding sheet_refusal
sheet_long p budget places l = rw (le-ltb places sheet_places l)

-- ---- the answer of a refusal

pub refused_planned : (p : Plan) (budget : ℕ) (o : Option ℕ) (old : List ℕ) (r : Refusal) (x : Result Planned Refusal) → x ≡ refused_with r
    → o ≡ some (refusal_number r) → IsPlanned p budget o old old x
refused_planned p budget o old r x e h =
    refused_answer (λ p o new x. IsPlanned p budget o old new x) old (λ p r. is_refused p budget old r) p o r x e h

pub planned_as : (p q : Plan) (budget : ℕ) (o o' : Option ℕ) (old new : List ℕ) (x : Result Planned Refusal) → p ≡ q → o ≡ o'
    → IsPlanned p budget o old new x → IsPlanned q budget o' old new x
planned_as p q budget o o' old new x e h i = answer_as (λ p o new x. IsPlanned p budget o old new x) p q o o' new x e h i
