-- A district that has its turn. It is under way, so that the plan call on its plan and budget is not
-- refused; and these are what it entered with.
use Rattle.std.specs.Prelude.{◌≡◌, refl, Bool, true, false, T, ℕ, ◌≤◌, length, get_or, Result, Ok}
use Rattle.std.proofs.Common.{sym, ap, ◌∙◌, subst, arith}
use Rattle.std.proofs.Math.Path.{subst⁻¹}
use mathlib.Core.List.{List, [], ◌∷◌, map, Memᴰ}
use Rattle.std.proofs.Math.Option.{none}
use Rattle.postman.specs.PlanFile.{plan_of}
use Rattle.postman.specs.PlanCall.{sheet_places, highest_budget, call_refusal}
use Rattle.postman_laws.specs.Laws.Acceptance.{file_accepted}
use Rattle.budget.specs.Laws.{within}
use Rattle.refusal.specs.declared.Refusal.{Refusal}
use Rattle.solution.specs.declared.Planned.{Planned}
use Rattle.planner.specs.Contract.{IsPlanCall}
use Rattle.solution.specs.Planned.{IsPlanned}
use Rattle.solution.specs.SameAnswer.{SameAnswer}
use Rattle.call_steps.specs.Laws.Call.{sheet_long, budget_good, planned_as}
use Rattle.planner.specs.Laws.Whole.{file_good}
use Rattle.solution.specs.Laws.SameAnswer.{same_answer}
use Rattle.district_machine.specs.declared.machine.District.{District as DistrictRecord}
use Rattle.district_machine.specs.declared.machine.Machine.{Machine}
use Rattle.districts.specs.declared.turn.Turned.{Turned}
use Rattle.postman.specs.Districts.{District, Line, finishes}
use Rattle.district_machine.specs.Machine.{bytes_of, district_of, waiting_in, line_of}
use Rattle.districts.specs.Turned.{so_far, Meeting, outcome_of, answer_of, sheet_after, IsTurned}
use Rattle.districts.specs.Served.{IsServed}
use Rattle.districts.specs.Laws.Sound.{IsUnderWay, IsSound, cost_now, tried_now, last_planned, Met, no_one, too_short, going, last}

call_accepted : (x : DistrictRecord) → IsUnderWay x → (places : ℕ) → sheet_places ≤ places
    → call_refusal (bytes_of x) x.budget places ≡ none
unfolding highest_budget
call_accepted x u places s =
    file_good (bytes_of x) x.budget places (file_accepted (bytes_of x) u.file) u.file
    ∙ sheet_long (plan_of (bytes_of x)) x.budget places s
    ∙ budget_good (plan_of (bytes_of x)) x.budget _ (sym (within x.budget u.some_budget u.most_budget))
    ∙ u.plan

-- a truth value is not both
clash : (b : Bool) → b ≡ true → b ≡ false → ⊥
clash b p q = subst T (sym p ∙ q) tt

-- the district at the front, as it is held
held_front : (xs : List DistrictRecord) (d : District) (l : Line) → map district_of xs ≡ d ∷ l
    → (x : DistrictRecord) × Memᴰ x xs × (district_of x ≡ d)
held_front [] d l e = (let n = ap length e in absurd (omega arith))
held_front (x ∷ xs) d l e = (x, Memᴰ.head refl, ap (λ (y : Line). get_or y 0 d) e)

pub front_accepted : (m : Machine) → IsSound m → (d : District) (l : Line) → line_of m ≡ d ∷ l → (places : ℕ) → sheet_places ≤ places
    → call_refusal d.bytes d.budget places ≡ none
front_accepted m h d l e places s =
    let f = held_front _ d l e in
    ap (λ (d : District). call_refusal d.bytes d.budget places) (sym f.2) ∙ call_accepted f.0 (h.each f.0 f.1) places s

-- its turn
module _ (m : Machine) (old new : List ℕ) (r : Turned) (t : IsTurned m old new r) (d : District) (l : Line) (e : line_of m ≡ d ∷ l)
    (long : sheet_places ≤ length old) where
  same : (f : DistrictRecord) (ds : List DistrictRecord) → waiting_in m ≡ f ∷ ds → district_of f ≡ d
  same f ds w = ap (λ (y : Line). get_or y 0 d) (sym (ap (λ (x : List DistrictRecord). map district_of x) w) ∙ e)

  pub front_turn : Met m (length old) → IsServed d old new r
  front_turn (no_one z k) = (let n = ap length (sym z ∙ e) in absurd (omega arith))
  front_turn (too_short f ds w s k) = absurd (omega arith)
  front_turn (going f ds w s u q k) = subst (λ (d : District). IsServed d old new r) (same f ds w) (record {
    going = λ g. (
      t.outcome ∙ ap outcome_of k,
      t.planned ∙ ap answer_of k ∙ (λ i. Ok (so_far (cost_now f u q i) (tried_now f u q i))),
      t.sheet
          ∙ ap (λ (x : Meeting). sheet_after x old) k,
    );
    last = λ g. absurd (clash (finishes (district_of f)) g q);
  })
  front_turn (last f ds w s u q k) = subst (λ (d : District). IsServed d old new r) (same f ds w) (record {
    going = λ g. absurd (clash (finishes (district_of f)) q g);
    last = λ g. (
      t.outcome ∙ ap outcome_of k,
      subst⁻¹ (λ (x : Result Planned Refusal). IsPlanned (plan_of (bytes_of f)) f.budget none old new x) (t.planned ∙ ap answer_of k)
          (last_planned f u q old new (t.sheet ∙ ap (λ (x : Meeting). sheet_after x old) k)),
    );
  })

-- its answer is the plan call's
pub as_call : (bytes bytes' : List ℕ) (budget budget' : ℕ) (old new new' : List ℕ) (r s : Result Planned Refusal)
    → bytes ≡ bytes' → budget ≡ budget' → call_refusal bytes budget (length old) ≡ none
    → IsPlanned (plan_of bytes) budget none old new r → IsPlanCall bytes' budget' old new' s → SameAnswer r s × (new ≡ new')
as_call bytes bytes' budget budget' old new new' r s eb en good h g =
    let g' : IsPlanCall bytes budget old new' s =
    subst⁻¹ (λ (b : List ℕ). IsPlanCall b budget old new' s) eb (subst⁻¹ (λ (n : ℕ). IsPlanCall bytes' n old new' s) en g) in
    same_answer (plan_of bytes) budget old new new' r s none h (planned_as _ _ _ _ _ _ _ _ refl good g'.planned)
