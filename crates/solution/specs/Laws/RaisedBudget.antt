-- A raised budget, over the contract of two answers for one plan. u is the same function of the plan in both. Cost and floor are
-- their definitions at that u, which a larger budget never makes worse; where the smaller one reached all trees, both tried the same,
-- and every field is a function of that number.
use Rattle.std.specs.Prelude.{◌≡◌, refl, Result, Ok, Err, Bool, false, List, ℕ, ◌≤◌, length, get_or, take, ℤ, ◌≤ℤ◌, T}
use Rattle.std.proofs.Common.{sym, ◌∙◌, arith}
use Rattle.std.proofs.Math.Path.{ap, subst⁻¹}
use Rattle.std.proofs.Math.Bool.{cond}
use Rattle.std.proofs.Math.Option.{Option, none, some-ne-none}
use Rattle.std.proofs.Math.IntN.{pos}
use Rattle.postman.specs.Lists.{maxℤ}
use Rattle.postman.specs.Plan.{Plan}
use Rattle.postman.specs.LagrangianBound.{lagrangian_bound}
use Rattle.postman.specs.PlanCall.{Summary, summary, is_whole, tried_count, best_cost, best_arborescence, lower_bound}
use Rattle.postman.specs.Laws.Tests.{is_true, of_true}
use Rattle.postman.specs.Steps.{Plannable}
use Rattle.postman_laws.specs.Laws.Optimality.{larger_cost, larger_bound, whole_tried, whole_stays}
use Rattle.refusal.specs.declared.Refusal.{Refusal}
use Rattle.refusal.specs.Verdict.{verdict_number, refusal_number}
use Rattle.solution.specs.declared.Planned.{Planned}
use Rattle.multipliers.specs.Drive.{drive_of}
use Rattle.solution.specs.Planned.{summary_of, places_of, u_list, multipliers_of, IsPlanned}
use Rattle.solution.specs.RaisedBudget.{Buys}
use Rattle.solution.specs.Laws.Answered.{is_answer, summary_given, cost_is, floor_is, count_is, drive_is}

-- the fields of an answer, put together again
abbrev from_parts : ℕ → List ℤ → Summary → Planned
from_parts n u s =
    record {
      places = n;
      cost = s.cost;
      floor = s.floor;
      trees = s.trees;
      whole = s.whole;
      parts = s.parts;
      multipliers = u;
    }

accepting : (r : Result Planned Refusal) → verdict_number r ≡ none → r ≡ Ok (from_parts (places_of r) (u_list r) (summary_of r))
accepting (Ok r) e = refl
accepting (Err r) e = absurd (some-ne-none (refusal_number r) e)

module _ (p : Plan) (b c : ℕ) (more : b ≤ c) (f g : Option ℕ) (old new old' new' : List ℕ) (r s : Result Planned Refusal)
    (at_b : IsPlanned p b f old new r) (at_c : IsPlanned p c g old' new' s)
    (good-b : verdict_number r ≡ none) (good-c : verdict_number s ≡ none) where
  abbrev u : ℕ → ℤ
  u = multipliers_of r

  abbrev ok : Plannable p
  ok = (is_answer p b f old new r at_b good-b).plannable

  some : 1 ≤ b
  some = (is_answer p b f old new r at_b good-b).some_budget

  same_u : u_list s ≡ u_list r
  same_u = (is_answer p c g old' new' s at_c good-c).multipliers_are ∙ sym (is_answer p b f old new r at_b good-b).multipliers_are

  same_at : multipliers_of s ≡ u
  same_at = ap {B = ℕ → ℤ} (λ (x : List ℤ) (i : ℕ). get_or x i (pos 0)) same_u

  summary_c : summary_of s ≡ summary p c u
  summary_c = summary_given p c g old' new' s at_c good-c ∙ ap (summary p c) same_at

  floor_b : (summary_of r).floor ≡ lower_bound p b u
  floor_b = floor_is p b f old new r at_b good-b

  floor_c : (summary_of s).floor ≡ lower_bound p c u
  floor_c = floor_is p c g old' new' s at_c good-c ∙ ap (lower_bound p c) same_at

  whole_b : (summary_of r).whole ≡ is_whole p b
  unfolding summary
  whole_b = ap (λ (x : Summary). x.whole) (summary_given p b f old new r at_b good-b)

  whole_c : (summary_of s).whole ≡ is_whole p c
  unfolding summary
  whole_c = ap (λ (x : Summary). x.whole) (summary_given p c g old' new' s at_c good-c)

  partial : (budget : ℕ) → is_whole p budget ≡ false → lower_bound p budget u ≡ maxℤ (lagrangian_bound p (λ i. pos 0))
      (lagrangian_bound p u)
  unfolding lower_bound
  partial budget e = ap (λ (w : Bool). cond w (pos (best_cost p budget)) (maxℤ (lagrangian_bound p (λ i. pos 0)) (lagrangian_bound p u))) e

  module _ (all : T (is_whole p b)) where
    same_whole : is_whole p c ≡ is_whole p b
    same_whole = is_true (whole_stays p ok b c some more all) ∙ sym (is_true all)

    same_tried : tried_count p c ≡ tried_count p b
    same_tried = sym (whole_tried p ok b c some more all)

    same_summary : summary p c u ≡ summary p b u
    unfolding summary lower_bound
    same_summary = rw (same_whole, same_tried)

    same_drive : drive_of p c ≡ drive_of p b
    unfolding drive_of best_arborescence
    same_drive = rw same_tried

    same_places : places_of s ≡ places_of r
    same_places = count_is p c g old' new' s at_c good-c ∙ ap length same_drive ∙ sym (count_is p b f old new r at_b good-b)

    same_fields : summary_of s ≡ summary_of r
    same_fields = summary_c ∙ same_summary ∙ sym (summary_given p b f old new r at_b good-b)

    same_answer : s ≡ r
    same_answer =
        accepting s good-c
        ∙ ap (λ (n : ℕ). Ok (from_parts n (u_list s) (summary_of s))) same_places
        ∙ ap (λ (x : List ℤ). Ok (from_parts (places_of r) x (summary_of s))) same_u
        ∙ ap (λ (x : Summary). Ok (from_parts (places_of r) (u_list r) x)) same_fields
        ∙ sym (accepting r good-b)

    same_written : take (places_of s) new' ≡ take (places_of r) new
    same_written = drive_is p c g old' new' s at_c good-c ∙ same_drive ∙ sym (drive_is p b f old new r at_b good-b)

  pub buys : Buys r s new new'
  buys = record {
    no_dearer = (let l = larger_cost p ok b c some more in let x = cost_is p b f old new r at_b good-b in
        let y = cost_is p c g old' new' s at_c good-c in omega arith);
    no_lower =
        (let l = larger_bound p ok b c some more u (is_answer p b f old new r at_b good-b).multipliers in
        subst₂⁻¹ floor_b floor_c l);
    same_multipliers = same_u;
    partial_floors = λ eb ec. floor_c ∙ partial c (sym whole_c ∙ ec) ∙ sym (partial b (sym whole_b ∙ eb)) ∙ sym floor_b;
    whole_same = λ e. same_answer (of_true (sym whole_b ∙ e));
    whole_drive = λ e. same_written (of_true (sym whole_b ∙ e));
  }
    where
      subst₂⁻¹ : {x x' y y' : ℤ} → x ≡ x' → y ≡ y' → x' ≤ℤ y' → x ≤ℤ y
      subst₂⁻¹ {x} {x'} {y} {y'} e h l = subst⁻¹ (λ (t : ℤ). t ≤ℤ y) e (subst⁻¹ (λ (t : ℤ). x' ≤ℤ t) h l)
