-- THE PROMISE, from what is kept. The drive is the plan call's under its numbering, told of the plan itself; the floor is that of the
-- plan call under its numbering, and is below every drive of the plan; where all trees were tried in that round, its cost is the
-- least there is, and so is the cost that is kept.
use Rattle.std.specs.Prelude.{◌≡◌, ◌↔◌, ◌⊎◌, List, [], ℕ, ◌+◌, ◌-◌, ◌≤◌, length, drop, ℤ, ◌≤ℤ◌, Result}
use Rattle.std.proofs.Math.Path.{sym, ap, subst⁻¹}
use Rattle.std.proofs.Common.{ap₂, ◌∙◌, subst, arith}
use Rattle.std.proofs.Math.Logic.{inl, inr}
use Rattle.std.proofs.Math.Option.{Option, none}
use Rattle.std.proofs.Math.ListN.{take}
use Rattle.std.proofs.Math.Seq.{take-append_seam}
use Rattle.std.proofs.Math.Dec.{T}
use Rattle.std.proofs.Math.IntN.{pos}
use Rattle.std.specs.Int.Signed.{le_z, le_z_yes, ≤ℤ_refl}
use Rattle.integers.specs.Linear.{z}
use Rattle.postman.specs.Plan.{Plan}
use Rattle.postman.specs.Refusal.{answer, unless}
use Rattle.postman.specs.Drive.{IsDrive, drive_cost}
use Rattle.postman.specs.Required.{required_cost}
use Rattle.postman.specs.Balancing.{least_balancing}
use Rattle.postman.specs.Component.{component_count}
use Rattle.postman.specs.LagrangianBound.{Multipliers, AreMultipliers, lagrangian_bound}
use Rattle.postman.specs.PlanCall.{Summary, summary, fields, tried_count, best_cost, lower_bound, is_whole}
use Rattle.postman.specs.Guarantee.{Guarantee}
use Rattle.postman.specs.Renumbering.{number_in, carried, IsRenumberedDrive}
use Rattle.postman.specs.Lists.{maxℤ}
use Rattle.postman.specs.Laws.Tests.{test}
use Rattle.postman.specs.Steps.{Plannable}
use Rattle.postman_laws.specs.Laws.Optimality.{guaranteed}
use Rattle.postman_laws.specs.Laws.RenumberedMultipliers.{multipliers_back, carried_again, below_drives, least_cost, above_balancing}
use Rattle.multipliers.specs.Ascent.{multipliers_for}
use Rattle.multipliers.specs.Drive.{drive_of}
use Rattle.drive_legs.specs.Drive.{written}
use Rattle.refusal.specs.Verdict.{verdict_number}
use Rattle.refusal.specs.declared.Refusal.{Refusal}
use Rattle.solution.specs.declared.Planned.{Planned}
use Rattle.solution.specs.Planned.{summary_of, multipliers_of, count_unless, IsPlanned, places_of, u_list}
use Rattle.solution.specs.Laws.Answered.{cost_is, floor_is, is_answer, summary_given}
use Rattle.round_rule.specs.declared.kept.Kept.{Kept}
use Rattle.round_rule.specs.Rounds.{under, floor_of, have_met, kept, deep_summary, deep_drive}
use Rattle.deep_call.specs.Contract.{bound_under, multipliers_unless, IsDeepAnswer, IsDeep}
use Rattle.round_rule.specs.Laws.Tables.{under_plannable}
use Rattle.round_rule.specs.Trial.{IsTrial}
use Rattle.round_rule.specs.Laws.Driven.{driven}
use Rattle.round_rule.specs.Laws.Kept.{u_of, IsKept, after_kept, under_multipliers}

module _ (p : Plan) (ok : Plannable p) (few : component_count p ≤ 8) (r : ℕ) (k : Kept) (h : IsKept p r k) where
  -- ---- the drive

  abbrev w : List ℕ
  w = drive_of (under p k.drive.numbering) k.drive.tries

  drive_trial : IsTrial p k.drive
  drive_trial = record { numbers = h.drive_numbering; some_tries = h.drive_tries; few_tries = h.drive_few }

  pub told : IsRenumberedDrive p (number_in k.drive.numbering.to) k.drive.tries w
  told = driven p ok few k.drive drive_trial

  pub told_cost : drive_cost p w ≡ k.cost
  told_cost = told.costs ∙ sym h.cost_is

  -- ---- the floor

  abbrev bounded : Plan
  bounded = under p k.bound.numbering

  abbrev bound_budget : ℕ
  bound_budget = k.bound.tries

  abbrev u : Multipliers
  u = u_of (multipliers_for bounded)

  lawful : AreMultipliers bounded u
  lawful = under_multipliers p ok few k.bound.numbering h.bound_numbering

  guarantee : Guarantee bounded bound_budget u
  guarantee = guaranteed bounded (under_plannable p ok k.bound.numbering h.bound_numbering) bound_budget h.bound_tries u lawful

  floor_as : k.floor ≡ lower_bound bounded bound_budget u
  unfolding floor_of
  floor_as = h.floor_is

  pub below : (v : List ℕ) → IsDrive p v → k.floor ≤ℤ pos (drive_cost p v)
  below v t = subst⁻¹ (λ f. f ≤ℤ pos (drive_cost p v)) floor_as (below_drives p h.bound_numbering.numbers bound_budget u guarantee v t)

  pub above : pos (required_cost p + least_balancing p []) ≤ℤ k.floor
  above = subst⁻¹ (λ f. pos (required_cost p + least_balancing p []) ≤ℤ f) floor_as
      (above_balancing p h.bound_numbering.numbers bound_budget u guarantee)

  pub floor_no_higher : k.floor ≤ℤ pos k.cost
  floor_no_higher = subst (λ c. k.floor ≤ℤ pos c) told_cost (below w told.drive)

  pub kept_multipliers : AreMultipliers p (u_of k.multipliers)
  kept_multipliers =
      subst⁻¹ (AreMultipliers p) h.multipliers_are (multipliers_back p h.bound_numbering.numbers u ok.well_formed lawful)

  carried_into : carried (number_in k.bound.numbering.from) (u_of k.multipliers) ≡ u
  carried_into = ap (carried (number_in k.bound.numbering.from)) h.multipliers_are ∙ carried_again p h.bound_numbering.numbers u

  pub floor_found : (k.floor ≡ pos k.cost) ⊎ (k.floor ≡ bound_under p k.bound.numbering (u_of k.multipliers))
  floor_found = elim (test (is_whole bounded bound_budget)) [
    | inl t ↦
        let a = h.least in
        let b = least_cost p h.bound_numbering.numbers bound_budget u guarantee t w told.drive in
        let c = told_cost in
        let e : best_cost bounded bound_budget ≡ k.cost = omega arith in
        inl (floor_as ∙ guarantee.whole_equal t ∙ ap pos e)
    | inr t ↦
        inr (floor_as ∙ guarantee.partial_equal t
        ∙ ap (λ (v : Multipliers). maxℤ (lagrangian_bound bounded (λ i. pos 0)) (lagrangian_bound bounded v)) (sym carried_into))
  ]

  -- ---- whole

  pub met_says : T (have_met k) ↔ (k.floor ≡ pos k.cost)
  unfolding have_met
  met_says = (
    (λ t. (let a = le_z_yes {a = pos k.cost} {b = k.floor} t in let b = floor_no_higher in omega (arith, z))),
    (λ e. subst⁻¹ (λ f. T (le_z (pos k.cost) f)) e (≤ℤ_refl (pos k.cost)).le),
  )

  pub met_least : T (have_met k) → (v : List ℕ) → IsDrive p v → k.cost ≤ drive_cost p v
  met_least t v g = let e = met_says.0 t in let b = below v g in omega (arith, z)

-- ---- the answer

module _ (p : Plan) (ok : Plannable p) (few : component_count p ≤ 8) (budget : ℕ) (some-trees : 1 ≤ budget) (low : budget ≤ 1000000)
    (rounds : ℕ) (few_rounds : rounds ≤ 1000) where
  pub is_kept : IsKept p (rounds - 1) (kept p budget rounds)
  unfolding kept
  is_kept = after_kept p ok few budget some-trees low (rounds - 1) (omega arith)

  pub is_deep_answer : (new : List ℕ) (r : Result Planned Refusal) → take (places_of r) new ≡ deep_drive p budget rounds
      → summary_of r ≡ deep_summary p budget rounds → u_list r ≡ (kept p budget rounds).multipliers
      → IsDeepAnswer p budget rounds new r
  unfolding deep_drive deep_summary
  is_deep_answer new r d s m =
      let k = kept p budget rounds in
      let h = is_kept in
      let c : (summary_of r).cost ≡ k.cost = ap (λ (x : Summary). x.cost) s in
      let f : (summary_of r).floor ≡ k.floor = ap (λ (x : Summary). x.floor) s in
      let b : (summary_of r).whole ≡ have_met k = ap (λ (x : Summary). x.whole) s in
      let mu : multipliers_of r ≡ u_of k.multipliers = ap u_of m in
      let says = met_says p ok few (rounds - 1) k h in
      let t = told p ok few (rounds - 1) k h in
      record {
        drive_numbering = h.drive_numbering;
        bound_numbering = h.bound_numbering;
        drive = subst⁻¹ (IsRenumberedDrive p (number_in k.drive.numbering.to) k.drive.tries) d t;
        costs = ap (drive_cost p) d ∙ told_cost p ok few (rounds - 1) k h ∙ sym c;
        below_every_drive = λ w g. subst⁻¹ (λ f. f ≤ℤ pos (drive_cost p w)) f (below p ok few (rounds - 1) k h w g);
        above_balancing = subst⁻¹ (λ f. pos (required_cost p + least_balancing p []) ≤ℤ f) f (above p ok few (rounds - 1) k h);
        multipliers = subst⁻¹ (AreMultipliers p) mu (kept_multipliers p ok few (rounds - 1) k h);
        floor_from = elim (floor_found p ok few (rounds - 1) k h) [
          | inl e ↦ inl (f ∙ e ∙ ap pos (sym c))
          | inr e ↦ inr (f ∙ e ∙ ap (bound_under p k.bound.numbering) (sym mu))
        ];
        whole_says = ((λ t. f ∙ says.0 (subst T b t) ∙ ap pos (sym c)), (λ e. subst⁻¹ T b (says.1 (sym f ∙ e ∙ ap pos c))));
        whole_least = λ t w g. subst⁻¹ (λ c. c ≤ drive_cost p w) c (met_least p ok few (rounds - 1) k h (subst T b t) w g);
      }

  -- laid under the numbering of the least cost
  pub is_deep : (old new : List ℕ) (r : Result Planned Refusal) → new ≡ written (deep_drive p budget rounds) old
      → places_of r ≡ length (deep_drive p budget rounds) → verdict_number r ≡ none → summary_of r ≡ deep_summary p budget rounds
      → u_list r ≡ (kept p budget rounds).multipliers → IsDeep p budget rounds none old new r
  unfolding answer fields unless count_unless multipliers_unless written
  is_deep old new r w n v s m =
      let t = deep_drive p budget rounds in
      record {
        verdict = v;
        summary_is = s;
        multipliers_are = m;
        sheet = w;
        places_are = n;
        answered = λ e. is_deep_answer new r (ap₂ take n w ∙ take-append_seam t (drop (length t) old)) s m;
      }

-- ---- what the plan call finds

pub record IsTried (q : Plan) (budget : ℕ) (r : Result Planned Refusal) : Type 0 where
  pub cost_is : (summary_of r).cost ≡ best_cost q budget
  pub floor_is : (summary_of r).floor ≡ floor_of q budget
  pub multipliers_are : u_list r ≡ multipliers_for q
  pub trees_are : (summary_of r).trees ≡ tried_count q budget

pub is_tried : (q : Plan) (budget : ℕ) (refusal : Option ℕ) (old new : List ℕ) (r : Result Planned Refusal)
    → IsPlanned q budget refusal old new r
    → refusal ≡ none → IsTried q budget r
unfolding floor_of summary
is_tried q budget refusal old new r i e =
    let g : verdict_number r ≡ none = i.verdict ∙ e in
    let m = (is_answer _ _ _ _ _ _ i g).multipliers_are in
    record {
      cost_is = cost_is _ _ _ _ _ _ i g;
      floor_is = floor_is _ _ _ _ _ _ i g ∙ ap (λ (u : List ℤ). lower_bound q budget (u_of u)) m;
      multipliers_are = m;
      trees_are = ap (λ (x : Summary). x.trees) (summary_given _ _ _ _ _ _ i g);
    }
