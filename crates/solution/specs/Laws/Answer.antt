-- The answer put together: its fields are those of the definition, its drive is the written one,
-- and the guarantee is the theorem of the floor.
use Rattle.std.specs.Prelude.{◌≡◌, refl, Result, Ok, Bool, cond, ℕ, ◌≤◌, length, ◌≤ℤ◌}
use Rattle.std.proofs.Common.{sym, ◌∙◌}
use Rattle.std.proofs.Math.Path.{ap, subst⁻¹}
use mathlib.Core.List.{List}
use Rattle.std.proofs.Math.Option.{none, some-ne-none}
use Rattle.std.proofs.Math.ListN.{get_or}
use Rattle.std.proofs.Math.IntN.{ℤ, pos}
use Rattle.postman.specs.Lists.{maxℤ}
use Rattle.postman.specs.Plan.{Plan}
use Rattle.postman.specs.Refusal.{answer, unless}
use Rattle.postman.specs.Link.{Link}
use Rattle.postman.specs.Component.{component_count}
use Rattle.postman.specs.LagrangianBound.{AreMultipliers, lagrangian_bound}
use Rattle.postman.specs.PlanCall.{Summary, summary, fields, tried_count, is_whole, best_cost, best_arborescence, lower_bound, IsAnswerDrive}
use Rattle.postman.specs.Steps.{Plannable}
use Rattle.postman_laws.specs.Laws.Optimality.{guaranteed}
use Rattle.drive_legs.specs.Drive.{written}
use Rattle.tree_search.specs.declared.improve.Searched.{Searched}
use Rattle.tree_search.specs.Improved.{IsSearched}
use Rattle.solution.specs.declared.Planned.{Planned}
use Rattle.refusal.specs.declared.Refusal.{Refusal}
use Rattle.refusal.specs.Verdict.{verdict_number}
use Rattle.multipliers.specs.Drive.{tree_drive, drive_of}
use Rattle.solution.specs.Planned.{summary_of, places_of, u_list, multipliers_of, count_unless, IsPlanned}
use Rattle.solution.specs.Concluded.{concluded, links_found, IsConcluded}
use Rattle.multipliers.specs.Ascent.{multipliers_for}
use Rattle.multipliers.specs.Laws.Ascent.{answered_rooted, answered_above}
use Rattle.multipliers.specs.Laws.Drive.{answer_drive}

module _ (p : Plan) (ok : Plannable p) (few : component_count p ≤ 8) (budget : ℕ) (some : 1 ≤ budget) where
  drive : IsAnswerDrive p budget (drive_of p budget)
  drive = answer_drive p ok few budget some

  -- ---- the answer

  lawful : (r : Result Planned Refusal) → u_list r ≡ multipliers_for p → AreMultipliers p (multipliers_of r)
  lawful r g = subst⁻¹ (λ (u : List ℤ). AreMultipliers p (λ i. get_or u i (pos 0))) g (answered_rooted p ok few).multipliers

  pub is_planned : (old new : List ℕ) (r : Result Planned Refusal) → verdict_number r ≡ none → u_list r ≡ multipliers_for p
      → summary_of r ≡ summary p budget (multipliers_of r)
      → new ≡ written (drive_of p budget) old → places_of r ≡ length (drive_of p budget) → IsPlanned p budget none old new r
  unfolding answer fields unless count_unless
  is_planned old new r v g s w n = record {
    verdict = v;
    summary_is = s;
    sheet = w;
    places_are = n;
    no_multipliers = λ k e. absurd (some-ne-none k (sym e));
    answered = λ e. record {
      plannable = ok;
      some_budget = some;
      multipliers = lawful r g;
      multipliers_are = g;
      above_greatest =
          λ v h. subst⁻¹ (λ (u : List ℤ). lagrangian_bound p v ≤ℤ lagrangian_bound p (λ i. get_or u i (pos 0))) g
          (answered_above p ok few v h);
      drive = drive;
      guarantee = guaranteed p ok budget some (multipliers_of r) (lawful r g);
    };
  }

  -- ---- the answer from what the search, the drive and the bound answer

  abbrev fields_of : ℕ → ℤ → ℕ → Bool → ℕ → Summary
  fields_of c f t w k = record { cost = c; floor = f; trees = t; whole = w; parts = k }

  pub found_summary : (r : Planned) → r.cost ≡ best_cost p budget → r.trees ≡ tried_count p budget → r.whole ≡ is_whole p budget
      → r.parts ≡ component_count p
      → r.floor ≡ cond r.whole (pos r.cost) (maxℤ (lagrangian_bound p (λ i. pos 0)) (lagrangian_bound p (multipliers_of (Ok r))))
      → summary_of (Ok r) ≡ summary p budget (multipliers_of (Ok r))
  unfolding summary lower_bound
  found_summary r ec et ew ek ef =
      let b : ℤ = maxℤ (lagrangian_bound p (λ i. pos 0)) (lagrangian_bound p (multipliers_of (Ok r))) in
      ap (λ (f : ℤ). fields_of r.cost f r.trees r.whole r.parts) ef
      ∙ ap (λ (c : ℕ). fields_of c (cond r.whole (pos c) b) r.trees r.whole r.parts) ec
      ∙ ap (λ (w : Bool). fields_of (best_cost p budget) (cond w (pos (best_cost p budget)) b) r.trees w r.parts) ew
      ∙ ap (λ (t : ℕ). fields_of (best_cost p budget) (cond (is_whole p budget) (pos (best_cost p budget)) b) t (is_whole p budget)
      r.parts) et
      ∙ ap (λ (k : ℕ). fields_of (best_cost p budget) (cond (is_whole p budget) (pos (best_cost p budget)) b) (tried_count p budget)
      (is_whole p budget) k) ek

  laid_best : (t : List Link) → t ≡ best_arborescence p budget → tree_drive p t ≡ drive_of p budget
  unfolding drive_of
  laid_best t e = ap (tree_drive p) e

  -- WHERE THE TREE THAT IS HELD IS THE BEST, THE ANSWER IS THE DEFINITION'S
  pub concluded_best : (t : List Link) (cost trees : ℕ) (whole : Bool) (old new : List ℕ) → t ≡ best_arborescence p budget
      → cost ≡ best_cost p budget → trees ≡ tried_count p budget → whole ≡ is_whole p budget
      → new ≡ written (tree_drive p t) old → IsPlanned p budget none old new (Ok (concluded p t cost trees whole))
  concluded_best t cost trees whole old new et ec en ew h =
      let x : Planned = concluded p t cost trees whole in
      let l = laid_best t et in
      is_planned old new (Ok x) refl refl (found_summary x ec en ew refl refl) (h ∙ ap (λ (t : List ℕ). written t old) l) (ap length l)

  pub concluded_planned : (s : Searched) (old new : List ℕ) (r : Planned) → IsSearched p budget s → IsConcluded p s old new r
      → IsPlanned p budget none old new (Ok r)
  concluded_planned s old new r f h =
      subst⁻¹ (λ (r : Planned). IsPlanned p budget none old new (Ok r)) h.planned
      (concluded_best (links_found p s) s.cost s.tried s.whole old new f.links f.cost f.tried f.whole h.sheet)
