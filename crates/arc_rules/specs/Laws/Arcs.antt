-- The conditions of an arc, of its parts: the test of a standing by its kind is the test of its number.
use Rattle.std.specs.Prelude.{◌≡◌, Bool, cond, ◌||◌, ℕ, eqb, leb}
use Rattle.std.proofs.Common.{ap, ap₂, ◌∙◌}
use mathlib.Core.List.{[], ◌∷◌, flat_map}
use Rattle.std.proofs.Math.Option.{none, some}
use Rattle.postman.specs.Plan.{Arc, Plan}
use Rattle.postman.specs.Refusal.{first_refusal}
use Rattle.postman.specs.PlanFile.{implied_service, is_mispriced, arc_conditions, arcs_conditions, has_repeated, plan_conditions}
use Rattle.postman_laws.specs.Laws.Refusal.{first_on, first_stop}
use Rattle.plan.specs.declared.Standing.{Standing}
use Rattle.plan.specs.Standings.{standing_of, is_must_standing, is_refused_standing, refused_above, must_test}
use Rattle.arc_rules.specs.declared.rules.Fields.{Fields}
use Rattle.arc_rules.specs.Fields.{fields_arc, mispriced, field_conditions}

price_parts : (e : ℕ) (a : Arc) (must : Bool) → must ≡ eqb a.standing 1 → mispriced e must a.cost a.service ≡ is_mispriced e a
unfolding is_mispriced implied_service
price_parts e a must q = rw q

pub arc_parts : (e n : ℕ) (f : Fields) (standing : Standing) → standing ≡ standing_of f.standing
    → first_refusal (field_conditions e n f standing) ≡ first_refusal (arc_conditions e n (fields_arc f))
unfolding arc_conditions
arc_parts e n f standing s =
    let price = price_parts e (fields_arc f) (is_must_standing standing) (must_test f.standing standing s) in
    let kind = ap is_refused_standing s ∙ refused_above f.standing in
    ap₂ (λ (x y : Bool). first_refusal ((leb n f.tail || leb n f.head, 5) ∷ (x, 6) ∷ (y, 7) ∷ [])) price kind

-- All arcs together, once each of them has passed; or the first that has not.
module _ (e : ℕ) (p : Plan) where
  pub passed_arcs : first_refusal (flat_map (arc_conditions e p.n) p.arcs) ≡ none
      → first_refusal (plan_conditions e p) ≡ cond (has_repeated p.arcs) (some 13) none
  unfolding first_refusal plan_conditions arcs_conditions
  passed_arcs h = first_on (flat_map (arc_conditions e p.n) p.arcs) _ h

  pub refused_arc : (r : ℕ) → first_refusal (flat_map (arc_conditions e p.n) p.arcs) ≡ some r
      → first_refusal (plan_conditions e p) ≡ some r
  unfolding plan_conditions arcs_conditions
  refused_arc r h = first_stop (flat_map (arc_conditions e p.n) p.arcs) _ r h
