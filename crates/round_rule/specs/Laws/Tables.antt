-- The plan under a numbering: it is well formed, refused as the plan is, and its tables are the plan's, renumbered.
use Rattle.std.specs.Prelude.{◌≡◌, List, [], ◌∷◌, ◌≢◌, ℕ, ◌≤◌, ◌<◌, length, get_or, eqb, ltb}
use Rattle.std.proofs.Common.{sym, ap, ◌∙◌, arith, nltb→le}
use Rattle.std.proofs.Math.Path.{subst⁻¹}
use Rattle.std.proofs.lemmas.Simd.{map-map}
use Rattle.std.proofs.Math.Option.{none}
use Rattle.postman.specs.Plan.{Arc, Plan, WellFormed, required_arcs}
use Rattle.postman.specs.Refusal.{first_refusal}
use Rattle.postman.specs.Component.{component_count}
use Rattle.postman.specs.PlanCall.{is_cut_off, parts_conditions}
use Rattle.postman.specs.Renumbering.{number_in, renumbered_arc, renumbered}
use Rattle.postman.specs.Laws.Tests.{eqb_other}
use Rattle.postman_laws.specs.Laws.Refusal.{accepted_cons, accepted_append}
use Rattle.postman.specs.Steps.{Plannable}
use Rattle.postman_laws.specs.Laws.Renumbering.{renumbered_well_formed}
use Rattle.postman_laws.specs.Laws.RenumberedDistance.{table_renumbered}
use Rattle.postman_laws.specs.Laws.RenumberedComponents.{count_renumbered, last_renumbered, plannable_renumbered}
use Rattle.shortest.specs.Weight.{heavy, weighted}
use Rattle.shortest.specs.StepContracts.{IsTable, AreWeights}
use Rattle.multipliers.specs.Drive.{table_of}
use Rattle.multipliers.specs.Laws.Table.{table_is}
use Rattle.multipliers.specs.Laws.Drive.{is_table}
use Rattle.call_steps.specs.Refusals.{plan_refusal}
use Rattle.call_steps.specs.Laws.Call.{parts_refusal}
use Rattle.renumbering.specs.declared.numbering.Numbering.{Numbering}
use Rattle.renumbering.specs.Numbering.{IsNumberingOf}
use Rattle.renumbering.specs.Renumbered.{Inside, IsRenumberedTable}
use Rattle.renumbering.specs.Laws.Numbering.{to_inside, from_inside}
use Rattle.round_rule.specs.Rounds.{under}

-- ---- a plan that is not refused

pub plan_accepted : (p : Plan) → WellFormed p → plan_refusal p ≡ none → Plannable p × (component_count p ≤ 8)
unfolding parts_conditions
plan_accepted p w e =
    let all = accepted_append (parts_conditions p) ((is_cut_off p, 12) ∷ []) (parts_refusal p w ∙ e) in
    let ten = accepted_cons (eqb (length (required_arcs p)) 0) 10 ((ltb 8 (component_count p), 11) ∷ []) all.0 in
    let eleven = accepted_cons (ltb 8 (component_count p)) 11 [] ten.1 in
    let twelve = accepted_cons (is_cut_off p) 12 [] all.1 in
    let some : length (required_arcs p) ≢ 0 = eqb_other ten.0 in
    (record { well_formed = w; some_arc = omega arith; connected = twelve.0 }, nltb→le 8 (component_count p) eleven.0)

-- ---- under a numbering

module _ (p : Plan) (ok : WellFormed p) (x : Numbering) (h : IsNumberingOf p.n x) where
  pub inside_from : Inside x.from
  inside_from = (h.long_from, from_inside p.n _ _ h.numbers ok.vertices)

  pub inside_to : Inside x.to
  inside_to = (h.long_to, to_inside p.n _ _ h.numbers ok.vertices)

  pub under_well_formed : WellFormed (under p x)
  under_well_formed = renumbered_well_formed p h.numbers ok

  pub under_refusal : plan_refusal (under p x) ≡ plan_refusal p
  under_refusal =
      sym (parts_refusal (under p x) under_well_formed) ∙ ap first_refusal (last_renumbered p h.numbers ok) ∙ parts_refusal p ok

  pub under_few : component_count p ≤ 8 → component_count (under p x) ≤ 8
  under_few few = let e = count_renumbered p ok h.numbers in omega arith

  pub under_table : (t s : List (List ℕ)) → t ≡ table_of p → length s ≡ 64 → ((i : ℕ) → i < 64 → length (get_or s i []) ≡ 64)
      → IsRenumberedTable x.from t s → s ≡ table_of (under p x)
  under_table t s e long rows f =
      table_is (under p x) s long rows (table_renumbered p h.numbers 64 ok.vertices t s (is_table p t e) (λ i j a b. f i a j b))

  weighted_under : weighted (under p x) ≡ renumbered (weighted p) (number_in x.to)
  weighted_under =
      let π = number_in x.to in
      ap (λ (arcs : List Arc). record { n = p.n; arcs = arcs })
      (map-map heavy (renumbered_arc π) p.arcs ∙ sym (map-map (renumbered_arc π) heavy p.arcs))

  pub under_weights : (t s : List (List ℕ)) → AreWeights p t → IsRenumberedTable x.from t s → AreWeights (under p x) s
  under_weights t s e f =
      subst⁻¹ (λ (r : Plan). IsTable r s) weighted_under
      (table_renumbered (weighted p) h.numbers 64 ok.vertices t s e (λ i j a b. f i a j b))

pub under_plannable : (p : Plan) (ok : Plannable p) (x : Numbering) → IsNumberingOf p.n x → Plannable (under p x)
under_plannable p ok x h = plannable_renumbered p h.numbers ok
