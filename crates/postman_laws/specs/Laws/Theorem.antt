-- THE THEOREM. For every file, budget and sheet that the plan call does not refuse, and every u that meets document 01's conditions: every
-- drive costs at least the lower bound, and the rest of the guarantee. Beside it: 12 is given exactly when no number before it applies and
-- no drive exists, and there is a tree to try.
use Rattle.std.specs.Prelude.{◌≡◌, ◌↔◌, List, [], ◌∷◌, ◌++◌, ℕ, ◌≤◌, ◌<◌, length, T}
use Rattle.std.proofs.Common.{sym, ◌∙◌, inl, inr}
use Rattle.std.proofs.Math.Option.{none, some}
use Rattle.postman.specs.Plan.{Plan, WellFormed, required_arcs}
use Rattle.postman.specs.Refusal.{Conditions, first_refusal}
use Rattle.postman.specs.PlanFile.{plan_of}
use Rattle.postman.specs.Drive.{IsDrive}
use Rattle.postman.specs.Arborescence.{arborescence_count}
use Rattle.postman.specs.LagrangianBound.{Multipliers, AreMultipliers}
use Rattle.postman.specs.PlanCall.{is_cut_off, earlier_conditions, call_refusal}
use Rattle.postman.specs.Guarantee.{Guarantee}
use Rattle.postman.specs.Windows.{Departure, windows_in, plan_at, Avoids, earlier_conditions_at, call_refusal_at}
use Rattle.postman_laws.specs.Laws.Acceptance.{call_conditions_lem, earlier_accepted, call_accepted}
use Rattle.postman_laws.specs.Laws.Refusal.{Other, earlier_other, last_given, given_last}
use Rattle.postman_laws.specs.Laws.Windows.{AcceptedAt, drives, at_conditions, at_other, earlier_accepted_at}
use Rattle.postman.specs.Laws.Tests.{test}
use Rattle.postman_laws.specs.Laws.Existence.{no_drive, a_drive}
use Rattle.postman.specs.Steps.{Plannable}
use Rattle.postman_laws.specs.Laws.Optimality.{some_arborescence, guaranteed}

plannable : (bytes : List ℕ) (budget places : ℕ) → call_refusal bytes budget places ≡ none → Plannable (plan_of bytes)
plannable bytes budget places e =
    let a = call_accepted bytes budget places e in
    record { well_formed = a.earlier.well_formed; some_arc = a.earlier.some_required; connected = a.connected }

-- THE FLOOR
pub floor : (bytes : List ℕ) (budget places : ℕ) → call_refusal bytes budget places ≡ none
    → (u : Multipliers) → AreMultipliers (plan_of bytes) u → Guarantee (plan_of bytes) budget u
floor bytes budget places e u h =
    guaranteed (plan_of bytes) (plannable bytes budget places e) budget (call_accepted bytes budget places e).earlier.some_budget u h

-- N ≥ 1 where nothing is refused
pub some_tree : (bytes : List ℕ) (budget places : ℕ) → call_refusal bytes budget places ≡ none → 1 ≤ arborescence_count (plan_of bytes)
some_tree bytes budget places e = some_arborescence (plan_of bytes) (plannable bytes budget places e)

-- "12 is given exactly when no number before it in the call's order applies and no drive exists": of any
-- conditions without 12 that make sure of a plan,
module _ (cs : Conditions) (p : Plan) (other : Other 12 cs)
    (sure : first_refusal cs ≡ none → WellFormed p × (0 < length (required_arcs p))) where
  pub last_cut_off : (first_refusal (cs ++ (is_cut_off p, 12) ∷ []) ≡ some 12) ↔ ((first_refusal cs ≡ none)
      × ((w : List ℕ) → IsDrive p w → ⊥))
  last_cut_off = (refused, given)
    where
      refused : first_refusal (cs ++ (is_cut_off p, 12) ∷ []) ≡ some 12 → (first_refusal cs ≡ none) × ((w : List ℕ) → IsDrive p w → ⊥)
      refused e = let r = last_given cs (is_cut_off p) 12 other e in (r.0, no_drive p (sure r.0).0 r.1)

      given : (first_refusal cs ≡ none) × ((w : List ℕ) → IsDrive p w → ⊥) → first_refusal (cs ++ (is_cut_off p, 12) ∷ []) ≡ some 12
      given h =
          let a = sure h.0 in
          let t : T (is_cut_off p) =
          (elim (test (is_cut_off p)) [ inl t ↦ t | inr s ↦ let w = a_drive p a.0 s a.1 in absurd (h.1 w.0 w.1) ]) in
          given_last cs (is_cut_off p) 12 h.0 t

-- and so of the plan call
pub cut_off : (bytes : List ℕ) (budget places : ℕ)
    → (call_refusal bytes budget places ≡ some 12)
    ↔ ((first_refusal (earlier_conditions bytes budget places) ≡ none) × ((w : List ℕ) → IsDrive (plan_of bytes) w → ⊥))
cut_off bytes budget places =
    let r = last_cut_off (earlier_conditions bytes budget places) (plan_of bytes) (earlier_other bytes budget places) (λ e.
    (let a = earlier_accepted bytes budget places e in (a.well_formed, a.some_required))) in
    ((λ e. r.0 (sym (call_conditions_lem bytes budget places) ∙ e)), (λ h. call_conditions_lem bytes budget places ∙ r.1 h))

-- and of the call at a departure: no drive exists that avoids the arcs shut
pub cut_off_at : (bytes : List ℕ) (budget places : ℕ) (numbers : List ℕ) (d : Departure)
    → (call_refusal_at bytes budget places numbers d ≡ some 12)
    ↔ ((first_refusal (earlier_conditions_at bytes budget places numbers d) ≡ none)
    × ((w : List ℕ) → IsDrive (plan_of bytes) w → Avoids (windows_in numbers) d w → ⊥))
cut_off_at bytes budget places numbers d =
    let p = plan_of bytes in
    let ws = windows_in numbers in
    let sure : first_refusal (earlier_conditions_at bytes budget places numbers d) ≡ none → AcceptedAt bytes budget places numbers d =
    earlier_accepted_at bytes budget places numbers d in
    let r = last_cut_off (earlier_conditions_at bytes budget places numbers d) (plan_at p ws d) (at_other bytes budget places numbers d)
    (λ e.
    ((sure e).well_formed, (sure e).before.some_required)) in
    let c = at_conditions bytes budget places numbers d in (
      λ e. let h = r.0 (sym c ∙ e) in (h.0, λ w t a. h.1 w ((drives p ws d (sure h.0).none_shut w).1 (t, a))),
      λ h. c ∙ r.1 (h.0, λ w t. let g = (drives p ws d (sure h.0).none_shut w).0 t in h.1 w g.0 g.1),
    )
