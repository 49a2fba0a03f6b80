-- What the code of a round makes is what the definitions say: over the values that its functions answer.
use Rattle.std.specs.Prelude.{◌≡◌, Bool, true, false, List, ℕ, suc, ◌+◌, ◌-◌, ◌≤◌, ◌<◌, min, ℤ, pos}
use Rattle.std.proofs.Common.{sym, ap, ap₂, ◌∙◌}
use Rattle.std.proofs.Math.Path.{subst⁻¹}
use Rattle.std.proofs.Math.Option.{none}
use Rattle.std.proofs.Math.Decide.{dec_lt}
use native.Mathlib.Omega.{arith}
use Rattle.std.specs.Int.Signed.{le_z}
use Rattle.postman.specs.Plan.{Plan, WellFormed}
use Rattle.postman.specs.Component.{component_count}
use Rattle.postman.specs.Arborescence.{arborescence_count}
use Rattle.postman.specs.PlanCall.{best_cost, tried_count}
use Rattle.postman.specs.Steps.{Plannable}
use Rattle.small_counts.specs.Matrix.{cap}
use Rattle.multipliers.specs.Ascent.{multipliers_for}
use Rattle.tree_search.specs.Laws.BestTree.{cost_small}
use Rattle.tree_search.specs.Laws.Resumed.{total_is, tried_within}
use Rattle.held_tree.specs.declared.cheaper.Found.{Found}
use Rattle.held_tree.specs.Cheaper.{IsBest, IsCheaper}
use Rattle.call_steps.specs.Refusals.{plan_refusal}
use Rattle.renumbering.specs.Renumbered.{carried_in}
use Rattle.round_rule.specs.declared.kept.Kept.{Kept}
use Rattle.round_rule.specs.declared.trial.Trial.{Trial}
use Rattle.round_rule.specs.declared.trial.Chosen.{Chosen}
use Rattle.round_rule.specs.Rounds.{under, floor_of, cost_of, floor_under, carried_back, left_of, new_trees, begun, with_drive, with_floor, with_base, counted, have_met, next_round, round_with, next_kept, kept_after}
use Rattle.round_rule.specs.Trial.{IsTrial}
use Rattle.round_rule.specs.Laws.Tables.{plan_accepted, under_few, under_plannable}
use Rattle.round_rule.specs.Laws.Kept.{IsKept, after_kept, met_stays, one_round}
use Rattle.round_rule.specs.Laws.Made.{kept_from, drive_left}

-- one of two, by two numbers
-- ---- one round

-- a drive that is no cheaper changes nothing, whatever it costs
drive_same : (p : Plan) (x : Trial) (k : Kept) (a : Found) → IsCheaper (under p x.numbering) k.cost x.tries a
    → with_drive x a.best.cost k ≡ with_drive x (cost_of p x) k
drive_same p x k a h = elim (dec_lt (cost_of p x) k.cost) [
  | yes l ↦ ap (λ (c : ℕ). with_drive x c k) (h.cheaper l).cost_is
  | no l ↦ (let e = h.none_cheaper (omega arith) in
      sym (drive_left x k a.best.cost (omega arith)) ∙ drive_left x k (cost_of p x) (omega arith))
]

pub next_as : (p : Plan) (budget round : ℕ) (k : Kept) (s : Chosen) (a : Found) (old : ℕ) (r : Kept) → s ≡ next_round p budget round k
    → IsCheaper (under p s.trial.numbering) k.cost s.trial.tries a
    → old ≡ tried_count (under p s.trial.numbering) (s.trial.tries - budget) → r ≡ kept_from s a (a.best.tried - old) k
    → r ≡ next_kept p budget round k
unfolding next_kept round_with new_trees left_of floor_of
next_as p budget round k s a old r es h eg er =
    let x = s.trial in
    let q = under p x.numbering in
    let random = s.random in
    let n : ℕ = tried_count q x.tries - tried_count q (x.tries - budget) in
    let c = with_drive x a.best.cost k in
    let u = carried_in x.numbering.to a.multipliers in
    let l = a.number - x.tries in
    let l' = min (arborescence_count q) cap - x.tries in
    let e1 : r ≡ counted n random (with_base x l (with_floor x a.floor u c)) =
    er ∙ ap₂ (λ (i j : ℕ). counted (i - j) random (with_base x l (with_floor x a.floor u c))) h.tried_is eg in
    let e2 : r ≡ counted n random (with_base x l' (with_floor x a.floor u c)) =
    e1 ∙ ap (λ (i : ℕ). counted n random (with_base x (i - x.tries) (with_floor x a.floor u c))) h.number_is in
    let e3 : r ≡ counted n random (with_base x l' (with_floor x (floor_under p x) u c)) =
    e2 ∙ ap (λ (f : ℤ). counted n random (with_base x l' (with_floor x f u c))) h.floor_is in
    let e4 : r ≡ counted n random (with_base x l' (with_floor x (floor_under p x) (carried_back p x) c)) =
    e3 ∙ ap (λ (v : List ℤ). counted n random (with_base x l' (with_floor x (floor_under p x) (carried_in x.numbering.to v) c)))
    h.multipliers_are in
    let e5 : r ≡ round_with p budget s k =
    e4 ∙ ap (λ (m : Kept). counted n random (with_base x l' (with_floor x (floor_under p x) (carried_back p x) m))) (drive_same p x k a h)
    in
    e5 ∙ ap (λ (s : Chosen). round_with p budget s k) es

-- the trees that were tried before, by how many there are; and those that are counted
module _ (q : Plan) (cost before tries : ℕ) (a : Found) (h : IsCheaper q cost tries a) (fit : before ≤ tries)
    (few : tries ≤ 1000000000) (old : ℕ) (e : old ≡ min before a.number) where
  pub old_tried : old ≡ tried_count q before
  old_tried = let small : before < cap = omega arith in total_is q before a.number small h.number_is old e

  pub old_fewer : old ≤ a.best.tried
  unfolding tried_count
  old_fewer = let o = old_tried in let t = h.tried_is in omega arith

pub few_tried : (q : Plan) (cost tries : ℕ) (a : Found) → tries ≤ 1000000000 → IsCheaper q cost tries a → a.best.tried ≤ 1000000000
few_tried q cost tries a low h = let t = tried_within q tries in let e = h.tried_is in omega arith

-- ---- all rounds

pub first_kept : (p : Plan) (budget cost : ℕ) (a : Found) (k : Kept) → IsCheaper p cost budget a → IsBest p budget a.best
    → k ≡ begun budget a.best.cost a.floor a.multipliers (a.number - budget) a.best.tried → k ≡ kept_after p budget 0
unfolding kept_after left_of floor_of
first_kept p budget cost a k h b e =
    let l = min (arborescence_count p) cap - budget in
    e
    ∙ ap (λ (n : ℕ). begun budget n a.floor a.multipliers (a.number - budget) a.best.tried) b.cost_is
    ∙ ap (λ (f : ℤ). begun budget (best_cost p budget) f a.multipliers (a.number - budget) a.best.tried) h.floor_is
    ∙ ap (λ (u : List ℤ). begun budget (best_cost p budget) (floor_of p budget) u (a.number - budget) a.best.tried) h.multipliers_are
    ∙ ap (λ (n : ℕ). begun budget (best_cost p budget) (floor_of p budget) (multipliers_for p) (n - budget) a.best.tried) h.number_is
    ∙ ap (λ (n : ℕ). begun budget (best_cost p budget) (floor_of p budget) (multipliers_for p) l n) h.tried_is

pub met_as : (k : Kept) (b v : Bool) (f : ℤ) → f ≡ k.floor → b ≡ le_z (pos k.cost) f → b ≡ v → have_met k ≡ v
unfolding have_met
met_as k b v f g e h = ap (le_z (pos k.cost)) (sym g) ∙ sym e ∙ h

module _ (p : Plan) (budget : ℕ) where
  pub deeper : (i : ℕ) (k s : Kept) → 1 ≤ i → k ≡ kept_after p budget (i - 1) → have_met k ≡ false → s ≡ next_kept p budget (i + 1) k
      → s ≡ kept_after p budget (i + 1 - 1)
  deeper i k s l e f g =
      let a : i + 1 ≡ i - 1 + 2 = omega arith in
      let b : suc (i - 1) ≡ i + 1 - 1 = omega arith in
      g ∙ ap (λ n. next_kept p budget n k) a ∙ ap (next_kept p budget (i - 1 + 2)) e
      ∙ sym (one_round p budget (i - 1) (ap have_met (sym e) ∙ f)) ∙ ap (kept_after p budget) b

  pub ended : (i rounds : ℕ) (k : Kept) → 1 ≤ i → i ≤ rounds → k ≡ kept_after p budget (i - 1) → have_met k ≡ true
      → k ≡ kept_after p budget (rounds - 1)
  ended i rounds k l m e f =
      let a : rounds - i + (i - 1) ≡ rounds - 1 = omega arith in
      e ∙ sym (met_stays p budget (i - 1) (rounds - i) (ap have_met (sym e) ∙ f)) ∙ ap (kept_after p budget) a

-- no cost that is kept is large
cost_low : (p : Plan) → Plannable p → component_count p ≤ 8 → (r : ℕ) (k : Kept) → IsKept p r k → k.cost ≤ 1131527310
cost_low p ok few r k h =
    let e = h.cost_is in
    let l = cost_small (under p k.drive.numbering) (under_plannable p ok k.drive.numbering h.drive_numbering)
    (under_few p ok.well_formed k.drive.numbering h.drive_numbering few) k.drive.tries h.drive_tries in
    omega arith

module _ (p : Plan) (ok : WellFormed p) (accepted : plan_refusal p ≡ none) (budget : ℕ) (some-trees : 1 ≤ budget)
    (low : budget ≤ 1000000) where
  pub is_kept_after : (r : ℕ) (k : Kept) → r < 1000 → k ≡ kept_after p budget r → IsKept p r k
  is_kept_after r k l e = let a = plan_accepted p ok accepted in
      subst⁻¹ (IsKept p r) e (after_kept p a.0 a.1 budget some-trees low r l)

  pub cost_fits : (r : ℕ) (k : Kept) → r < 1000 → k ≡ kept_after p budget r → k.cost ≤ 4611686018427387904
  cost_fits r k l e = let a = plan_accepted p ok accepted in let c = cost_low p a.0 a.1 r k (is_kept_after r k l e) in omega arith

  -- what a drive that is kept was found with
  pub kept_trial : (r : ℕ) (k : Kept) → r < 1000 → k ≡ kept_after p budget r → IsTrial p k.drive
  kept_trial r k l e = let h = is_kept_after r k l e in
      record { numbers = h.drive_numbering; some_tries = h.drive_tries; few_tries = h.drive_few }
