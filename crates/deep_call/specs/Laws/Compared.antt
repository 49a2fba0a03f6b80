-- Calls compared. After one round what is kept is what the plan call answers; after more it is no worse, and once floor and cost have met
-- it stays.
use Rattle.std.specs.Prelude.{◌≡◌, true, ℕ, ◌+◌, ◌-◌, ◌≤◌, drop, ◌≤ℤ◌, Result}
use Rattle.std.proofs.Math.Path.{refl, sym, ap, ap₂, subst}
use Rattle.std.proofs.Common.{◌∙◌}
use mathlib.Core.List.{List, [], ◌∷◌}
use Rattle.std.proofs.Math.Option.{Option, none, some}
use native.Mathlib.Omega.{arith}
use Rattle.std.proofs.Math.ListN.{length, take}
use Rattle.std.proofs.Math.Seq.{take-append_seam}
use Rattle.postman.specs.Plan.{Plan}
use Rattle.postman.specs.Refusal.{first_refusal, answer, unless}
use Rattle.postman.specs.PlanFile.{file_conditions, is_outside, plan_of}
use Rattle.postman.specs.Component.{component_count}
use Rattle.postman.specs.PlanCall.{Summary, summary, fields, best_cost, tried_count, highest_budget, is_cut_off}
use Rattle.postman_laws.specs.Laws.Refusal.{accepted_cons, accepted_append}
use Rattle.postman_laws.specs.Laws.Acceptance.{before_accepted, file_accepted}
use Rattle.postman.specs.Steps.{Plannable}
use Rattle.multipliers.specs.Ascent.{multipliers_for}
use Rattle.multipliers.specs.Drive.{drive_of}
use Rattle.drive_legs.specs.Drive.{written}
use Rattle.refusal.specs.declared.Refusal.{Refusal}
use Rattle.solution.specs.declared.Planned.{Planned}
use Rattle.solution.specs.Planned.{summary_of, count_unless, IsPlanned, places_of, u_list}
use Rattle.round_rule.specs.declared.kept.Kept.{Kept}
use Rattle.round_rule.specs.Rounds.{under, floor_of, begun, have_met, kept_after, kept, deep_summary, deep_drive}
use Rattle.deep_call.specs.Refusals.{highest_rounds, round_conditions, earlier_conditions_in, deep_refusal}
use Rattle.deep_call.specs.Contract.{multipliers_unless, IsDeep}
use Rattle.deep_call.specs.Compared.{SameButWhole}
use Rattle.round_rule.specs.Laws.Kept.{under_unchanged, more_better, met_stays}
use Rattle.deep_call.specs.Laws.Answer.{is_tried}
use Rattle.deep_call.specs.Laws.Call.{rounds_good, rounds_accepted}

-- ---- what is read off an answer that is no refusal

module _ (p : Plan) (budget rounds : ℕ) (old new : List ℕ) (r : Result Planned Refusal) (i : IsDeep p budget rounds none old new r) where
  pub summary_deep : summary_of r ≡ deep_summary p budget rounds
  unfolding answer fields
  summary_deep = i.summary_is

  pub cost_deep : (summary_of r).cost ≡ (kept p budget rounds).cost
  unfolding deep_summary
  cost_deep = ap (λ (x : Summary). x.cost) summary_deep

  pub floor_deep : (summary_of r).floor ≡ (kept p budget rounds).floor
  unfolding deep_summary
  floor_deep = ap (λ (x : Summary). x.floor) summary_deep

  pub whole_deep : (summary_of r).whole ≡ have_met (kept p budget rounds)
  unfolding deep_summary
  whole_deep = ap (λ (x : Summary). x.whole) summary_deep

  pub multipliers_deep : u_list r ≡ (kept p budget rounds).multipliers
  unfolding multipliers_unless
  multipliers_deep = i.multipliers_are

  pub drive_deep : take (places_of r) new ≡ deep_drive p budget rounds
  unfolding unless count_unless written
  drive_deep =
      ap₂ take i.places_are i.sheet ∙ take-append_seam (deep_drive p budget rounds) (drop (length (deep_drive p budget rounds)) old)

-- ---- a call that is not refused

pub record DeepAccepted (bytes : List ℕ) (budget rounds : ℕ) : Type 0 where
  pub file : first_refusal (file_conditions bytes) ≡ none
  pub plannable : Plannable (plan_of bytes)
  pub few : component_count (plan_of bytes) ≤ 8
  pub some_budget : 1 ≤ budget
  pub low : budget ≤ 1000000
  pub few_rounds : rounds ≤ 1000

module _ (bytes : List ℕ) (budget rounds places : ℕ) (e : deep_refusal bytes budget rounds places ≡ none) where
  abbrev p : Plan
  p = plan_of bytes

  all : (first_refusal (earlier_conditions_in bytes budget rounds places) ≡ none) × (first_refusal ((is_cut_off p, 12) ∷ []) ≡ none)
  unfolding deep_refusal
  all = accepted_append (earlier_conditions_in bytes budget rounds places) ((is_cut_off p, 12) ∷ []) e

  pub deep_accepted : DeepAccepted bytes budget rounds
  unfolding earlier_conditions_in highest_budget
  deep_accepted =
      let b = before_accepted bytes budget places (round_conditions rounds) p all.0 in
      record {
        file = b.file;
        plannable = record {
          well_formed = file_accepted bytes b.file;
          some_arc = b.some_required;
          connected = (accepted_cons (is_cut_off p) 12 [] all.1).0;
        };
        few = b.components;
        some_budget = b.some_budget;
        low = b.budget;
        few_rounds = rounds_accepted rounds b.own_accepted;
      }

-- ---- one round

module _ (p : Plan) (budget : ℕ) where
  pub first_drive : deep_drive p budget 1 ≡ drive_of p budget
  unfolding deep_drive kept kept_after begun
  first_drive = ap (λ (q : Plan). drive_of q budget) (under_unchanged p)

  pub first_cost : (kept p budget 1).cost ≡ best_cost p budget
  unfolding kept kept_after begun
  first_cost = refl

  pub first_floor : (kept p budget 1).floor ≡ floor_of p budget
  unfolding kept kept_after begun
  first_floor = refl

  first_trees : (deep_summary p budget 1).trees ≡ tried_count p budget
  unfolding deep_summary kept kept_after begun
  first_trees = refl

  first_parts : (deep_summary p budget 1).parts ≡ component_count p
  unfolding deep_summary
  first_parts = refl

  first_multipliers : (kept p budget 1).multipliers ≡ multipliers_for p
  unfolding kept kept_after begun
  first_multipliers = refl

  module _ (old new new' : List ℕ) (r s : Result Planned Refusal) where
    pub same : (o : Option ℕ) → IsDeep p budget 1 o old new r → IsPlanned p budget o old new' s → SameButWhole r s × (new ≡ new')
    unfolding answer fields unless count_unless multipliers_unless summary
    same none i j =
        let t = is_tried p budget none old new' s j refl in (
          record {
            refusal = i.verdict ∙ sym j.verdict;
            places = i.places_are ∙ ap length first_drive ∙ sym j.places_are;
            cost = cost_deep p budget 1 old new r i ∙ first_cost ∙ sym t.cost_is;
            floor = floor_deep p budget 1 old new r i ∙ first_floor ∙ sym t.floor_is;
            trees = ap (λ (x : Summary). x.trees) i.summary_is ∙ first_trees ∙ sym t.trees_are;
            parts = ap (λ (x : Summary). x.parts) i.summary_is ∙ first_parts ∙ sym (ap (λ (x : Summary). x.parts) j.summary_is);
            multipliers = i.multipliers_are ∙ first_multipliers ∙ sym t.multipliers_are;
          },
          i.sheet ∙ ap (λ (w : List ℕ). written w old) first_drive ∙ sym j.sheet,
        )
    same (some k) i j = (
      record {
        refusal = i.verdict ∙ sym j.verdict;
        places = i.places_are ∙ sym j.places_are;
        cost = ap (λ (x : Summary). x.cost) i.summary_is ∙ sym (ap (λ (x : Summary). x.cost) j.summary_is);
        floor = ap (λ (x : Summary). x.floor) i.summary_is ∙ sym (ap (λ (x : Summary). x.floor) j.summary_is);
        trees = ap (λ (x : Summary). x.trees) i.summary_is ∙ sym (ap (λ (x : Summary). x.trees) j.summary_is);
        parts = ap (λ (x : Summary). x.parts) i.summary_is ∙ sym (ap (λ (x : Summary). x.parts) j.summary_is);
        multipliers = i.multipliers_are ∙ sym (j.no_multipliers k refl);
      },
      i.sheet ∙ sym j.sheet,
    )

pub one_good : first_refusal (round_conditions 1) ≡ none
unfolding is_outside highest_rounds
one_good = rounds_good 1 refl

-- ---- more rounds

module _ (bytes : List ℕ) (budget y : ℕ) (a : DeepAccepted bytes budget y) where
  pub kept_better : (x : ℕ) → x ≤ y
      → ((kept (plan_of bytes) budget y).cost ≤ (kept (plan_of bytes) budget x).cost)
      × ((kept (plan_of bytes) budget x).floor ≤ℤ (kept (plan_of bytes) budget y).floor)
  unfolding kept
  kept_better x l =
      let e : (y - 1) - (x - 1) + (x - 1) ≡ y - 1 = omega arith in
      subst (λ n. ((kept_after (plan_of bytes) budget n).cost ≤ (kept_after (plan_of bytes) budget (x - 1)).cost)
      × ((kept_after (plan_of bytes) budget (x - 1)).floor ≤ℤ (kept_after (plan_of bytes) budget n).floor)) e
      (more_better (plan_of bytes) a.plannable a.few budget a.some_budget a.low (x - 1) ((y - 1) - (x - 1))
      (let f = a.few_rounds in omega arith))

  -- from the first round on, which no rounds at all would leave too
  pub from_first : ((kept (plan_of bytes) budget y).cost ≤ (kept (plan_of bytes) budget 1).cost)
      × ((kept (plan_of bytes) budget 1).floor ≤ℤ (kept (plan_of bytes) budget y).floor)
  unfolding kept
  from_first =
      let e : y - 1 + 0 ≡ y - 1 = omega arith in
      subst (λ n. ((kept_after (plan_of bytes) budget n).cost ≤ (kept_after (plan_of bytes) budget 0).cost)
      × ((kept_after (plan_of bytes) budget 0).floor ≤ℤ (kept_after (plan_of bytes) budget n).floor)) e
      (more_better (plan_of bytes) a.plannable a.few budget a.some_budget a.low 0 (y - 1) (let f = a.few_rounds in omega arith))

pub same_summary : (p : Plan) (budget x y : ℕ) → kept p budget y ≡ kept p budget x → deep_summary p budget y ≡ deep_summary p budget x
unfolding deep_summary
same_summary p budget x y e =
    ap (λ (k : Kept). record { cost = k.cost; floor = k.floor; trees = k.trees; whole = have_met k; parts = component_count p }) e

pub same_drive : (p : Plan) (budget x y : ℕ) → kept p budget y ≡ kept p budget x → deep_drive p budget y ≡ deep_drive p budget x
unfolding deep_drive
same_drive p budget x y e = ap (λ (k : Kept). drive_of (under p k.drive.numbering) k.drive.tries) e

pub kept_met : (p : Plan) (budget x y : ℕ) → x ≤ y → have_met (kept p budget x) ≡ true → kept p budget y ≡ kept p budget x
unfolding kept
kept_met p budget x y l c =
    let e : (y - 1) - (x - 1) + (x - 1) ≡ y - 1 = omega arith in
    ap (kept_after p budget) (sym e) ∙ met_stays p budget (x - 1) ((y - 1) - (x - 1)) c
