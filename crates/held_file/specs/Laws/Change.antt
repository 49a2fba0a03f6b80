-- One arc of a plan by value changed, and the refusals of a change in their order.
use Rattle.std.specs.Prelude.{◌≡◌, List, [], ℕ, ◌≤◌, ◌<◌, length, set}
use Rattle.std.proofs.Math.Path.{refl}
use Rattle.std.proofs.Common.{sym, ap, ◌∙◌, arith, le-leb, length-set, ext_get_or, get_or-set_same, get_or-set_other}
use Rattle.std.proofs.Math.Option.{none, some}
use Rattle.std.proofs.Math.Decide.{ℕ_discrete}
use Rattle.std.proofs.lemmas.Bool.{lt-leb}
use Rattle.postman.specs.Plan.{Arc, Plan, arc_at}
use Rattle.postman.specs.Refusal.{first_refusal}
use Rattle.postman.specs.PlanFile.{edition, plan_of, file_of, file_conditions, write_refusal}
use Rattle.postman.specs.OpenPlan.{Change, changed_arc, changed_plan, change_refusal, longest_file}
use Rattle.plan.specs.declared.Arc.{Arc as ArcRecord}
use Rattle.plan.specs.declared.Plan.{Plan as PlanRecord}
use Rattle.plan.specs.Records.{arc_value, record_of, record_at, zero_record, plan_value}
use Rattle.plan.specs.Laws.Records.{plan_length, plan_arc, plan_vertices}
use Rattle.held_file.specs.Change.{changed_file, file_change_refusal}

pub changed_value : (r : PlanRecord) (c : Change) → c.arc < r.m → c.arc < length r.arcs
    → plan_value (record { n = r.n; m = r.m; arcs = set r.arcs c.arc (record_of (changed_arc (record_at r.arcs c.arc) c)) })
    ≡ changed_plan (plan_value r) c
unfolding changed_plan
changed_value r c l room =
    let k = c.arc in
    let new : ArcRecord = record_of (changed_arc (record_at r.arcs k) c) in
    let s : PlanRecord = record { n = r.n; m = r.m; arcs = set r.arcs k new } in
    let old : List Arc = (plan_value r).arcs in
    let a : Arc = changed_arc (arc_at old k) c in
    let m = plan_length r in
    let m' = plan_length s in
    let long : length (plan_value s).arcs ≡ length (set old k a) = m' ∙ sym (length-set old k a ∙ m) in
    let was : arc_at old k ≡ record_at r.arcs k = plan_arc r k l in
    let same : (plan_value s).arcs ≡ set old k a = ext_get_or (arc_at [] 0) (plan_value s).arcs (set old k a) long (λ j h.
    (let b : j < r.m = omega arith in
    elim (ℕ_discrete j k) [
      | yes q ↦ rw q
          (plan_arc s k l ∙ ap arc_value (get_or-set_same r.arcs k new zero_record room) ∙ ap (λ (x : Arc). changed_arc x c) (sym was)
          ∙ sym (get_or-set_same old k a (arc_at [] 0) (omega arith)))
      | no q ↦ plan_arc s j b ∙ ap arc_value (get_or-set_other r.arcs k j new zero_record q) ∙ sym (plan_arc r j b)
          ∙ sym (get_or-set_other old k j a (arc_at [] 0) q)
    ])) in
    let n : (plan_value s).n ≡ (plan_value r).n = plan_vertices s ∙ sym (plan_vertices r) in
    λ i. record { n = n i; arcs = same i }

-- ---- the refusals

module _ (e : ℕ) (p : Plan) (c : Change) where
  pub foreign_arc : length p.arcs ≤ c.arc → change_refusal e p c ≡ some 14
  unfolding change_refusal
  foreign_arc h = rw (le-leb (length p.arcs) c.arc h)

  pub own_arc : c.arc < length p.arcs → change_refusal e p c ≡ write_refusal e (changed_plan p c) longest_file
  unfolding change_refusal
  own_arc h = rw (lt-leb (length p.arcs) c.arc h)

module _ (bytes : List ℕ) (c : Change) where
  pub unread : (q : ℕ) → first_refusal (file_conditions bytes) ≡ some q → file_change_refusal bytes c ≡ some q
  unfolding file_change_refusal
  unread q h = rw h

  pub read_on : first_refusal (file_conditions bytes) ≡ none → file_change_refusal bytes c ≡ change_refusal (edition bytes)
      (plan_of bytes) c
  unfolding file_change_refusal
  read_on h = rw h

  pub changed_file_lem : changed_file bytes c ≡ file_of (edition bytes) (changed_plan (plan_of bytes) c)
  unfolding changed_file
  changed_file_lem = refl
