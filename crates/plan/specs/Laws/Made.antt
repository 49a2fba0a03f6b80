-- A plan by value that is made from another, arc by arc: records that hold what g makes of each arc stand for the plan of these arcs.
use Rattle.std.specs.Prelude.{◌≡◌, List, [], ℕ, ◌<◌, length}
use Rattle.std.proofs.Common.{sym, ap, ◌∙◌, arith, ext_get_or}
use Rattle.postman.specs.Plan.{Arc, Plan, arc_at}
use Rattle.plan.specs.declared.Arc.{Arc as ArcRecord}
use Rattle.plan.specs.declared.Plan.{Plan as PlanRecord}
use Rattle.plan.specs.Records.{arc_value, record_of, record_at, zero_record, plan_value}
use Rattle.plan.specs.Laws.Prefix.{Prefix}
use Rattle.plan.specs.Laws.Records.{plan_length, plan_arc, plan_vertices}

module _ (r : PlanRecord) (g : ℕ → Arc → Arc) where
  -- records whose first k hold the arcs made
  abbrev pub HoldMade : List ArcRecord → ℕ → Type 0
  HoldMade = Prefix 256 zero_record (λ k. record_of (g k (record_at r.arcs k)))

  pub made_plan : (q : Plan) → q.n ≡ (plan_value r).n → length q.arcs ≡ length (plan_value r).arcs
      → ((k : ℕ) → k < length (plan_value r).arcs → arc_at q.arcs k ≡ g k (arc_at (plan_value r).arcs k))
      → (arcs : List ArcRecord) (j : ℕ) → HoldMade arcs j → j ≡ r.m → plan_value (record { n = r.n; m = r.m; arcs = arcs }) ≡ q
  made_plan q vertices size each arcs j h all =
      let s : PlanRecord = record { n = r.n; m = r.m; arcs = arcs } in
      let long : length (plan_value s).arcs ≡ length q.arcs = plan_length s ∙ sym (size ∙ plan_length r) in
      let m = plan_length s in
      let m' = plan_length r in
      let same : (plan_value s).arcs ≡ q.arcs = ext_get_or (arc_at [] 0) (plan_value s).arcs q.arcs long (λ k l.
      (let b : k < r.m = omega arith in
      plan_arc s k b ∙ ap arc_value (h.before k (omega arith)) ∙ sym (each k (omega arith) ∙ ap (g k) (plan_arc r k b)))) in
      let n : (plan_value s).n ≡ q.n = plan_vertices s ∙ sym (vertices ∙ plan_vertices r) in
      λ i. record { n = n i; arcs = same i }
