-- Records that hold the renumbered arcs stand for the renumbered plan; and a list that holds what the multipliers give
-- to the new numbers is the one carried back.
use Rattle.std.specs.Prelude.{◌≡◌, refl, List, [], map, ℕ, ◌<◌, length, get_or, ℤ, pos}
use Rattle.std.proofs.Common.{sym, ap, ◌∙◌, zero-add, arith, ext_get_or}
use Rattle.std.proofs.lemmas.List.{length-map}
use Rattle.std.proofs.Math.ListN.{get_or-map}
use Rattle.postman.specs.Lists.{up_from, below}
use Rattle.postman.specs.Plan.{Arc, arc_at}
use Rattle.postman.specs.Laws.Membership.{length_up_from, get_d_map_up_from}
use Rattle.plan.specs.declared.Arc.{Arc as ArcRecord}
use Rattle.plan.specs.declared.Plan.{Plan as PlanRecord}
use Rattle.plan.specs.Records.{plan_value}
use Rattle.plan.specs.Laws.Made.{HoldMade, made_plan}
use Rattle.postman.specs.Renumbering.{number_in, renumbered_arc, renumbered}
use Rattle.renumbering.specs.Renumbered.{carried_in}
use Rattle.renumbering.specs.Laws.Numbering.{in_place}

arc_renumbered : (π : ℕ → ℕ) (arcs : List Arc) (k : ℕ) → k < length arcs
    → arc_at (map (renumbered_arc π) arcs) k ≡ renumbered_arc π (arc_at arcs k)
arc_renumbered π arcs k l =
    let m = length-map arcs (renumbered_arc π) in
    in_place (map (renumbered_arc π) arcs) k _ (renumbered_arc π (arc_at [] 0)) (omega arith)
    ∙ get_or-map (renumbered_arc π) arcs k (arc_at [] 0)

pub plan_renumbered : (r : PlanRecord) (π : ℕ → ℕ) (arcs : List ArcRecord) (j : ℕ) → HoldMade r (λ k. renumbered_arc π) arcs j → j ≡ r.m
    → plan_value (record { n = r.n; m = r.m; arcs = arcs }) ≡ renumbered (plan_value r) π
plan_renumbered r π =
    made_plan r (λ k. renumbered_arc π) (renumbered (plan_value r) π) refl (length-map (plan_value r).arcs (renumbered_arc π))
    (λ k l. arc_renumbered π (plan_value r).arcs k l)

pub carried_by : (to : List ℕ) (u r : List ℤ) → length r ≡ 64 → ((v : ℕ) → v < 64 → get_or r v (pos 0) ≡ get_or u (number_in to v) (pos 0))
    → r ≡ carried_in to u
unfolding carried_in below
carried_by to u r long h =
    let f : ℕ → ℤ = λ v. get_or u (number_in to v) (pos 0) in
    let e : length (map f (up_from 0 64)) ≡ 64 = length-map (up_from 0 64) f ∙ length_up_from 0 64 in
    ext_get_or (pos 0) r (map f (up_from 0 64)) (long ∙ sym e)
    (λ v l. h v (omega arith) ∙ sym (get_d_map_up_from f 0 64 v (pos 0) (omega arith) ∙ ap f (zero-add v)))
