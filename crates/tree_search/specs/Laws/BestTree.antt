-- The first tree of least cost: it is a tree, it costs little, and the arrays that hold its links are long enough.
use Rattle.std.specs.Prelude.{◌≡◌, not, ℕ, suc, ◌*◌, ◌-◌, ◌≤◌, length, take, drop, eqb}
use Rattle.std.proofs.Common.{sym, ap, ◌∙◌, subst, suc-mul, mul-le-mul_right, take-append-drop, length-take}
use Rattle.std.proofs.Math.Path.{subst⁻¹}
use mathlib.Core.List.Memᴰ
use mathlib.Core.List.{List, [], ◌∷◌, Memᴰ}
use native.Mathlib.Omega.{arith}
use Rattle.postman.specs.Lists.{select, any_of}
use Rattle.postman.specs.Plan.{Arc, Plan, arc_at, required_numbers, IsArc}
use Rattle.postman.specs.Drive.{IsWalk, drive_cost_due, drive_cost}
use Rattle.postman.specs.Link.{Link}
use Rattle.postman.specs.Component.{component_count}
use Rattle.postman.specs.Arborescence.{IsArborescence, arborescences}
use Rattle.postman.specs.Balancing.{completion_cost}
use Rattle.postman.specs.PlanCall.{tried_count, best_cost, best_arborescence, sheet_places}
use Rattle.postman.specs.Laws.Tests.{cond_ind}
use Rattle.postman.specs.Laws.Membership.{get_d_mem}
use Rattle.postman_laws.specs.Laws.Arborescence.{arborescences_mem}
use Rattle.postman.specs.Steps.{Plannable}
use Rattle.postman_laws.specs.Laws.Optimality.{some_arborescence}
use Rattle.postman_laws.specs.Laws.Search.{best_mem, best_value}
use Rattle.residual_search.specs.Step.{arcs_of}
use Rattle.branches.specs.Links.{links_in}
use Rattle.multipliers.specs.Drive.{tree_drive}
use Rattle.multipliers.specs.Laws.Drive.{tree_drive_lem}
use Rattle.multipliers.specs.Laws.Lay.{arcs_links}
use Rattle.tree_search.specs.Resumed.{HoldsTree}

-- ---- the cost is small

-- each pass costs at most 65,535, whether it is one that checks or not
passes_small : (n : ℕ) (arcs : List Arc) → ((a : Arc) → Memᴰ a arcs → IsArc n a) → (i j : ℕ) (w due : List ℕ) → IsWalk arcs i w j
    → drive_cost_due arcs due w ≤ length w * 65535
unfolding drive_cost_due
passes_small n arcs h i j [] due g = omega arith
passes_small n arcs h i j (k ∷ w) due g =
    let a = h (arc_at arcs k) (get_d_mem arcs _ k g.0) in
    let e = suc-mul (length w) 65535 in
    cond_ind (any_of (eqb k) due) _ _ (λ x. x ≤ suc (length w) * 65535)
    (λ t. omega (arith, e, a.service_in, passes_small n arcs h (arc_at arcs k).head j w (select (λ l. not (eqb k l)) due) g.3))
    (λ t. omega (arith, e, a.cost_in_holds, passes_small n arcs h (arc_at arcs k).head j w due g.3))

-- no tree costs much
pub tree_small : (p : Plan) → Plannable p → component_count p ≤ 8 → (t : List Link) → IsArborescence p t → completion_cost p t ≤ 1131527310
unfolding sheet_places drive_cost
tree_small p ok few t tree =
    let r = tree_drive_lem p ok few t tree in
    let a = passes_small p.n p.arcs ok.well_formed.each r.0.drive.start r.0.drive.start (tree_drive p t)
    (required_numbers p) r.0.drive.leads_back in
    let b = mul-le-mul_right {m = length (tree_drive p t)} {n = 17266} 65535 r.0.short in
    let c = r.1 in
    omega arith

module _ (p : Plan) (ok : Plannable p) (few : component_count p ≤ 8) (budget : ℕ) (some : 1 ≤ budget) where
  pub best_tree : IsArborescence p (best_arborescence p budget)
  best_tree =
      arborescences_mem p
      (subst (λ (ts : List (List Link)). Memᴰ (best_arborescence p budget) ts)
      (take-append-drop (tried_count p budget) (arborescences p))
      (Memᴰ.append_left (drop (tried_count p budget) (arborescences p)) (best_mem p budget some (some_arborescence p ok))))

  pub cost_small : best_cost p budget ≤ 1131527310
  cost_small = let a = tree_small p ok few (best_arborescence p budget) best_tree in
      let e = best_value p budget some (some_arborescence p ok) in omega arith

  -- ---- the arrays that hold its links are long enough

  arcs_fit : (ts hs : List ℕ) → (length (arcs_of ts hs) ≤ length ts) × (length (arcs_of ts hs) ≤ length hs)
  unfolding arcs_of
  arcs_fit [] hs = (omega arith, omega arith)
  arcs_fit (t ∷ ts) [] = (omega arith, omega arith)
  arcs_fit (t ∷ ts) (h ∷ hs) = let r = arcs_fit ts hs in (omega arith, omega arith)

  pub best_held : (ts hs : List ℕ) → links_in (component_count p - 1) ts hs ≡ best_arborescence p budget → HoldsTree p ts hs
  best_held ts hs e =
      let m = component_count p - 1 in
      let a = arcs_fit (take m ts) (take m hs) in
      let s = best_tree.size in
      let l = ap length e in
      let x = length-take m ts in
      let y = length-take m hs in
      record {
        tails_fit = omega arith;
        heads_fit = omega arith;
        tree = record {
          same = omega arith;
          tree = subst⁻¹ (IsArborescence p) (sym (arcs_links (take m ts) (take m hs)) ∙ e) best_tree;
        };
      }
