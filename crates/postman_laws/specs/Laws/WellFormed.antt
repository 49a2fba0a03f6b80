-- A plan of as many vertices and arcs as a well formed one, each arc of it good, is well formed.
use Rattle.std.specs.Prelude.{◌≡◌, ℕ, length}
use Rattle.std.proofs.Math.Path.{subst⁻¹}
use mathlib.Core.List.{List, map, Memᴰ}
use Rattle.std.proofs.Common.{arith}
use Rattle.postman.specs.Lists.{below}
use Rattle.postman.specs.Plan.{Arc, Plan, arc_at, IsArc, WellFormed}
use Rattle.postman.specs.Laws.Membership.{get_d_mem, map_mem, below_mem}
use Rattle.postman_laws.specs.Laws.Below.{length_map_below}

module _ (p : Plan) (w : WellFormed p) where
  pub of_good_arcs : (arcs : List Arc) → length arcs ≡ length p.arcs → ((a : Arc) → Memᴰ a arcs → IsArc p.n a)
      → WellFormed (record { n = p.n; arcs = arcs })
  of_good_arcs arcs e good =
      let some = w.some_arc in
      let few = w.arc_count_holds in
      record { some_vertex = w.some_vertex; vertices = w.vertices; some_arc = omega arith; arc_count_holds = omega arith; each = good }

  -- ... as where each is made from the arc of its number
  pub of_made_arcs : (made : ℕ → Arc) → ((k : ℕ) → IsArc p.n (arc_at p.arcs k) → IsArc p.n (made k))
      → WellFormed (record { n = p.n; arcs = map made (below (length p.arcs)) })
  of_made_arcs made good =
      of_good_arcs _ (length_map_below made (length p.arcs)) (λ a m.
      let r = map_mem made (below (length p.arcs)) m in
      subst⁻¹ (IsArc p.n) r.2 (good r.0 (w.each (arc_at p.arcs r.0) (get_d_mem p.arcs _ r.0 (below_mem r.1)))))
