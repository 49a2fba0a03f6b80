-- A step taken often enough arrives: what some number of steps reaches, as many steps as there are places do. The steps are the arcs of a
-- graph, and a walk in it can be cut to fewer arcs than there are vertices.
use Rattle.std.specs.Prelude.{◌≡◌, refl, ltb}
use Rattle.std.proofs.Math.Path.{sym, ap, subst⁻¹}
use Rattle.std.proofs.Common.{◌∙◌, zero-add, suc-add}
use mathlib.Core.List.{List, [], ◌∷◌, map}
use Prim.Native.Nat.{ℕ, zero, suc, ◌+◌, ◌-◌, ◌<◌}
use native.Mathlib.Omega.{arith}
use Rattle.std.proofs.Math.ListN.{length, length-map}
use Rattle.std.proofs.Math.Dec.{T}
use Rattle.postman.specs.Lists.{below, iterate}
use Rattle.postman.specs.Plan.{Arc, Plan, arc_at}
use Rattle.postman.specs.Drive.{IsWalk}
use Rattle.postman.specs.Laws.Membership.{map_mem, below_mem, length_below, get_d_map_up_from}
use Rattle.postman_laws.specs.Laws.Distance.{InPlan, cut}

pub iterate_add : (a b : ℕ) (f : ℕ → ℕ) (x : ℕ) → iterate (a + b) f x ≡ iterate b f (iterate a f x)
unfolding iterate
iterate_add zero b f x = ap (λ n. iterate n f x) (zero-add b)
iterate_add (suc a) b f x = ap (λ n. iterate n f x) (suc-add a b) ∙ iterate_add a b f (f x)

iterate_fixed : (n : ℕ) (f : ℕ → ℕ) → f 0 ≡ 0 → iterate n f 0 ≡ 0
unfolding iterate
iterate_fixed zero f h = refl
iterate_fixed (suc n) f h = ap (iterate n f) h ∙ iterate_fixed n f h

module _ (K : ℕ) (f : ℕ → ℕ) (inside : (q : ℕ) → q < K → f q < K) where
  abbrev arrow : ℕ → Arc
  arrow q = record { tail = q; head = f q; standing = 0; cost = 0; service = 0 }

  arrows : List Arc
  arrows = map arrow (below K)

  arrows_length : length arrows ≡ K
  unfolding arrows
  arrows_length = length-map (below K) arrow ∙ length_below K

  arrow_at : (q : ℕ) → q < K → arc_at arrows q ≡ arrow q
  unfolding arrows below
  arrow_at q l = get_d_map_up_from arrow 0 K q _ l ∙ ap arrow (zero-add q)

  graph : Plan
  graph = record { n = K; arcs = arrows }

  graph_ok : InPlan graph
  unfolding graph arrows
  graph_ok a m =
      let r = map_mem arrow (below K) m in
      subst⁻¹ (λ (b : Arc). (b.tail < K) × (b.head < K)) r.2 (below_mem r.1, inside r.0 (below_mem r.1))

  to_walk : (m q e : ℕ) → q < K → iterate m f q ≡ e → (w : List ℕ) × IsWalk arrows q w e
  unfolding iterate
  to_walk zero q e l h = ([], h)
  to_walk (suc m) q e l h =
      let r = to_walk m (f q) e (inside q l) h in
      let x = arrow_at q l in
      let n = arrows_length in (
        q ∷ r.0,
        (
          omega arith,
          subst⁻¹ (λ (b : Arc). T (ltb b.standing 2)) x tt,
          ap (λ (b : Arc). b.tail) x,
          subst⁻¹ (λ (b : Arc). IsWalk arrows b.head r.0 e) x r.1,
        ),
      )

  of_walk : (w : List ℕ) (q e : ℕ) → IsWalk arrows q w e → iterate (length w) f q ≡ e
  unfolding iterate
  of_walk [] q e h = h
  of_walk (k ∷ w) q e h =
      let n = arrows_length in
      let l = h.0 in
      let x = arrow_at k (omega arith) in
      let y = sym (ap (λ (b : Arc). b.tail) x) ∙ h.2 in
      ap (λ z. iterate (length w) f (f z)) (sym y) ∙ ap (iterate (length w) f) (sym (ap (λ (b : Arc). b.head) x))
      ∙ of_walk w (arc_at arrows k).head e h.3

  pub settle : (m q : ℕ) → f 0 ≡ 0 → q < K → iterate m f q ≡ 0 → iterate K f q ≡ 0
  unfolding graph
  settle m q z l h =
      let r = to_walk m q 0 l h in
      let s = cut graph graph_ok q 0 r.0 l r.1 in
      let b = s.2 in
      let e : length s.0 + (K - length s.0) ≡ K = omega arith in
      ap (λ n. iterate n f q) (sym e) ∙ iterate_add (length s.0) (K - length s.0) f q
      ∙ ap (iterate (K - length s.0) f) (of_walk s.0 q 0 s.1) ∙ iterate_fixed (K - length s.0) f z
