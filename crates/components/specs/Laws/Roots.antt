-- The roots are the lowest vertices of the components, in order, so that their places are the components' numbers. A vertex
-- that is not required is joined to none of them.
use Rattle.std.specs.Prelude.{◌≡◌, refl, Bool, false, cond, ◌&&◌, ℕ, ◌<◌, T}
use Rattle.std.proofs.Math.Path.{sym, ap}
use Rattle.std.proofs.Common.{◌∙◌, inl, inr, arith, eqb→eq, ltb→lt, lt→ltb}
use Rattle.std.proofs.Math.Bool.{true, not}
use mathlib.Core.List.Memᴰ
use mathlib.Core.List.{List, [], ◌∷◌, Memᴰ}
use Rattle.std.proofs.Math.Decide.{dec_le}
use Rattle.std.proofs.Math.ListN.{length, get_or}
use Rattle.std.proofs.Math.Dec.{eqb, ltb, T_not, not_T}
use Rattle.postman.specs.Lists.{select, below, any_of}
use Rattle.postman.specs.Plan.{Plan, arc_at, required_arcs, WellFormed}
use Rattle.postman.specs.Drive.{IsWalk}
use Rattle.postman.specs.Required.{is_required, required}
use Rattle.postman.specs.Component.{joined, lowest, component, component_count}
use Rattle.postman.specs.Laws.Tests.{test, same_test, and_both, and_parts, eqb_same, is_true, of_not}
use Rattle.postman.specs.Laws.Membership.{select_mem, select_cong, get_d_mem, any_of_mem, any_of_at, below_mem}
use Rattle.postman_laws.specs.Laws.Distance.{InPlan, bounded}
use Rattle.postman_laws.specs.Laws.Required.{required_ends_lem, required_lt, required_below}
use Rattle.postman_laws.specs.Laws.Component.{undirected, joined_walk, walk_joined, walk_component, component_walk, component_at}
use Rattle.postman_laws.specs.Laws.FirstNumber.{index_none}
use Rattle.required.specs.StepContracts.{IsRequiredFlags}
use Rattle.components.specs.Labels.{Labelled, is_root, roots_below, number_of}
use Rattle.required.specs.Laws.RequiredVertex.{required_of, of_required}
use Rattle.postman_laws.specs.Laws.Selection.{select_select, select_past, select_place}
use Rattle.components.specs.Laws.Labels.{both_ways_lem, component_label}

and_cong : (b : Bool) {x y : Bool} → (T b → x ≡ y) → (b && x) ≡ (b && y)
and_cong true h = h tt
and_cong false h = refl

module _ (p : Plan) (ok : WellFormed p) where
  ends : InPlan p
  ends = (bounded ok).ends

  -- ---- vertices that are not required

  walk_required : (w : List ℕ) (u v : ℕ) → Memᴰ u (required p) → IsWalk (undirected p ends) u w v → Memᴰ v (required p)
  walk_required [] u v m h = Memᴰ.cast (sym h) m
  walk_required (k ∷ w) u v m h =
      walk_required w (arc_at (undirected p ends) k).head v
      (both_ways_lem (λ x y. Memᴰ y (required p)) {x = arc_at (undirected p ends) k} (required_arcs p)
      (λ a n. let e = required_ends_lem p ends n in (e.1, e.0))
      (get_d_mem (undirected p ends) _ k h.0))
      h.3

  pub component_none : (v : ℕ) → T (not (is_required p v)) → component p v ≡ component_count p
  unfolding component component_count lowest
  component_none v n =
      index_none (λ r. joined p r v) (lowest p) (λ r m.
      of_not {b = joined p r v} (not_T (joined p r v) (λ t.
      let w = joined_walk p ends r v t in
      let q = (select_mem (λ v. not (any_of (λ u. ltb u v && joined p u v) (required p))) (required p) m).0 in
      T_not (is_required p v) n (of_required p ok (walk_required w.0 r v q w.1)))))

  module _ (r : List Bool) (flags : IsRequiredFlags p r) (labels : List ℕ) (h : Labelled p (length p.arcs) labels) where
    abbrev lower : ℕ → ℕ → Bool
    lower v u = ltb u v && joined p u v

    -- a required vertex is the lowest of its component exactly where it has its own label
    lowest_label : (v : ℕ) → Memᴰ v (required p) → not (any_of (lower v) (required p)) ≡ eqb (get_or labels v 0) v
    lowest_label v m =
        same_test (not (any_of (lower v) (required p))) (eqb (get_or labels v 0) v)
        (λ t. eqb_same {i = get_or labels v 0} {j = v} (elim (dec_le v (get_or labels v 0)) [
          | yes g ↦ let l = h.low v (required_below p ok m) in omega arith
          | no g ↦
              let w = h.within v m in
              let j = walk_joined p ends (get_or labels v 0) v (required_lt p w.0) (component_walk p ends w.0 m w.1) in
              absurd (T_not (any_of (lower v) (required p)) t
              (any_of_mem (lower v) w.0
              (and_both (ltb (get_or labels v 0) v) (joined p (get_or labels v 0) v) (lt→ltb (get_or labels v 0) v (omega arith)) j)))
        ]))
        (λ t. not_T (any_of (lower v) (required p)) (λ s.
        let u = any_of_at (lower v) (required p) s in
        let b = and_parts (ltb u.0 v) (joined p u.0 v) u.2 in
        let k = ltb→lt u.0 v b.0 in
        let e = component_label p ok labels h u.1 m (walk_component p ends u.1 m (joined_walk p ends u.0 v b.1)) in
        let q = eqb→eq (get_or labels v 0) v t in
        let l = h.low u.0 (required_below p ok u.1) in
        omega arith))

    lowest_roots : lowest p ≡ select (is_root r labels) (below p.n)
    unfolding lowest required
    lowest_roots =
        select_select (λ v. not (any_of (lower v) (required p))) (is_required p) (below p.n)
        ∙ select_cong (λ v. is_required p v && not (any_of (lower v) (required p))) (is_root r labels) (below p.n) (λ v m.
        let l : v < p.n = below_mem m in
        let n = ok.vertices in
        and_cong (is_required p v) (λ t. lowest_label v (required_of p ok t))
        ∙ ap (λ b. b && eqb (get_or labels v 0) v) (sym (flags v (omega arith))))

    pub roots_count : roots_below r labels 64 ≡ component_count p
    unfolding roots_below component_count
    roots_count =
        ap length (select_past (is_root r labels) p.n 64 ok.vertices (λ v g l.
        ap (λ b. b && eqb (get_or labels v 0) v)
        (flags v l ∙ of_not {b = is_required p v}
        (not_T (is_required p v) (λ t. let n = required_lt p (required_of p ok t) in omega arith))))
        ∙ sym lowest_roots)

    -- a component's number is how many roots are below its own
    root_component : {v : ℕ} → Memᴰ v (required p) → roots_below r labels (get_or labels v 0) ≡ component p v
    unfolding roots_below component_count
    root_component {v} m =
        let x = get_or labels v 0 in
        let w = h.within v m in
        let l = required_below p ok w.0 in
        let e : is_root r labels x ≡ true =
        rw (flags x l, is_true {b = is_required p x} (of_required p ok w.0))
        (is_true {b = eqb (get_or labels x 0) x} (eqb_same (h.root v (required_below p ok m))))
        in
        let s = select_place (is_root r labels) x p.n (required_lt p w.0) e in
        let q = length (select (is_root r labels) (below x)) in
        let a : get_or (lowest p) q 0 ≡ x = ap (λ (xs : List ℕ). get_or xs q 0) lowest_roots ∙ s.1 in
        let b = ap length lowest_roots in
        let c = s.0 in
        let f = (component_at p ends q (omega arith)).1 in
        sym f ∙ ap (component p) a ∙ w.1

    pub number_component : (v : ℕ) → v < 64 → number_of r labels v ≡ component p v
    number_component v l = elim (test (is_required p v)) [
      | inl t ↦
          ap (λ b. cond b (roots_below r labels (get_or labels v 0)) (roots_below r labels 64))
          (flags v l ∙ is_true {b = is_required p v} t)
          ∙ root_component (required_of p ok t)
      | inr t ↦
          ap (λ b. cond b (roots_below r labels (get_or labels v 0)) (roots_below r labels 64)) (flags v l ∙ of_not {b = is_required p v} t)
          ∙ roots_count ∙ sym (component_none v t)
    ]
