-- Labels after all arcs: two required vertices have one label exactly where they have one component. Merging keeps each label in its
-- component, and makes the labels of a required arc's ends one; a walk of required arcs then keeps its label.
use Rattle.std.specs.Prelude.{◌≡◌, refl, ◌≢◌, not, cond, ℕ, ◌+◌, ◌≤◌, ◌<◌, length, eqb, ltb}
use Rattle.std.proofs.Math.Path.{sym, ap, subst, subst⁻¹}
use Rattle.std.proofs.Common.{◌∙◌, inl, inr, arith, ext_get_or, eqb→eq, ltb→lt, lt→ltb, T_not}
use mathlib.Core.List.Memᴰ
use mathlib.Core.List.{List, [], ◌∷◌, Memᴰ}
use Rattle.std.proofs.Math.Decide.{ℕ_discrete, dec_le}
use Rattle.std.proofs.Math.ListN.{get_or}
use Rattle.std.proofs.Math.Dec.{T}
use Rattle.postman.specs.Plan.{Arc, Plan, is_required_arc, arc_at, required_arcs, WellFormed}
use Rattle.postman.specs.Drive.{IsWalk}
use Rattle.postman.specs.Required.{required}
use Rattle.postman.specs.Component.{both_ways, component}
use Rattle.postman.specs.Laws.Tests.{test, cond_ind, eqb_other, is_true, of_not}
use Rattle.postman.specs.Laws.Membership.{select_mem, get_d_mem, mem_get_d}
use Rattle.postman_laws.specs.Laws.Distance.{InPlan, bounded}
use Rattle.postman.specs.Steps.{IsRequiredNumber}
use Rattle.postman_laws.specs.Laws.Required.{required_mem, number_ends, required_below}
use Rattle.postman_laws.specs.Laws.Component.{undirected, component_walk, arc_component}
use Rattle.components.specs.Labels.{rename, merge_label, label_after, Labelled}

-- what holds of both ways along each arc holds of each arc of the graph without direction
pub both_ways_lem : (Q : ℕ → ℕ → Type 0) {x : Arc} (arcs : List Arc)
    → ((a : Arc) → Memᴰ a arcs → Q a.tail a.head × Q a.head a.tail)
    → Memᴰ x (both_ways arcs) → Q x.tail x.head
unfolding both_ways
both_ways_lem Q [] h m = elim m [ ]
both_ways_lem Q (a ∷ arcs) h m = elim (Memᴰ.cases_cons m) [
  | inl e ↦ subst⁻¹ (λ (y : Arc). Q y.tail y.head) e (h a (Memᴰ.head refl)).0
  | inr m₁ ↦ elim (Memᴰ.cases_cons m₁) [
    | inl e ↦ subst⁻¹ (λ (y : Arc). Q y.tail y.head) e (h a (Memᴰ.head refl)).1
    | inr m₂ ↦ both_ways_lem Q arcs (λ b n. h b (Memᴰ.tail n)) m₂
  ]
]

rename_ind : (P : ℕ → Type 0) (from to l : ℕ) → (l ≡ from → P to) → (l ≢ from → P l) → P (rename from to l)
rename_ind P from to l f g = cond_ind (eqb l from) to l P (λ t. f (eqb→eq l from t)) (λ t. g (eqb_other t))

rename_to : (from to : ℕ) → rename from to to ≡ to
rename_to from to = rename_ind (λ x. x ≡ to) from to to (λ e. refl) (λ n. refl)

rename_from : (from to : ℕ) → rename from to from ≡ to
rename_from from to = rename_ind (λ x. x ≡ to) from to from (λ e. refl) (λ n. absurd (n refl))

rename_other : (from to l : ℕ) → l ≢ from → rename from to l ≡ l
rename_other from to l n = rename_ind (λ x. x ≡ l) from to l (λ e. absurd (n e)) (λ m. refl)

module _ (p : Plan) (ok : WellFormed p) where
  ends : InPlan p
  ends = (bounded ok).ends

  pub labelled_none : (labels : List ℕ) → length labels ≡ 64 → ((v : ℕ) → v < 64 → get_or labels v 0 ≡ v) → Labelled p 0 labels
  labelled_none labels e h = record {
    size = e;
    low = λ v l. let q = h v l in omega arith;
    root = λ v l. ap (λ x. get_or labels x 0) (h v l);
    within = λ v m. let q = h v (required_below p ok m) in rw q (m, refl);
    joins = λ i l. absurd (omega arith);
  }

  -- ---- one arc

  -- other labels that are the same
  labelled_same : (k : ℕ) (labels new : List ℕ) → Labelled p k labels → length new ≡ 64
      → ((v : ℕ) → v < 64 → get_or new v 0 ≡ get_or labels v 0) → Labelled p k new
  labelled_same k labels new h e same =
      let s = h.size in
      subst (Labelled p k) (sym (ext_get_or 0 new labels (omega arith) (λ v l. same v (omega arith)))) h

  -- one label renamed, to a lower one of the same component
  labelled_renamed : (k from to : ℕ) (labels new : List ℕ) → Labelled p k labels → to ≤ from → Memᴰ to (required p)
      → component p to ≡ component p from
      → get_or labels to 0 ≡ to → length new ≡ 64 → ((v : ℕ) → v < 64 → get_or new v 0 ≡ rename from to (get_or labels v 0))
      → Labelled p k new
  labelled_renamed k from to labels new h le m e r size at = record {
    size = size;
    low = λ v l.
        let a = at v l in
        let b = h.low v l in
        let c = rename_ind (λ x. x ≤ v) from to (get_or labels v 0) (λ q. omega arith) (λ n. b) in
        omega arith;
    root = λ v l.
        subst⁻¹ (λ x. get_or new x 0 ≡ x) (at v l)
        (rename_ind (λ x. get_or new x 0 ≡ x) from to (get_or labels v 0)
        (λ q. at to (required_below p ok m) ∙ ap (rename from to) r ∙ rename_to from to)
        (λ n. at (get_or labels v 0) (let b = h.low v l in omega arith) ∙ ap (rename from to) (h.root v l)
        ∙ rename_other from to (get_or labels v 0) n));
    within = λ v n.
        subst⁻¹ (λ x. Memᴰ x (required p) × (component p x ≡ component p v)) (at v (required_below p ok n))
        (rename_ind (λ x. Memᴰ x (required p) × (component p x ≡ component p v)) from to (get_or labels v 0)
        (λ q. (m, e ∙ ap (component p) (sym q) ∙ (h.within v n).1))
        (λ q. h.within v n));
    joins = λ i l a.
        let b = number_ends p ends a in
        at _ (required_below p ok b.0) ∙ ap (rename from to) (h.joins i l a) ∙ sym (at _ (required_below p ok b.1));
  }

  -- the ends of arc k have one label
  labelled_more : (k : ℕ) (labels : List ℕ) → Labelled p k labels
      → (IsRequiredNumber p k → get_or labels (arc_at p.arcs k).tail 0 ≡ get_or labels (arc_at p.arcs k).head 0)
      → Labelled p (k + 1) labels
  labelled_more k labels h e = record {
    size = h.size;
    low = h.low;
    root = h.root;
    within = h.within;
    joins = λ i l a. elim (ℕ_discrete i k) [
      | yes q ↦ subst⁻¹ (λ x. get_or labels (arc_at p.arcs x).tail 0 ≡ get_or labels (arc_at p.arcs x).head 0) q
          (e (subst (IsRequiredNumber p) q a))
      | no n ↦ h.joins i (omega arith) a
    ];
  }

  pub labelled_arc : (k : ℕ) (labels new : List ℕ) → k < length p.arcs → Labelled p k labels → length new ≡ 64
      → ((v : ℕ) → v < 64 → get_or new v 0 ≡ label_after (arc_at p.arcs k) labels v) → Labelled p (k + 1) new
  labelled_arc k labels new l h size at =
      let a = arc_at p.arcs k in
      let x = get_or labels a.tail 0 in
      let y = get_or labels a.head 0 in
      elim (test (is_required_arc a)) [
        | inl t ↦
            let number : IsRequiredNumber p k = record { number = l; must = t } in
            let m = number_ends p ends number in
            let e = arc_component p ends (required_mem p k number) in
            let ht = required_below p ok m.0 in
            let hh = required_below p ok m.1 in
            let wt = h.within a.tail m.0 in
            let wh = h.within a.head m.1 in
            let merged : (v : ℕ) → v < 64 → get_or new v 0 ≡ merge_label x y (get_or labels v 0) =
            λ v g. at v g ∙ ap (λ b. cond b (merge_label x y (get_or labels v 0)) (get_or labels v 0)) (is_true {b = is_required_arc a} t)
            in
            elim (test (ltb x y)) [
              | inl u ↦
                  let q = ltb→lt x y u in
                  let g : (v : ℕ) → v < 64 → get_or new v 0 ≡ rename y x (get_or labels v 0) =
                  λ v g. merged v g
                  ∙ ap (λ b. cond b (rename y x (get_or labels v 0)) (rename x y (get_or labels v 0))) (is_true {b = ltb x y} u)
                  in
                  labelled_more k new
                  (labelled_renamed k y x labels new h (omega arith) wt.0 (wt.1 ∙ e ∙ sym wh.1) (h.root a.tail ht) size g)
                  (λ n. g a.tail ht ∙ rename_to y x ∙ sym (g a.head hh ∙ rename_from y x))
              | inr u ↦
                  let q : y ≤ x = not_below x y u in
                  let g : (v : ℕ) → v < 64 → get_or new v 0 ≡ rename x y (get_or labels v 0) =
                  λ v g. merged v g
                  ∙ ap (λ b. cond b (rename y x (get_or labels v 0)) (rename x y (get_or labels v 0))) (of_not {b = ltb x y} u)
                  in
                  labelled_more k new
                  (labelled_renamed k x y labels new h q wh.0 (wh.1 ∙ sym e ∙ sym wt.1) (h.root a.head hh) size g)
                  (λ n. g a.tail ht ∙ rename_from x y ∙ sym (g a.head hh ∙ rename_to x y))
            ]
        | inr t ↦
            let same : (v : ℕ) → v < 64 → get_or new v 0 ≡ get_or labels v 0 =
            λ v g. at v g ∙ ap (λ b. cond b (merge_label x y (get_or labels v 0)) (get_or labels v 0)) (of_not {b = is_required_arc a} t)
            in
            labelled_more k new (labelled_same k labels new h size same) (λ n. absurd (T_not (is_required_arc a) t n.must))
      ]
    where
      not_below : (x y : ℕ) → T (not (ltb x y)) → y ≤ x
      not_below x y u = elim (dec_le y x) [ yes q ↦ q | no q ↦ absurd (T_not (ltb x y) u (lt→ltb x y (omega arith))) ]

  -- ---- all arcs

  module _ (labels : List ℕ) (h : Labelled p (length p.arcs) labels) where
    walk_label : (w : List ℕ) (u v : ℕ) → IsWalk (undirected p ends) u w v → get_or labels u 0 ≡ get_or labels v 0
    unfolding required_arcs
    walk_label [] u v q = ap (λ x. get_or labels x 0) q
    walk_label (k ∷ w) u v q =
        ap (λ x. get_or labels x 0) (sym q.2)
        ∙ both_ways_lem (λ x y. get_or labels x 0 ≡ get_or labels y 0) {x = arc_at (undirected p ends) k} (required_arcs p)
        (λ a m.
        let s = select_mem is_required_arc p.arcs m in
        let x = mem_get_d _ s.0 in
        let e = h.joins x.0 x.1 (record { number = x.1; must = subst⁻¹ (λ (b : Arc). T (is_required_arc b)) x.2 s.1 }) in
        let f = subst (λ (b : Arc). get_or labels b.tail 0 ≡ get_or labels b.head 0) x.2 e in
        (f, sym f))
        (get_d_mem (undirected p ends) _ k q.0)
        ∙ walk_label w (arc_at (undirected p ends) k).head v q.3

    pub component_label : {u v : ℕ} → Memᴰ u (required p) → Memᴰ v (required p) → component p u ≡ component p v
        → get_or labels u 0 ≡ get_or labels v 0
    component_label {u} {v} mu mv e = let w = component_walk p ends mu mv e in walk_label w.0 u v w.1
