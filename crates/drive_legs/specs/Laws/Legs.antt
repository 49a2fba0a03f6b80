-- The legs of a plan, an arborescence and amounts that balance them are Eulerian. Balanced: the amounts make up for the imbalance of the
-- rest. Connected: a set that no leg leaves is one that no leg enters; so it holds a component with each of its vertices, and with a
-- component the one before it and those after it.
use Rattle.std.specs.Prelude.{◌≡◌, refl, Bool, length, T}
use Rattle.std.proofs.Math.Path.{sym, ap, ap₂, subst, subst⁻¹}
use Rattle.std.proofs.Common.{◌∙◌}
use Rattle.std.proofs.Math.Logic.{inl, inr}
use mathlib.Core.List.Memᴰ
use mathlib.Core.List.{List, [], ◌∷◌, ◌++◌, map, Memᴰ, map-append, map-map}
use Prim.Native.Nat.{ℕ, zero, suc, ◌+◌, ◌*◌, ◌/◌, ◌%◌, ◌<◌}
use Rattle.std.proofs.Math.Nat.{mul-one, mul-zero}
use Rattle.std.proofs.Math.Decide.{dec_le}
use native.Mathlib.Omega.{arith}
use Rattle.std.proofs.Math.ListN.{get_or, replicate, length-map, length-append, get_or-map}
use Rattle.integers.specs.Linear.{minus_eq}
use Rattle.postman.specs.Lists.{below, iterate, occurrences}
use Rattle.postman.specs.Plan.{Arc, Plan, arc_at, required_arcs, WellFormed}
use Rattle.postman.specs.Drive.{IsWalk}
use Rattle.postman.specs.Required.{required}
use Rattle.postman.specs.Link.{Link}
use Rattle.postman.specs.Component.{component, component_count}
use Rattle.postman.specs.Arborescence.{link_at, parent}
use Rattle.postman.specs.Balancing.{heads, tails, imbalance, sum_over, IsBalancing}
use Rattle.postman.specs.Laws.Membership.{get_d_mem, mem_get_d, mem_map, map_mem, flat_map_mem, below_mem}
use Rattle.postman_laws.specs.Laws.Occurrences.{mem_of_occurrences, occurrences_of_mem, occurrences_append}
use Rattle.postman_laws.specs.Laws.Distance.{InPlan, bounded}
use Rattle.postman_laws.specs.Laws.Required.{required_once, required_ends_lem}
use Rattle.postman_laws.specs.Laws.Component.{both_of, undirected, component_lt, component_walk}
use Rattle.postman_laws.specs.Laws.Link.{link_ends}
use Rattle.postman_laws.specs.Laws.Arborescence.{joins}
use Rattle.postman_laws.specs.Laws.Balancing.{within_heads, within_tails}
use Rattle.postman_laws.specs.Laws.LinkLegs.{ends_heads, ends_tails}
use Rattle.hierholzer.specs.Eulerian.{Eulerian}
use Rattle.postman.specs.Steps.{amount, pair_at, no_link}
use Rattle.drive_legs.specs.Legs.{units_below, units, arc_leg, legs, leg_tails, leg_heads, Completes}
use Rattle.hierholzer.specs.Laws.Lists.{replicate_mem}
use Rattle.drive_legs.specs.Laws.Units.{units_out, units_into}
use Rattle.drive_legs.specs.Laws.Cut.{entered_too}

module _ (p : Plan) (ok : WellFormed p) (t : List Link) (amounts : List ℕ) (h : Completes p t amounts) where
  abbrev within_plan : InPlan p
  within_plan = (bounded ok).ends

  -- ---- balanced

  legs_ends : (v : ℕ) (f : Link → ℕ)
      → occurrences v (map f (legs p t amounts))
      ≡ occurrences v (map (λ a. f (arc_leg a)) (required_arcs p) ++ map f t) + occurrences v (map f (units amounts))
  unfolding legs
  legs_ends v f =
      let rs = map (λ a. f (arc_leg a)) (required_arcs p) in
      let us = units amounts in
      let a = occurrences_append v rs (map f t) in
      let b : occurrences v (map f (legs p t amounts)) ≡ occurrences v (rs ++ (map f t ++ map f us))
      = ap (occurrences v)
      (map-append f (map arc_leg (required_arcs p)) (t ++ us) ∙ ap₂ ◌++◌ (map-map f arc_leg (required_arcs p)) (map-append f t us)) in
      let c = occurrences_append v rs (map f t ++ map f us) in
      let d = occurrences_append v (map f t) (map f us) in
      omega arith

  legs_tails : (v : ℕ)
      → occurrences v (leg_tails p t amounts) ≡ occurrences v (tails p t) + occurrences v (map (λ l. l.tail) (units amounts))
  unfolding leg_tails tails
  legs_tails v = legs_ends v (λ l. l.tail)

  legs_heads : (v : ℕ)
      → occurrences v (leg_heads p t amounts) ≡ occurrences v (heads p t) + occurrences v (map (λ l. l.head) (units amounts))
  unfolding leg_heads heads
  legs_heads v = legs_ends v (λ l. l.head)

  none_in : {vs : List ℕ} (v : ℕ) → ((i : ℕ) → Memᴰ i vs → Memᴰ i (required p)) → occurrences v (required p) ≡ 0
      → occurrences v vs ≡ 0
  none_in {vs} v m z = elim (dec_le 1 (occurrences v vs)) [
    | yes g ↦ (let x = occurrences_of_mem (m v (mem_of_occurrences v vs g)) in absurd (omega arith))
    | no g ↦ omega arith
  ]

  legs_balanced : (v : ℕ) → occurrences v (leg_tails p t amounts) ≡ occurrences v (leg_heads p t amounts)
  unfolding IsBalancing imbalance
  legs_balanced v =
      let vs = required p in
      let f = amount amounts in
      let j = joins p h.arborescence in
      let once = required_once p v in
      let a = legs_tails v in
      let b = legs_heads v in
      let o = ends_tails v (units amounts) ∙ units_out p ok.vertices amounts h.between v in
      let i = ends_heads v (units amounts) ∙ units_into p ok.vertices amounts h.between v in
      elim (dec_le 1 (occurrences v vs)) [
        | yes g ↦ (
            let e : occurrences v vs ≡ 1 = omega arith in
            let o₁ = ap (λ z. sum_over vs (λ j. f v j) * z) e ∙ mul-one (sum_over vs (λ j. f v j)) in
            let i₁ = ap (λ z. sum_over vs (λ j. f j v) * z) e ∙ mul-one (sum_over vs (λ j. f j v)) in
            let d = minus_eq (sum_over vs (λ j. f v j)) (sum_over vs (λ j. f j v)) (occurrences v (heads p t)) (occurrences v (tails p t))
            (h.balances v (mem_of_occurrences v vs g)) in
            omega arith)
        | no g ↦ (
            let e : occurrences v vs ≡ 0 = omega arith in
            let o₁ = ap (λ z. sum_over vs (λ j. f v j) * z) e ∙ mul-zero (sum_over vs (λ j. f v j)) in
            let i₁ = ap (λ z. sum_over vs (λ j. f j v) * z) e ∙ mul-zero (sum_over vs (λ j. f j v)) in
            let c = none_in v (within_tails p within_plan t j).among e in
            let d = none_in v (within_heads p within_plan t j).among e in
            omega arith)
      ]

  -- ---- connected

  -- a leg by its number
  leg_number : {l : Link} → Memᴰ l (legs p t amounts)
      → (e : ℕ) × (e < length (leg_tails p t amounts)) × (get_or (leg_tails p t amounts) e 0 ≡ l.tail)
      × (get_or (leg_heads p t amounts) e 0 ≡ l.head)
  unfolding leg_tails leg_heads
  leg_number m =
      let r = mem_get_d no_link m in
      let ls = legs p t amounts in
      let n = length-map ls (λ l. l.tail) in
      let k = r.1 in (
        r.0,
        omega arith,
        get_or-map (λ l. l.tail) ls r.0 no_link
            ∙ ap (λ (l : Link). l.tail) r.2,
        get_or-map (λ l. l.head) ls r.0 no_link ∙ ap (λ (l : Link). l.head) r.2,
      )

  pub legs_length : length (leg_heads p t amounts) ≡ length (leg_tails p t amounts)
  unfolding leg_tails leg_heads
  legs_length = length-map (legs p t amounts) (λ l. l.head) ∙ sym (length-map (legs p t amounts) (λ l. l.tail))

  -- the ends of a leg are required
  unit_ends : {l : Link} → Memᴰ l (units amounts) → Memᴰ l.tail (required p) × Memᴰ l.head (required p)
  unfolding units units_below
  unit_ends {l} m =
      let r = flat_map_mem (λ x. replicate (get_or amounts x 0) (pair_at x)) (below 4096) m in
      let s = replicate_mem (get_or amounts r.0 0) (pair_at r.0) r.2 in
      let k = below_mem {n = 4096} r.1 in
      let i : r.0 ≡ r.0 / 64 * 64 + r.0 % 64 = omega arith in
      let a = ap (λ z. get_or amounts z 0) i in
      let c = s.0 in
      subst⁻¹ (λ (z : Link). Memᴰ z.tail (required p) × Memᴰ z.head (required p)) s.1
      (h.between (r.0 / 64) (r.0 % 64) (omega arith) (omega arith) (omega arith))

  pub leg_ends : {l : Link} → Memᴰ l (legs p t amounts) → Memᴰ l.tail (required p) × Memᴰ l.head (required p)
  unfolding legs
  leg_ends {l} m = elim (Memᴰ.append_cases (map arc_leg (required_arcs p)) m) [
    | inl a ↦ (
        let r = map_mem arc_leg (required_arcs p) a in
        subst⁻¹ (λ (z : Link). Memᴰ z.tail (required p) × Memᴰ z.head (required p)) r.2
        (required_ends_lem p within_plan r.1))
    | inr b ↦ elim (Memᴰ.append_cases t b) [ inl c ↦ joins p h.arborescence l c | inr d ↦ unit_ends d ]
  ]

  module _ (X : ℕ → Bool) (forward : (l : Link) → Memᴰ l (legs p t amounts) → T (X l.tail) → T (X l.head))
      (back : (l : Link) → Memᴰ l (legs p t amounts) → T (X l.head) → T (X l.tail)) where
    arc_mem : {a : Arc} → Memᴰ a (required_arcs p) → Memᴰ (arc_leg a) (legs p t amounts)
    unfolding legs
    arc_mem m = Memᴰ.append_left (t ++ units amounts) (mem_map arc_leg m)

    link_mem : {l : Link} → Memᴰ l t → Memᴰ l (legs p t amounts)
    unfolding legs
    link_mem m = Memᴰ.append_right (map arc_leg (required_arcs p)) (Memᴰ.append_left (units amounts) m)

    -- along required arcs, direction ignored
    walk_in : (u v : ℕ) (w : List ℕ) → IsWalk (undirected p within_plan) u w v → T (X u) → T (X v)
    walk_in u v [] g x = subst (λ z. T (X z)) g x
    walk_in u v (k ∷ w) g x =
        let a = arc_at (undirected p within_plan) k in
        let r = both_of {x = a} (required_arcs p) (get_d_mem (undirected p within_plan) _ k g.0) in
        let y : T (X a.tail) = subst⁻¹ (λ z. T (X z)) g.2 x in
        walk_in a.head v w g.3 (elim r.2 [
          | inl e ↦ subst⁻¹ (λ (b : Arc). T (X b.head)) e
              (forward (arc_leg r.0) (arc_mem r.1) (subst (λ (b : Arc). T (X b.tail)) e y))
          | inr e ↦ subst⁻¹ (λ (b : Arc). T (X b.head)) e
              (back (arc_leg r.0) (arc_mem r.1) (subst (λ (b : Arc). T (X b.tail)) e y))
        ])

    -- component q lies in the set
    abbrev Holds : ℕ → Type 0
    Holds q = (v : ℕ) → Memᴰ v (required p) → component p v ≡ q → T (X v)

    holds_of : {v : ℕ} → Memᴰ v (required p) → T (X v) → Holds (component p v)
    holds_of {v} m x u n e = let w = component_walk p within_plan m n (sym e) in walk_in v u w.0 w.1 x

    parent_lt : (q : ℕ) → q < component_count p → parent p t q < component_count p
    unfolding parent
    parent_lt zero l = l
    parent_lt (suc q) l = let n = h.arborescence.size in
        component_lt p within_plan (link_ends p (h.arborescence.enters q (omega arith)).is_link_holds).0

    -- with a component the one before it, and the other way round
    to_parent : (q : ℕ) → q < component_count p → Holds q → Holds (parent p t q)
    unfolding parent
    to_parent zero l y = y
    to_parent (suc q) l y =
        let n = h.arborescence.size in
        let e = h.arborescence.enters q (omega arith) in
        let k = link_ends p e.is_link_holds in
        holds_of k.0 (back (link_at t q) (link_mem (get_d_mem t no_link q (omega arith))) (y (link_at t q).head k.1 e.head))

    from_parent : (q : ℕ) → q < component_count p → Holds (parent p t q) → Holds q
    unfolding parent
    from_parent zero l y = y
    from_parent (suc q) l y =
        let n = h.arborescence.size in
        let e = h.arborescence.enters q (omega arith) in
        let k = link_ends p e.is_link_holds in
        subst Holds e.head
        (holds_of k.1 (forward (link_at t q) (link_mem (get_d_mem t no_link q (omega arith))) (y (link_at t q).tail k.0 refl)))

    to_end : (n q : ℕ) → q < component_count p → Holds q → Holds (iterate n (parent p t) q)
    unfolding iterate
    to_end zero q l y = y
    to_end (suc n) q l y = to_end n (parent p t q) (parent_lt q l) (to_parent q l y)

    from_end : (n q : ℕ) → q < component_count p → Holds (iterate n (parent p t) q) → Holds q
    unfolding iterate
    from_end zero q l y = y
    from_end (suc n) q l y = from_parent q l (from_end n (parent p t q) (parent_lt q l) y)

    all_in : {u v : ℕ} → Memᴰ u (required p) → T (X u) → Memᴰ v (required p) → T (X v)
    all_in {u} {v} m x n =
        let a = component_lt p within_plan m in
        let b = component_lt p within_plan n in
        let c = h.arborescence.back (component p u) a in
        let d = h.arborescence.back (component p v) b in
        let y = subst Holds c.1 (to_end c.0 (component p u) a (holds_of m x)) in
        from_end d.0 (component p v) b (subst⁻¹ Holds d.1 y) v n refl

  pub legs_some : 0 < length (leg_tails p t amounts)
  unfolding leg_tails legs
  legs_some =
      let n = length-map (legs p t amounts) (λ l. l.tail) in
      let a = length-append (map arc_leg (required_arcs p)) (t ++ units amounts) in
      let b = length-map (required_arcs p) arc_leg in
      let c = h.some in
      omega arith

  -- the tail and the head of leg e are ends of a leg
  pub leg_at : (e : ℕ) → e < length (leg_tails p t amounts)
      → (l : Link) × Memᴰ l (legs p t amounts) × (get_or (leg_tails p t amounts) e 0 ≡ l.tail)
      × (get_or (leg_heads p t amounts) e 0 ≡ l.head)
  unfolding leg_tails leg_heads
  leg_at e k =
      let ls = legs p t amounts in
      let n = length-map ls (λ l. l.tail) in (
        get_or ls e no_link,
        get_d_mem ls no_link e (omega arith),
        get_or-map (λ l. l.tail) ls e no_link,
        get_or-map (λ l. l.head) ls e no_link,
      )

  pub eulerian : Eulerian (leg_tails p t amounts) (leg_heads p t amounts)
  eulerian = record {
    some = legs_some;
    ends = legs_length;
    balanced = legs_balanced;
    connected = λ X x f e k. (
        let b = entered_too X (leg_tails p t amounts) (leg_heads p t amounts) legs_length legs_balanced f in
        let r = leg_at 0 legs_some in
        let s = leg_at e k in
        subst⁻¹ (λ z. T (X z)) s.2
        (all_in X
        (λ l m y. let j = leg_number m in subst (λ z. T (X z)) j.3 (f j.0 j.1 (subst⁻¹ (λ z. T (X z)) j.2 y)))
        (λ l m y. let j = leg_number m in subst (λ z. T (X z)) j.2 (b j.0 j.1 (subst⁻¹ (λ z. T (X z)) j.3 y)))
        (leg_ends r.1).0 (subst (λ z. T (X z)) r.2 x) (leg_ends s.1).0));
  }
