-- L(u) is at most the completion cost of every arborescence: what the links' multipliers take from their reduced costs, weak duality gives
-- back in the balancing. And L(u) is at least R + Z, since reduced costs are not negative.
use Rattle.std.specs.Prelude.{◌≡◌, refl, length, ℤ, ◌+ℤ◌, ◌*ℤ◌, ◌≤ℤ◌}
use Rattle.std.proofs.Math.Path.{ap, ap₂, subst⁻¹, fun_ext}
use Rattle.std.proofs.Common.{◌∙◌, arith}
use mathlib.Core.List.{List, [], ◌∷◌, ◌++◌, map, Memᴰ}
use Prim.Native.Nat.{ℕ, ◌+◌, ◌<◌}
use Rattle.std.proofs.lemmas.List.{length-map}
use Rattle.std.proofs.Math.IntN.{pos, ◌-ℤ◌}
use Rattle.std.specs.Int.Signed.{≤ℤ_refl}
use Rattle.integers.specs.Linear.{z, zl, zm}
use Rattle.postman.specs.Lists.{sum_ofℤ, occurrences}
use Rattle.postman.specs.Plan.{Plan, required_arcs}
use Rattle.postman.specs.Required.{required, required_cost}
use Rattle.postman.specs.Distance.{distance}
use Rattle.postman.specs.Link.{Link}
use Rattle.postman.specs.Arborescence.{arborescences}
use Rattle.postman.specs.Balancing.{heads, tails, imbalance, assignment, least_balancing, link_cost, completion_cost}
use Rattle.postman.specs.LagrangianBound.{Multipliers, reduced_cost, reduced_sum, cheapest_arborescence, price_of_imbalance, lagrangian_bound, AreMultipliers}
use Rattle.postman.specs.Laws.Membership.{mem_map, map_mem}
use Rattle.postman_laws.specs.Laws.Pick.{pick_length, mem_of_pick, left_mem}
use Rattle.postman_laws.specs.Laws.Distance.{InPlan}
use Rattle.postman_laws.specs.Laws.Assignment.{assign_at}
use Rattle.postman.specs.Steps.{Joins, Feasible}
use Rattle.postman_laws.specs.Laws.Balancing.{within_heads, within_tails, same_length}
use Rattle.postman_laws.specs.Laws.Arborescence.{arborescences_mem, joins}
use Rattle.postman_laws.specs.Laws.SignedSum.{minimumℤ_le, minimumℤ_at, sum_append, sum_add, sum_sub, sum_pos, sum_nonneg, sum_map, sum_pick, sum_occurrences}

-- ---- weak duality

-- under multipliers with reduced costs that are not negative, the sum of u over the heads less that
-- over the tails is at most the least assignment
pub weak_duality : (d : ℕ → ℕ → ℕ) (u : Multipliers) (ss ts : List ℕ) → length ss ≡ length ts
    → ((s t : ℕ) → Memᴰ s ss → Memᴰ t ts → pos 0 ≤ℤ (pos (d s t) -ℤ u s +ℤ u t))
    → sum_ofℤ (map u ss) ≤ℤ (sum_ofℤ (map u ts) +ℤ pos (assignment d ss ts))
unfolding sum_ofℤ assignment
weak_duality d u [] [] l h = ≤ℤ_refl (pos 0)
weak_duality d u [] (t ∷ ts) l h = absurd (omega arith)
weak_duality d u (s ∷ ss) ts l h =
    let r = assign_at d s ss ts (omega arith) in
    let n = pick_length r.2 in
    let a = h s r.0 (Memᴰ.head refl) (mem_of_pick r.2) in
    let ih = weak_duality d u ss r.1 (omega arith) (λ x y m k. h x y (Memᴰ.tail m) (left_mem r.2 k)) in
    let q = sum_pick u r.2 in
    let e = ap pos r.3 in
    rw (e, q) (simp zl (omega (arith, simp zl at a, simp zl at ih)))

-- ---- A(u), the bound

-- A(u) is the least sum of reduced costs over all arborescences
pub cheapest_le : (p : Plan) (u : Multipliers) {t : List Link} → Memᴰ t (arborescences p)
    → cheapest_arborescence p u ≤ℤ reduced_sum p u t
unfolding cheapest_arborescence
cheapest_le p u m = minimumℤ_le (mem_map (reduced_sum p u) m)

pub cheapest_at : (p : Plan) (u : Multipliers) → 0 < length (arborescences p)
    → (t : List Link) × Memᴰ t (arborescences p) × (cheapest_arborescence p u ≡ reduced_sum p u t)
unfolding cheapest_arborescence
cheapest_at p u h =
    map_mem (reduced_sum p u) (arborescences p)
    (minimumℤ_at (map (reduced_sum p u) (arborescences p)) (subst⁻¹ (λ n. 0 < n) (length-map (arborescences p) (reduced_sum p u)) h))

module _ (p : Plan) (u : Multipliers) where
  -- the sum of u over the links' heads, and over their tails
  abbrev over_heads : List Link → ℤ
  over_heads t = sum_ofℤ (map (λ l. u l.head) t)

  abbrev over_tails : List Link → ℤ
  over_tails t = sum_ofℤ (map (λ l. u l.tail) t)

  reduced_split : (t : List Link) → reduced_sum p u t ≡ pos (link_cost p t) -ℤ over_tails t +ℤ over_heads t
  unfolding reduced_sum reduced_cost link_cost
  reduced_split t =
      sum_add (λ l. pos (distance p l.tail l.head) -ℤ u l.tail) (λ l. u l.head) t
      ∙ ap (λ (w : ℤ). w +ℤ over_heads t) (sum_sub (λ l. pos (distance p l.tail l.head)) (λ l. u l.tail) t
      ∙ ap (λ (w : ℤ). w -ℤ over_tails t) (sum_pos (λ l. distance p l.tail l.head) t))

  -- u summed over vertices and the links' ends, apart
  ends_split : (f : Link → ℕ) (vs : List ℕ) (t : List Link)
      → sum_ofℤ (map u (vs ++ map f t)) ≡ sum_ofℤ (map u (vs ++ [])) +ℤ sum_ofℤ (map (λ l. u (f l)) t)
  unfolding sum_ofℤ
  ends_split f vs t =
      let a = sum_append u vs (map f t) in
      let b = sum_append u vs [] in
      let c = sum_map f u t in
      rw (a, b, c) (simp zl (omega arith))

  -- the sum of u(i) × D(i), with the links counted, is the sum of u over the heads less that over the tails
  pub price_split : InPlan p → (t : List Link) → Joins p t
      → sum_ofℤ (map (λ i. u i *ℤ imbalance p t i) (required p)) ≡ sum_ofℤ (map u (heads p t)) -ℤ sum_ofℤ (map u (tails p t))
  unfolding imbalance
  price_split ok t j =
      ap (λ (f : ℕ → ℤ). sum_ofℤ (map f (required p)))
      (fun_ext (λ i. times_sub (u i) (pos (occurrences i (heads p t))) (pos (occurrences i (tails p t)))))
      ∙ sum_sub (λ i. u i *ℤ pos (occurrences i (heads p t))) (λ i. u i *ℤ pos (occurrences i (tails p t))) (required p)
      ∙ ap₂ ◌-ℤ◌ (sum_occurrences u (required p) (heads p t) (within_heads p ok t j))
      (sum_occurrences u (required p) (tails p t) (within_tails p ok t j))
    where
      times_sub : (a b c : ℤ) → a *ℤ (b -ℤ c) ≡ a *ℤ b -ℤ a *ℤ c
      times_sub a b c = simp zm

  module _ (ok : InPlan p) (feasible : Feasible p u) where
    -- weak duality for the required arcs and the links of t
    pub price_le : (t : List Link) → Joins p t → sum_ofℤ (map u (heads p t)) ≤ℤ (sum_ofℤ (map u (tails p t)) +ℤ pos (least_balancing p t))
    unfolding least_balancing reduced_cost
    price_le t j =
        weak_duality (distance p) u (heads p t) (tails p t) (same_length p ok t j)
        (λ s r m n. feasible s r ((within_heads p ok t j).among s m) ((within_tails p ok t j).among r n))

    -- R + Σ u·D + the reduced costs of t is at most the completion cost of t
    pub reduced_le : (t : List Link) → Joins p t
        → (pos (required_cost p) +ℤ price_of_imbalance p u +ℤ reduced_sum p u t) ≤ℤ pos (completion_cost p t)
    unfolding completion_cost price_of_imbalance heads tails
    reduced_le t j =
        let a = price_split ok [] (λ l m. elim m [ ]) in
        let b = price_le t j in
        let c = reduced_split t in
        let d = ends_split (λ l. l.head) (map (λ a. a.head) (required_arcs p)) t in
        let e = ends_split (λ l. l.tail) (map (λ a. a.tail) (required_arcs p)) t in
        rw (a, c) (simp zl (omega (arith, simp zl at b, simp zl at d, simp zl at e)))

    pub bound_le : (t : List Link) → Memᴰ t (arborescences p) → lagrangian_bound p u ≤ℤ pos (completion_cost p t)
    unfolding lagrangian_bound
    bound_le t m =
        let a = reduced_le t (joins p (arborescences_mem p m)) in
        let b = cheapest_le p u m in
        simp zl (omega (arith, z, simp zl at a))

    reduced_nonneg : (t : List Link) → Joins p t → pos 0 ≤ℤ reduced_sum p u t
    unfolding reduced_sum
    reduced_nonneg t j = sum_nonneg (λ l. reduced_cost p u l.tail l.head) t (λ l m. feasible l.tail l.head (j l m).0 (j l m).1)

    -- A(u) is not negative
    pub cheapest_nonneg : 0 < length (arborescences p) → pos 0 ≤ℤ cheapest_arborescence p u
    cheapest_nonneg h =
        let r = cheapest_at p u h in
        subst⁻¹ (λ (w : ℤ). pos 0 ≤ℤ w) r.2 (reduced_nonneg r.0 (joins p (arborescences_mem p r.1)))

-- L(u) ≥ R + Z
pub bound_ge : (p : Plan) (u : Multipliers) → InPlan p → AreMultipliers p u → 0 < length (arborescences p)
    → pos (required_cost p + least_balancing p []) ≤ℤ lagrangian_bound p u
unfolding lagrangian_bound
bound_ge p u ok h some =
    let a = cheapest_nonneg p u ok h.feasible some in
    let e = h.tight in
    rw e (simp zl (omega (arith, z)))

-- u = 0 is feasible
pub zero_feasible : (p : Plan) → Feasible p (λ i. pos 0)
unfolding reduced_cost
zero_feasible p i j m n = simp zl (omega arith)
