-- What the cheapest arborescence is asked: multipliers with reduced costs that are not negative, 0 at a required vertex, are bounded by
-- distances; so are the reduced costs, and A(u).
use Rattle.std.specs.Prelude.{◌≡◌, refl, Bool, true, false, ℕ, ◌*◌, ◌≤◌, ◌<◌, length, get_or, replicate, T, ℤ, ◌+ℤ◌, ◌-ℤ◌, ◌≤ℤ◌}
use Rattle.std.proofs.Common.{sym, ◌∙◌, subst, inl, inr, arith}
use Rattle.std.proofs.Math.Path.{ap, ap₂, subst⁻¹, fun_ext}
use mathlib.Core.List.{List, [], ◌∷◌, Memᴰ}
use Rattle.std.proofs.Math.Decide.{dec_le}
use Rattle.std.proofs.Math.ListN.{get_or-eq_default}
use Rattle.std.proofs.Math.IntN.{pos}
use Rattle.integers.specs.Linear.{z, zl, Within}
use Rattle.postman.specs.Lists.{sum_ofℤ, below}
use Rattle.postman.specs.Plan.{Plan, WellFormed}
use Rattle.postman.specs.Required.{required, is_required, required_cost}
use Rattle.postman.specs.Distance.{distance}
use Rattle.postman.specs.Link.{Link}
use Rattle.postman.specs.Arborescence.{arborescence_count}
use Rattle.postman.specs.LagrangianBound.{Multipliers, reduced_cost, reduced_sum, cheapest_arborescence, lagrangian_bound}
use Rattle.postman.specs.Laws.Tests.{is_true}
use Rattle.postman.specs.Laws.Membership.{select_mem, mem_select, mem_below}
use Rattle.postman_laws.specs.Laws.Occurrences.{mem?}
use Rattle.postman_laws.specs.Laws.Distance.{bounded}
use Rattle.postman_laws.specs.Laws.Required.{required_below}
use Rattle.postman_laws.specs.Laws.Component.{component_lt}
use Rattle.postman.specs.Steps.{Joins, Feasible, Plannable}
use Rattle.postman_laws.specs.Laws.Arborescence.{arborescences_mem, joins}
use Rattle.postman_laws.specs.Laws.LagrangianBound.{cheapest_at, cheapest_nonneg, zero_feasible}
use Rattle.postman_laws.specs.Laws.Optimality.{some_arborescence}
use Rattle.balance.specs.Invariant.{Metric}
use Rattle.residual_search.specs.Laws.Fill.{zero_at}
use Rattle.direct_amounts.specs.Laws.Plan.{plan_metric}
use Rattle.cheapest_tree.specs.CostMatrix.{highest}
use Rattle.pair_costs.specs.PairCosts.{ArePairCosts, HoldsNetwork, multipliers_in}
use Rattle.network.specs.Laws.Vertices.{required_of_64}
use Rattle.tree_bounds.specs.Laws.Prepared.{required_small}
use Rattle.multiplier_steps.specs.Steps.{AreSmall}
use Rattle.lagrangian.specs.Price.{price_of}
use Rattle.lagrangian.specs.Priced.{IsPriced}
use Rattle.lagrangian.specs.Laws.Price.{price_is, imbalance_small}

-- a required vertex's flag is set, and only theirs
module _ (p : Plan) (flags : List Bool) (h : (v : ℕ) → v < 64 → get_or flags v false ≡ is_required p v) (ok : WellFormed p) where
  flag_of : (v : ℕ) → Memᴰ v (required p) → get_or flags v false ≡ true
  unfolding required
  flag_of v m = h v (required_below p ok m) ∙ is_true (select_mem (is_required p) (below p.n) m).1

-- |u| is at most a distance, where u is 0 at a required vertex
pub multipliers_near : (p : Plan) → Plannable p → (u : Multipliers) → Feasible p u
    → ((i : ℕ) → (Memᴰ i (required p) → ⊥) → u i ≡ pos 0) → (root : ℕ) → Memᴰ root (required p) → u root ≡ pos 0
    → (v : ℕ) → Within 4128705 (u v)
unfolding reduced_cost
multipliers_near p ok u feasible elsewhere root mr at_root v = elim (mem? v (required p)) [
  | inl m ↦
      let metric = plan_metric p ok.well_formed ok.connected in
      let a = feasible v root m mr in
      let b = feasible root v mr m in
      let e = metric.bound v root m mr in
      let f = metric.bound root v mr m in
      record { low = simp zl (omega (arith, simp zl at b, z)); high = simp zl (omega (arith, simp zl at a, z)) }
  | inr n ↦ let e = elsewhere v n in record { low = simp zl (omega (arith, z)); high = simp zl (omega (arith, z)) }
]

module _ (p : Plan) (table : List (List ℕ)) (u : List ℤ) (c : List ℕ) (flags : List Bool) (k r : ℕ) (d : List ℤ)
    (h : IsPriced p table u c flags k r d) where
  abbrev U : ℕ → ℤ
  U = multipliers_in u

  metric : Metric (distance p) (required p)
  metric = plan_metric p h.plannable.well_formed h.plannable.connected

  reduced_high : (i j : ℕ) → Memᴰ i (required p) → Memᴰ j (required p) → reduced_cost p U i j ≤ℤ pos highest
  unfolding reduced_cost
  reduced_high i j mi mj =
      let a = h.feasible j i mj mi in
      let b = metric.bound i j mi mj in
      let e = metric.bound j i mj mi in
      simp zl (omega (arith, simp zl at a))

  multiplier_small : (v : ℕ) → Within 4128705 (U v)
  multiplier_small = multipliers_near p h.plannable U h.feasible h.elsewhere h.root h.root_required h.at_root

  module _ (long : length flags ≡ 64) where
    -- only required vertices are flagged
    member : (i : ℕ) → get_or flags i false ≡ true → Memᴰ i (required p)
    member i e = elim (dec_le 64 i) [
      | yes l ↦ let q : get_or flags i false ≡ false = get_or-eq_default flags false (omega arith) in
          let w : ◌≡◌ {A = Bool} false true = sym q ∙ e in absurd (true_false w)
      | no l ↦ subst (λ (xs : List ℕ). Memᴰ i xs) (required_of_64 p h.plannable.well_formed)
          (mem_select (is_required p) (mem_below {n = 64} (omega arith))
          (subst (λ (b : Bool). T b) (sym e ∙ h.required_flags i (omega arith)) tt))
    ]
      where
        true_false : ◌≡◌ {A = Bool} false true → ⊥
        true_false w = subst⁻¹ (λ (b : Bool). T b) w tt

    pub are_costs : ArePairCosts table u c flags
    unfolding reduced_cost
    are_costs = record {
      in_range = λ v l e. (
          let m = member v e in
          let a = component_lt p (bounded h.plannable.well_formed).ends m in
          let b = h.components.each v l in
          let d = h.components.all in
          let f = h.few in
          omega arith);
      small = λ v l.
          (let w = multiplier_small v in
          record { low = simp zl (omega (arith, z, simp zl at w.low)); high = simp zl (omega (arith, z, simp zl at w.high)) });
      low = λ i j li lj ei ej. subst⁻¹ (λ (n : ℕ). pos 0 ≤ℤ (pos n -ℤ U i +ℤ U j)) (h.distances i j li lj)
          (h.feasible i j (member i ei) (member j ej));
      high = λ i j li lj ei ej. subst⁻¹ (λ (n : ℕ). (pos n -ℤ U i +ℤ U j) ≤ℤ pos highest) (h.distances i j li lj)
          (reduced_high i j (member i ei) (member j ej));
    }

    pub is_network : HoldsNetwork p table c flags k
    is_network = record {
      components = h.components.all;
      distances = λ i j mi mj. h.distances i j (small mi) (small mj);
      component_of = λ i m. h.components.each i (small m);
      is_required_holds = member;
      required_is = λ i m. flag_of p flags h.required_flags h.plannable.well_formed i m;
    }
      where
        small : {i : ℕ} → Memᴰ i (required p) → i < 64
        small = required_below p h.plannable.well_formed

  -- ---- A(u) is small

  sum_high : (t : List Link) → Joins p t → reduced_sum p U t ≤ℤ pos (length t * highest)
  unfolding reduced_sum sum_ofℤ
  sum_high [] j = simp zl (omega arith)
  sum_high (l ∷ t) j =
      let a = sum_high t (λ m k. j m (Memᴰ.tail k)) in
      let b = reduced_high l.tail l.head (j l (Memᴰ.head refl)).0 (j l (Memᴰ.head refl)).1 in
      simp zl (omega (arith, z, simp zl at a, simp zl at b))

  pub cheapest_small : (pos 0 ≤ℤ cheapest_arborescence p U) × (cheapest_arborescence p U ≤ℤ pos 66059280)
  unfolding arborescence_count
  cheapest_small =
      let n = some_arborescence p h.plannable in
      let r = cheapest_at p U n in
      let tree = arborescences_mem p r.1 in
      let a = sum_high r.0 (joins p tree) in
      let s = tree.size in
      let f = h.few in
      let k = h.components.all in
      let e = r.2 in (
        cheapest_nonneg p U (bounded h.plannable.well_formed).ends h.feasible n,
        subst⁻¹ (λ (x : ℤ). x ≤ℤ pos 66059280) e (simp zl (omega (arith, z, simp zl at a))),
      )

  -- the sum of u(i) × D(i) is small, and with R and A(u) it is L(u)
  pub multipliers_small : AreSmall 4128705 u
  multipliers_small v l = multiplier_small v

  pub imbalances_small : AreSmall 256 d
  imbalances_small v l = subst⁻¹ (Within 256) (h.imbalance v l) (imbalance_small p h.plannable.well_formed v)

  pub bound_is : (s a : ℤ) → s ≡ price_of u d 64 → a ≡ cheapest_arborescence p U → pos r +ℤ s +ℤ a ≡ lagrangian_bound p U
  unfolding lagrangian_bound
  bound_is s a es ea =
      let e = es ∙ price_is p h.plannable.well_formed u d h.imbalance h.elsewhere in
      ap (λ (x : ℕ). pos x +ℤ s +ℤ a) h.cost ∙ ap₂ (λ (x y : ℤ). pos (required_cost p) +ℤ x +ℤ y) e ea

  pub cheapest_within : (a : ℤ) → a ≡ cheapest_arborescence p U → Within 66059280 a
  cheapest_within a e = let s = cheapest_small in record { low = simp zl (omega (arith, z, s.0)); high = simp zl (omega (arith, z, s.1)) }

  -- R is small
  pub cost_small : r ≤ 4398046511104
  cost_small = let a = h.cost in let b = required_small p h.plannable.well_formed in omega arith

-- ---- u = 0

zeros_are : multipliers_in (replicate 64 (pos 0)) ≡ (λ (i : ℕ). pos 0)
zeros_are = fun_ext (λ i. zero_at 64 i (pos 0))

pub zero_bound : (p : Plan) → lagrangian_bound p (multipliers_in (replicate 64 (pos 0))) ≡ lagrangian_bound p (λ i. pos 0)
zero_bound p = ap (lagrangian_bound p) zeros_are

-- what is known of a plan and multipliers is known of it and 0
pub zero_priced : {p : Plan} {table : List (List ℕ)} {u : List ℤ} {c : List ℕ} {flags : List Bool} {k r : ℕ} {d : List ℤ}
    → IsPriced p table u c flags k r d → IsPriced p table (replicate 64 (pos 0)) c flags k r d
zero_priced {p} h = record {
  plannable = h.plannable;
  few = h.few;
  some = h.some;
  distances = h.distances;
  long = h.long;
  required_flags = h.required_flags;
  components = h.components;
  cost = h.cost;
  imbalance = h.imbalance;
  feasible = subst⁻¹ (Feasible p) zeros_are (zero_feasible p);
  elsewhere = λ i n. zero_at 64 i (pos 0);
  root = h.root;
  root_required = h.root_required;
  at_root = zero_at 64 h.root (pos 0);
}
