-- The multipliers that are answered are lawful, 0 at the root, and give a bound no lower than that of the greatest ones: each step of an
-- ascent keeps that of the best it has met, whatever multipliers it goes to.
use Rattle.std.specs.Prelude.{◌≡◌, Bool, true, ◌&&◌, List, [], ℕ, ◌%◌, ◌≤◌, ◌<◌, length, T, eqb, ℤ, ◌≤ℤ◌}
use Rattle.std.proofs.Math.Path.{refl, ap, subst⁻¹}
use Rattle.std.proofs.Common.{sym, ◌∙◌, subst, arith}
use Rattle.std.specs.Int.Signed.{lt_z, lt_z_yes}
use Rattle.integers.specs.Linear.{z, zl}
use Rattle.postman.specs.Lists.{below}
use Rattle.postman.specs.Plan.{Plan}
use Rattle.postman.specs.Required.{required}
use Rattle.postman.specs.Component.{component, component_count}
use Rattle.postman.specs.LagrangianBound.{Multipliers, AreGreatest, lagrangian_bound}
use Rattle.postman.specs.PlanCall.{root}
use Rattle.postman.specs.Laws.Tests.{cond_ind, and_parts}
use Rattle.postman_laws.specs.Laws.Multiplier.{greatest_unique}
use Rattle.postman.specs.Steps.{Plannable, cell}
use Rattle.postman_laws.specs.Laws.Required.{required_below}
use Rattle.residual_search.specs.Search.{beyond}
use Rattle.balance.specs.Balance.{balance}
use Rattle.residual_search.specs.Bounds.{AtMost}
use Rattle.balance.specs.Laws.Step.{vertices_small}
use Rattle.pair_costs.specs.PairCosts.{multipliers_in}
use Rattle.ascent.specs.Step.{Step, step}
use Rattle.ascent.specs.Laws.Bodies.{step_small}
use Rattle.multiplier_steps.specs.Turns.{turns}
use Rattle.multiplier_steps.specs.Steps.{AreSmall, rooted, span}
use Rattle.multiplier_steps.specs.Lawful.{are_lawful}
use Rattle.multiplier_steps.specs.Laws.Turns.{turns_keep}
use Rattle.multipliers.specs.Drive.{table_of}
use Rattle.multipliers.specs.declared.ascend.Setting.{Setting}
use Rattle.multipliers.specs.Ascent.{Climb, bound_of, amounts_of, is_lawful, from_root, step_from, attempt, climb, begin, components_of, greatest_of, multipliers_for}
use Rattle.multipliers.specs.Prepared.{IsKnown, IsPrepared, IsPricedIn}
use Rattle.multipliers.specs.Laws.Table.{filled}
use Rattle.multipliers.specs.Laws.Solve.{Rooted, some_component, greatest, root_required, greatest_rooted, lawful_at_root, priced}
use Rattle.multipliers.specs.Laws.Root.{some_place}
use Rattle.multipliers.specs.Laws.Lay.{base_metric}
use Rattle.lagrangian.specs.Laws.Bound.{multipliers_near}

-- THE BOUND THAT AN ASCENT HOLDS IS THAT OF ITS BEST MULTIPLIERS
module _ (p : Plan) where
  abbrev Bounded : Climb → Type 0
  Bounded c = c.bound ≡ bound_of p c.best

  attempt_bounded : (c : Climb) → Bounded c → Bounded (attempt p c)
  unfolding attempt
  attempt_bounded c h =
      cond_ind (is_lawful p c.multipliers && lt_z c.bound (bound_of p (from_root p c.multipliers))) _ c Bounded (λ t. refl) (λ t. h)

  climb_bounded : (c : Climb) (i : ℕ) → Bounded c → Bounded (climb p c i)
  unfolding climb
  climb_bounded c i h =
      cond_ind c.done c _ Bounded (λ t. h)
      (λ t. cond_ind (lt_z c.value _) (attempt p c) c Bounded (λ t. attempt_bounded c h) (λ t. h))

  pub ascent_bounded : (n : ℕ) → Bounded (turns (climb p) (begin p) n)
  unfolding begin
  ascent_bounded n = turns_keep (climb p) Bounded climb_bounded (begin p) refl n

module _ (p : Plan) (ok : Plannable p) (few : component_count p ≤ 8) where
  -- what the best of an ascent keeps
  record Kept (c : Climb) : Type 0 where
    pub rooted : Rooted p c.best
    pub bound_is : c.bound ≡ bound_of p c.best
    pub above : bound_of p (greatest_of p) ≤ℤ c.bound
    pub small : AreSmall beyond c.multipliers

  -- lawful multipliers that are 0 at the root are small
  pub rooted_small : (u : List ℤ) → Rooted p u → AreSmall beyond u
  rooted_small u r v l =
      let w = multipliers_near p ok (multipliers_in u) r.multipliers.feasible r.multipliers.elsewhere (root p)
      (root_required p ok few) r.at_root v in
      let a = w.low in
      let b = w.high in
      record { low = simp zl (omega (arith, z, simp zl at a)); high = simp zl (omega (arith, z, simp zl at b)) }

  attempt_kept : (c : Climb) → Kept c → Kept (attempt p c)
  unfolding attempt
  attempt_kept c h =
      let u = from_root p c.multipliers in
      cond_ind (is_lawful p c.multipliers && lt_z c.bound (bound_of p u)) _ c Kept
      (λ t.
      let s = and_parts (is_lawful p c.multipliers) (lt_z c.bound (bound_of p u)) t in
      record {
        rooted = lawful_at_root p ok few c.multipliers h.small s.0;
        bound_is = refl;
        above = (let a = h.above in let b = lt_z_yes {a = c.bound} {b = bound_of p u} s.1 in omega (arith, z));
        small = h.small;
      })
      (λ t. h)

  climb_kept : (c : Climb) (i : ℕ) → Kept c → Kept (climb p c i)
  unfolding climb
  climb_kept c i h =
      cond_ind c.done c _ Kept (λ t. h)
      (λ t.
      let b = cond_ind (lt_z c.value _) (attempt p c) c Kept (λ t. attempt_kept c h) (λ t. h) in
      record {
        rooted = b.rooted;
        bound_is = b.bound_is;
        above = b.above;
        small = step_small (table_of p) (amounts_of p) (required p) (eqb (i % 2) 1) (λ v m. required_below p ok.well_formed m)
            (components_of p) (component_count p) c.stride c.multipliers c.before;
      })

  ascent_kept : Kept (turns (climb p) (begin p) 20)
  unfolding begin
  ascent_kept =
      let r = greatest_rooted p ok few (greatest_of p) refl in
      turns_keep (climb p) Kept climb_kept (begin p)
      (record { rooted = r; bound_is = refl; above = omega (arith, z); small = rooted_small (greatest_of p) r }) 20

  -- THEY ARE LAWFUL, AND 0 AT THE ROOT
  pub answered_rooted : Rooted p (multipliers_for p)
  unfolding multipliers_for
  answered_rooted = ascent_kept.rooted

  -- AND THEIR BOUND IS NO LOWER THAN THAT OF THE GREATEST
  pub answered_above : (v : Multipliers) → AreGreatest p (root p) v → lagrangian_bound p v ≤ℤ bound_of p (multipliers_for p)
  unfolding multipliers_for greatest_of
  answered_above v g =
      let e = greatest_unique p (root p) v (multipliers_in (greatest_of p)) g (greatest p ok few) in
      let a = ascent_kept.above in
      let b = ascent_kept.bound_is in
      subst⁻¹ (λ (v : Multipliers). lagrangian_bound p v ≤ℤ bound_of p (multipliers_for p)) e
      (subst (λ (x : ℤ). bound_of p (greatest_of p) ≤ℤ x) b a)

-- ---- over the lists that the code has

module _ {p : Plan} {table : List (List ℕ)} {f vs : List ℕ} {s : Setting} (h : IsPrepared p table f vs s) where
  abbrev k : IsKnown p table vs
  k = h.known

  -- they are the plan's
  lists_are : (A : Type 0) (g : List (List ℕ) → List ℕ → List ℕ → A) → g table f vs ≡ g (table_of p) (amounts_of p) (required p)
  lists_are A g = rw (k.distances, h.amounts_are, k.vertices)

  components_are : s.component ≡ components_of p
  unfolding components_of below
  components_are =
      filled (component p) 0 s.component 0 64 h.component_long (λ j m. h.components.each j m ∙ ap (component p) (omega arith))

  pub lawful_as : (x : List ℤ) → are_lawful table f x vs ≡ is_lawful p x
  lawful_as x = lists_are Bool (λ t f v. are_lawful t f x v)

  pub rooted_as : (x : List ℤ) → rooted x vs ≡ from_root p x
  rooted_as x = ap (rooted x) k.vertices

  pub span_as : span table vs ≡ span (table_of p) (required p)
  span_as = lists_are ℕ (λ t f v. span t v)

  pub step_as : (c : Climb) (i : ℕ)
      → step table f vs s.component s.components (eqb (i % 2) 1) c.stride c.multipliers c.before ≡ step_from p c i
  step_as c i = rw (k.distances, h.amounts_are, k.vertices, components_are, h.components.all)

  -- what the functions of the ascent ask
  pub vertices_low : AtMost 63 vs
  vertices_low = vertices_small (cell table) vs (base_metric p table vs k)

  pub some_vertices : 0 < length vs
  some_vertices = some_place p table vs (balance (cell (table_of p)) p []) (record { known = k; base_is = refl })

  pub component_range : (1 ≤ s.components) × (s.components ≤ 8)
  component_range =
      let a = h.components.all in
      let b = some_component p k.plannable k.few in
      let e = k.few in
      (omega arith, omega arith)

  -- the bound of multipliers that are 0 at the root can be asked for
  rooted_priced : (u : List ℤ) → Rooted p u → IsPricedIn p table s u
  rooted_priced u e =
      priced p table vs (balance (cell (table_of p)) p []) (record { known = k; base_is = refl }) u e s.component s.required
      s.components s.required_cost s.imbalance h.required_long h.required_flags h.components h.cost h.imbalance

  -- so can that of the greatest ones
  pub greatest_priced : (u : List ℤ) → u ≡ greatest_of p → IsPricedIn p table s u
  greatest_priced u e = rooted_priced u (greatest_rooted p k.plannable k.few u e)

  pub greatest_small : (u : List ℤ) → u ≡ greatest_of p → AreSmall beyond u
  greatest_small u e = rooted_small p k.plannable k.few u (greatest_rooted p k.plannable k.few u e)

  -- and that of multipliers that pass the test
  pub lawful_priced : (x : List ℤ) → AreSmall beyond x → {b : Bool} → b ≡ are_lawful table f x vs → b ≡ true → (u : List ℤ)
      → u ≡ rooted x vs → IsPricedIn p table s u
  lawful_priced x small e y u eu =
      let t : T (is_lawful p x) = subst⁻¹ (λ (b : Bool). T b) (sym (lawful_as x) ∙ sym e ∙ y) tt in
      rooted_priced u (subst⁻¹ (Rooted p) (eu ∙ rooted_as x) (lawful_at_root p k.plannable k.few x small t))

  -- a step from whatever multipliers goes to small ones
  pub stepped_small : (n : Step) (up : Bool) (l : ℕ) (x before : List ℤ) → n ≡ step table f vs s.component s.components up l x before
      → AreSmall beyond n.multipliers
  stepped_small n up l x before e =
      subst⁻¹ (λ (n : Step). AreSmall beyond n.multipliers) e
      (step_small table f vs up (base_metric p table vs k).small s.component s.components l x before)
