-- The search starts with the multipliers as potentials: they are feasible, and they price the imbalance at what balancing the required arcs
-- costs, so that nothing which is sent has a reduced cost. A constant on all of them changes neither.
use Rattle.std.specs.Prelude.{◌≡◌, ℕ, ◌+◌, ◌≤◌, length, get_or, ℤ, pos, negsuc, nat_abs, ◌+ℤ◌, ◌-ℤ◌, ◌≤ℤ◌}
use Rattle.std.proofs.Common.{subst}
use Rattle.std.proofs.Math.Path.{subst⁻¹}
use mathlib.Core.List.Memᴰ
use mathlib.Core.List.{List, [], map, Memᴰ}
use native.Mathlib.Omega.{arith}
use Rattle.std.proofs.Math.ListN.{length-append, length-map}
use Rattle.integers.specs.Linear.{z, zl, pos_abs}
use Rattle.postman.specs.Plan.{Plan, required_arcs}
use Rattle.postman.specs.Required.{required}
use Rattle.postman.specs.Link.{Link}
use Rattle.postman.specs.Balancing.{heads as heads-of, tails as tails-of}
use Rattle.postman.specs.Steps.{Joins, cell, amount}
use Rattle.postman_laws.specs.Laws.Balancing.{within_heads, within_tails}
use Rattle.postman.specs.Laws.Membership.{mem_get_d}
use Rattle.balance.specs.Optimality.{ArePotentials, Tight}
use Rattle.residual_search.specs.Step.{State, potential}
use Rattle.balance.specs.Invariant.{Certified, Counted}
use Rattle.balance.specs.Balance.{balance}
use Rattle.direct_amounts.specs.Laws.Plan.{balance_certified, balance_counted, multipliers_heights}
use Rattle.balance.specs.Laws.Repriced.{repriced, repriced_certified, repriced_counted}
use Rattle.tree_bounds.specs.Prepared.{Prepared}
use Rattle.branches.specs.Branches.{AreGiven}
use Rattle.tree_bounds.specs.Reducible.{AreShifted}
use Rattle.tree_bounds.specs.Laws.Prepared.{in_plan, agrees}

-- a number and its magnitude
with_magnitude : (x : ℤ) → pos 0 ≤ℤ (x +ℤ pos (nat_abs x))
with_magnitude (pos n) = simp zl (omega arith)
with_magnitude (negsuc n) = simp zl (omega (arith, z))

module _ {p : Plan} {table : List (List ℕ)} {vs start source tails heads : List ℕ} {k : ℕ}
    (h : Prepared p table vs start source tails heads k)
    {base : State} {u : List ℤ} {r : ℕ} {entries : List ℕ} (g : AreGiven p table base u r entries) (w : List ℕ)
    (s : AreShifted u vs (length vs) w) where
  abbrev mu : ℕ → ℤ
  mu i = get_or u i (pos 0)

  abbrev low : ℤ
  low = mu (get_or vs 0 0)

  abbrev rise : ℕ
  rise = nat_abs (low +ℤ pos (nat_abs low))

  abbrev q : ℕ → ℕ
  q i = get_or w i 0 + rise

  shifted : (v : ℕ) → Memᴰ v (required p) → pos (get_or w v 0) ≡ mu v -ℤ low +ℤ pos 4128705
  shifted v m =
      let x = mem_get_d 0 (subst⁻¹ (λ (l : List ℕ). Memᴰ v l) h.vertices m) in
      subst (λ v. pos (get_or w v 0) ≡ mu v -ℤ low +ℤ pos 4128705) x.2 (s.each x.0 x.1)

  here : (i : ℕ) → Memᴰ i (required p) → mu i +ℤ pos (4128705 + nat_abs low) ≡ pos (q i)
  here i m =
      let a = shifted i m in
      let b = pos_abs (with_magnitude low) in
      simp zl (omega (arith, z, simp zl at a, simp zl at b))

  abbrev s₀ : State
  s₀ = balance (cell table) p []

  none : Joins p []
  none l m = absurd (Memᴰ.not-nil m)

  both : ArePotentials (cell table) (required p) q × Tight (cell table) (required p) (amount s₀.amounts) q
  both = multipliers_heights p h.plannable.well_formed h.plannable.connected (cell table) (agrees h) mu g.multipliers q
      (4128705 + nat_abs low) here

  feasible : ArePotentials (cell table) (required p) (potential w)
  feasible i j mi mj = let a = both.0 i j mi mj in omega arith

  tight : Tight (cell table) (required p) (amount s₀.amounts) (potential w)
  tight i j mi mj o = let a = both.1 i j mi mj o in omega arith

  certified : Certified (cell table) (required p) s₀
  certified = balance_certified p h.plannable.well_formed h.plannable.connected (cell table) (agrees h) [] none (omega arith)

  counted : Counted (required p) s₀ (heads-of p []) (tails-of p [])
  counted = balance_counted p h.plannable.well_formed h.plannable.connected (cell table) (agrees h) [] none (omega arith)

  some_arc : 1 ≤ s₀.count
  unfolding heads-of
  some_arc =
      let e = counted.number in
      let a = length-append (map (λ a. a.head) (required_arcs p)) (map (λ (l : Link). l.head) []) in
      let c = length-map (required_arcs p) (λ a. a.head) in
      let o = h.plannable.some_arc in
      omega arith

  -- THE STATE OF THE REQUIRED ARCS, WITH THE MULTIPLIERS AS ITS POTENTIALS
  pub start_certified : Certified (cell table) (required p) (repriced base w)
  start_certified =
      subst⁻¹ (λ (b : State). Certified (cell table) (required p) (repriced b w)) g.base_is
      (repriced_certified (cell table) (required p) s₀ w feasible tight certified s.size some_arc s.low)

  pub start_counted : Counted (required p) (repriced base w) (heads-of p []) (tails-of p [])
  start_counted =
      subst⁻¹ (λ (b : State). Counted (required p) (repriced b w) (heads-of p []) (tails-of p [])) g.base_is
      (repriced_counted (cell table) (required p) s₀ w feasible tight (heads-of p []) (tails-of p []) (within_heads p (in_plan h) [] none)
      (within_tails p (in_plan h) [] none) certified counted)
