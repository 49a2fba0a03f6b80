-- Multipliers of the plan renumbered, carried back, are multipliers of the plan: reduced costs are the same, and so is the sum of u(i) ×
-- D(i), which is u's sum over the heads less that over the tails. So a lower bound of the plan renumbered is one of the plan: it has the
-- same drives, at the same costs, and the same R and Z.
use Rattle.std.specs.Prelude.{◌≡◌, ℕ, ◌+◌, ◌≤◌, ℤ, ◌+ℤ◌, ◌≤ℤ◌, T}
use Rattle.std.proofs.Math.Path.{sym, ap, ap₂, fun_ext}
use Rattle.std.proofs.Common.{◌∙◌, subst}
use mathlib.Core.List.{List, [], map}
use Rattle.std.proofs.Math.IntN.{pos, ◌-ℤ◌}
use Rattle.postman.specs.Lists.{sum_ofℤ}
use Rattle.postman.specs.Plan.{Plan, WellFormed}
use Rattle.postman.specs.Drive.{IsDrive, drive_cost}
use Rattle.postman.specs.Required.{required_cost}
use Rattle.postman.specs.Balancing.{heads, tails, least_balancing}
use Rattle.postman.specs.LagrangianBound.{Multipliers, reduced_cost, price_of_imbalance, AreMultipliers}
use Rattle.postman.specs.PlanCall.{is_whole, best_cost, lower_bound}
use Rattle.postman.specs.Guarantee.{Guarantee}
use Rattle.postman.specs.Renumbering.{IsNumbering, renumbered, carried}
use Rattle.postman_laws.specs.Laws.Distance.{bounded}
use Rattle.postman_laws.specs.Laws.SignedSum.{sum_map}
use Rattle.postman_laws.specs.Laws.LagrangianBound.{price_split}
use Rattle.postman_laws.specs.Laws.Renumbering.{renumbered_well_formed, renumbered_cost}
use Rattle.postman_laws.specs.Laws.RenumberedDrive.{drives, drive_cost_lem}
use Rattle.postman_laws.specs.Laws.RenumberedDistance.{distance_renumbered}
use Rattle.postman_laws.specs.Laws.RenumberedComponents.{requireds}
use Rattle.postman_laws.specs.Laws.RenumberedBalancing.{heads_renumbered, tails_renumbered, balancing_renumbered}

-- ---- multipliers

module _ (p : Plan) {π σ : ℕ → ℕ} (h : IsNumbering p.n π σ) (u : Multipliers) where
  abbrev q : Plan
  q = renumbered p π

  reduced_renumbered : (i j : ℕ) → reduced_cost q u (π i) (π j) ≡ reduced_cost p (carried π u) i j
  unfolding reduced_cost
  reduced_renumbered i j = ap (λ d. pos d -ℤ u (π i) +ℤ u (π j)) (distance_renumbered p h i j)

  pub price_renumbered : WellFormed p → price_of_imbalance q u ≡ price_of_imbalance p (carried π u)
  unfolding price_of_imbalance
  price_renumbered ok =
      let over : (f g : List ℕ) → g ≡ map π f → sum_ofℤ (map u g) ≡ sum_ofℤ (map (carried π u) f) =
      λ f g e. ap (λ (l : List ℕ). sum_ofℤ (map u l)) e ∙ sum_map π u f in
      price_split q u (bounded (renumbered_well_formed p h ok)).ends [] (λ l m. elim m [ ])
      ∙ ap₂ ◌-ℤ◌ (over (heads p []) (heads q []) (heads_renumbered p π [])) (over (tails p []) (tails q []) (tails_renumbered p π []))
      ∙ sym (price_split p (carried π u) (bounded ok).ends [] (λ l m. elim m [ ]))

  pub multipliers_back : WellFormed p → AreMultipliers q u → AreMultipliers p (carried π u)
  multipliers_back ok m = record {
    elsewhere = λ i n. m.elsewhere (π i) (λ r. n ((requireds p h i).0 r));
    feasible = λ i j a b. subst (λ (c : ℤ). pos 0 ≤ℤ c) (reduced_renumbered i j)
        (m.feasible (π i) (π j) ((requireds p h i).1 a) ((requireds p h j).1 b));
    tight = sym (price_renumbered ok) ∙ m.tight ∙ ap pos (balancing_renumbered p h []);
  }

  -- carried back and into the plan renumbered again, they are what they were
  pub carried_again : carried σ (carried π u) ≡ u
  carried_again = fun_ext (λ i. ap u (h.forth i))

-- ---- the lower bound

module _ (p : Plan) {π σ : ℕ → ℕ} (h : IsNumbering p.n π σ) (budget : ℕ) (u : Multipliers)
    (g : Guarantee (renumbered p π) budget u) where
  pub below_drives : (w : List ℕ) → IsDrive p w → lower_bound (renumbered p π) budget u ≤ℤ pos (drive_cost p w)
  below_drives w t =
      subst (λ c. lower_bound (renumbered p π) budget u ≤ℤ pos c) (drive_cost_lem p π w) (g.below_every_drive w ((drives p h w).1 t))

  -- where all trees were tried, no drive is cheaper
  pub least_cost : T (is_whole (renumbered p π) budget) → (w : List ℕ) → IsDrive p w → best_cost (renumbered p π) budget ≤ drive_cost p w
  least_cost e w t = subst (λ c. best_cost (renumbered p π) budget ≤ c) (drive_cost_lem p π w) (g.whole_least e w ((drives p h w).1 t))

  -- R + Z
  pub above_balancing : pos (required_cost p + least_balancing p []) ≤ℤ lower_bound (renumbered p π) budget u
  above_balancing =
      subst (λ c. pos c ≤ℤ lower_bound (renumbered p π) budget u) (ap₂ ◌+◌ (renumbered_cost p π) (balancing_renumbered p h []))
      g.above_balancing
