-- Multipliers u and the bound L(u) that they give.
use Rattle.std.specs.Prelude.{◌≡◌, ℕ, ℤ, pos, ◌+ℤ◌, ◌-ℤ◌, ◌*ℤ◌, ◌≤ℤ◌}
use mathlib.Core.List.{List, [], map, Memᴰ}
use Rattle.postman.specs.Lists.{sum_ofℤ, minimumℤ}
use Rattle.postman.specs.Plan.{Plan}
use Rattle.postman.specs.Required.{required, required_cost}
use Rattle.postman.specs.Distance.{distance}
use Rattle.postman.specs.Link.{Link}
use Rattle.postman.specs.Arborescence.{arborescences}
use Rattle.postman.specs.Balancing.{imbalance, least_balancing}

-- "u: one signed multiplier per vertex"
abbrev pub Multipliers : Type 0
Multipliers = ℕ → ℤ

-- "A link's reduced cost is d(i,j) − u(i) + u(j)."
unfoldable pub reduced_cost : Plan → Multipliers → ℕ → ℕ → ℤ
unfolding distance
reduced_cost p u i j = pos (distance p i j) -ℤ u i +ℤ u j

unfoldable pub reduced_sum : Plan → Multipliers → List Link → ℤ
unfolding sum_ofℤ reduced_cost
reduced_sum p u t = sum_ofℤ (map (λ l. reduced_cost p u l.tail l.head) t)

-- "A(u) is the least sum of reduced costs over all trees."
unfoldable pub cheapest_arborescence : Plan → Multipliers → ℤ
unfolding arborescences minimumℤ reduced_sum
cheapest_arborescence p u = minimumℤ (map (reduced_sum p u) (arborescences p))

-- "sum of u(i) × D(i)"
unfoldable pub price_of_imbalance : Plan → Multipliers → ℤ
unfolding sum_ofℤ imbalance required
price_of_imbalance p u = sum_ofℤ (map (λ i. u i *ℤ imbalance p [] i) (required p))

-- "L(u) = R + (sum of u(i) × D(i)) + A(u)."
unfoldable pub lagrangian_bound : Plan → Multipliers → ℤ
unfolding required_cost price_of_imbalance cheapest_arborescence
lagrangian_bound p u = pos (required_cost p) +ℤ price_of_imbalance p u +ℤ cheapest_arborescence p u

-- "u is free within this: every pair of required vertices has d(i,j) − u(i) + u(j) ≥ 0, and the sum of
-- u(i) × D(i) is Z"; u is "0 where not required".
pub record AreMultipliers (p : Plan) (u : Multipliers) : Type 0 where
  pub elsewhere : (i : ℕ) → (Memᴰ i (required p) → ⊥) → u i ≡ pos 0
  pub feasible : (i j : ℕ) → Memᴰ i (required p) → Memᴰ j (required p) → pos 0 ≤ℤ reduced_cost p u i j
  pub tight : price_of_imbalance p u ≡ pos (least_balancing p [])

-- The greatest multipliers that are 0 at a root, which is a required vertex. `Laws.Multiplier`: a root has at most one such u. Those that
-- we answer are found from them, and give a bound no lower.
pub record AreGreatest (p : Plan) (root : ℕ) (u : Multipliers) : Type 0 where
  pub multipliers : AreMultipliers p u
  pub at_root : u root ≡ pos 0
  pub greatest : (v : Multipliers) → AreMultipliers p v → v root ≡ pos 0 → (i : ℕ) → v i ≤ℤ u i
