-- The cheapest pair for each two components: for each of 8 rows of 8 the least reduced cost of a pair of vertices, and the
-- first pair that has it, as 64 × tail + head.
use Rattle.std.specs.Prelude.{Bool, cond, List, ℕ, ◌+◌, ◌*◌, ◌%◌, length, get_or, set, ℤ, pos}
use Rattle.std.proofs.Math.ListN.{replicate}
use Rattle.std.specs.Int.Signed.{lt_z}
use Rattle.residual_search.specs.Search.{beyond}
use Rattle.pair_costs.specs.PairCosts.{cost_of}
use Rattle.multiplier_steps.specs.Turns.{turns}

abbrev pub Offers : Type 0
Offers = List ℤ × List ℕ

abbrev pub part : List ℕ → ℕ → ℕ
part component v = get_or component v 0 % 8

module _ (d : List (List ℕ)) (x : List ℤ) (component : List ℕ) where
  abbrev pub entry_for : ℕ → ℕ → ℕ
  entry_for i j = part component i * 8 + part component j

  -- The pair from i to j is offered.
  abbrev pub is_cheaper : Offers → ℕ → ℕ → Bool
  is_cheaper s i j = lt_z (cost_of d x i j) (get_or s.0 (entry_for i j) (pos 0))

  abbrev pub offer : ℕ → Offers → ℕ → Offers
  offer i s j = cond (is_cheaper s i j) (set s.0 (entry_for i j) (cost_of d x i j), set s.1 (entry_for i j) (i * 64 + j)) s

  module _ (vs : List ℕ) where
    unfoldable pub offers_from : Offers → ℕ → Offers
    unfolding turns
    offers_from s i = turns (λ s b. offer i s (get_or vs b 0)) s (length vs)

    unfoldable pub offers : Offers
    unfolding turns offers_from
    offers = turns (λ s a. offers_from s (get_or vs a 0)) (replicate 64 (pos beyond), replicate 64 0) (length vs)
