-- The test of multipliers: document 01's first condition for every pair of vs, and that a pair's reduced cost is 0
-- where something is sent, which gives the second.
use Rattle.std.specs.Prelude.{Bool, cond, ◌&&◌, List, ℕ, ltb, length, get_or, ℤ, pos, ◌+ℤ◌, ◌-ℤ◌}
use Rattle.std.proofs.Math.Bool.{true}
use Rattle.std.specs.Int.Signed.{le_z}
use Rattle.postman.specs.Steps.{cell, amount}
use Rattle.multiplier_steps.specs.Turns.{turns}

abbrev pub passes : ℕ → ℕ → ℤ → ℤ → Bool
passes d f xi xj = le_z (pos 0) (pos d -ℤ xi +ℤ xj) && cond (ltb 0 f) (le_z (pos d -ℤ xi +ℤ xj) (pos 0)) true

module _ (d : List (List ℕ)) (f : List ℕ) (x : List ℤ) where
  abbrev pub is_pair_lawful : ℕ → ℕ → Bool
  is_pair_lawful i j = passes (cell d i j) (amount f i j) (get_or x i (pos 0)) (get_or x j (pos 0))

  module _ (vs : List ℕ) where
    unfoldable pub is_vertex_lawful : ℕ → Bool
    unfolding turns
    is_vertex_lawful i = turns (λ b a. b && is_pair_lawful i (get_or vs a 0)) true (length vs)

    unfoldable pub are_lawful : Bool
    unfolding turns is_vertex_lawful
    are_lawful = turns (λ b a. b && is_vertex_lawful (get_or vs a 0)) true (length vs)
