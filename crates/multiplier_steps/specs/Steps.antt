-- Multipliers between the steps of the ascent, one signed number for each of 64 vertices. None lies further from 0 than `beyond`, so that
-- no sum overflows; lawful ones lie far within.
use Rattle.std.specs.Prelude.{cond, List, ℕ, ◌<◌, max, length, get_or, set, replicate, ℤ, pos, neg_ℤ, ◌+ℤ◌, ◌-ℤ◌}
use Rattle.std.specs.Int.Signed.{lt_z, shr_z}
use Rattle.integers.specs.Linear.{Within}
use Rattle.residual_search.specs.Search.{beyond}
use Rattle.postman.specs.Steps.{cell}
use Rattle.multiplier_steps.specs.Turns.{turns}

-- None of 64 numbers is above m, or below −m.
abbrev pub AreSmall : ℕ → List ℤ → Type 0
AreSmall m x = (v : ℕ) → v < 64 → Within m (get_or x v (pos 0))

abbrev pub capped : ℤ → ℤ
capped a = cond (lt_z a (neg_ℤ (pos beyond))) (neg_ℤ (pos beyond)) (cond (lt_z (pos beyond) a) (pos beyond) a)

-- The multipliers of vs, capped, and 0 where a vertex is not among them.
unfoldable pub capped_all : List ℤ → List ℕ → List ℤ
unfolding turns
capped_all x vs = turns (λ s a. set s (get_or vs a 0) (capped (get_or x (get_or vs a 0) (pos 0)))) (replicate 64 (pos 0)) (length vs)

-- The multipliers less that of the first of vs, which is the root, and 0 where a vertex is not among them: a constant may be taken off.
unfoldable pub rooted : List ℤ → List ℕ → List ℤ
unfolding turns
rooted x vs =
    turns (λ s a. set s (get_or vs a 0) (get_or x (get_or vs a 0) (pos 0) -ℤ get_or x (get_or vs 0 0) (pos 0))) (replicate 64 (pos 0))
    (length vs)

-- What a step goes on from: the multipliers y, and half of what the last step changed, from
-- `before` to x, once more. The half is rounded down.
abbrev pub carried_to : ℤ → ℤ → ℤ → ℤ
carried_to y x before = y +ℤ shr_z (x -ℤ before) 2

unfoldable pub carried_on : List ℕ → List ℤ → List ℤ → List ℤ → List ℤ
unfolding turns
carried_on vs y x before =
    turns (λ s a. set s (get_or vs a 0)
    (carried_to (capped (get_or y (get_or vs a 0) (pos 0))) (get_or x (get_or vs a 0) (pos 0)) (get_or before (get_or vs a 0) (pos 0)))) y
    (length vs)

-- The largest distance to the first of vs: what the length of the first step is taken from.
unfoldable pub span : List (List ℕ) → List ℕ → ℕ
unfolding turns
span d vs = turns (λ m a. max m (cell d (get_or vs a 0) (get_or vs 0 0))) 0 (length vs)
