-- The circuit: one closed walk that uses each of some legs once. The legs are given by their tails and their heads; leg e goes from the eth
-- tail to the eth head. Hierholzer's way: walk on from leg 0 by unused legs, always by the first there is; where there is none, the last
-- leg of the walk has its final place, in front of those that were placed before it, and the walk goes on from its tail.
use Rattle.std.specs.Prelude.{Bool, cond, ◌&&◌, List, [], ◌∷◌, ℕ, zero, suc, ◌+◌, ◌-◌, ◌*◌, length, get_or, eqb, ltb}
use Rattle.postman.specs.Lists.{below, first_index, occurrences}

-- The walk so far, its last leg first, and the end of the circuit.
pub record CircuitState : Type 0 where
  pub walk : List ℕ
  pub placed : List ℕ

-- Whether leg e leaves vertex v and is in neither list yet.
unfoldable pub is_free : List ℕ → List ℕ → List ℕ → ℕ → ℕ → Bool
unfolding occurrences
is_free tails walk placed v e = eqb (get_or tails e 0) v && eqb (occurrences e walk + occurrences e placed) 0

-- The first such leg; the number of legs where there is none.
unfoldable pub next_leg : List ℕ → List ℕ → List ℕ → ℕ → ℕ
unfolding first_index is_free below
next_leg tails walk placed v = first_index (is_free tails walk placed v) (below (length tails))

unfoldable pub step : List ℕ → List ℕ → List ℕ → List ℕ → CircuitState
unfolding next_leg
step tails heads [] placed = record { walk = []; placed = placed }
step tails heads (k ∷ walk) placed =
    let e = next_leg tails (k ∷ walk) placed (get_or heads k 0) in
    cond (ltb e (length tails)) (record { walk = e ∷ k ∷ walk; placed = placed }) (record { walk = walk; placed = k ∷ placed })

-- What is placed after n steps.
unfoldable pub run : List ℕ → List ℕ → ℕ → List ℕ → List ℕ → List ℕ
unfolding step
run tails heads zero walk placed = placed
run tails heads (suc n) walk placed = let s = step tails heads walk placed in run tails heads n s.walk s.placed

-- Each leg is walked once and placed once, but for leg 0, with which the walk begins.
unfoldable pub circuit : List ℕ → List ℕ → List ℕ
unfolding run
circuit tails heads = run tails heads (2 * length tails - 1) (0 ∷ []) []
