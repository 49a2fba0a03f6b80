-- Multipliers brought back under document 01's two conditions. Between the vertices vs every pair asks x(v) ≤ x(w) + d(v,w), and where
-- something is sent from w to v it asks x(v) ≤ x(w) − d(w,v). Lowered, each multiplier becomes the largest that all others allow; raised
-- (`up`), the least, by the same pairs read the other way. A vertex whose multiplier has changed is open, until it has asked of all others.
use Rattle.std.specs.Prelude.{Bool, true, not, ◌&&◌, List, eqb, ltb, ℤ, pos, ◌+ℤ◌, ◌-ℤ◌, length, get_or}
use Rattle.std.proofs.Math.Bool.{cond}
use Prim.Native.Nat.{ℕ, zero, suc, ◌+◌, ◌*◌}
use Rattle.std.proofs.Math.ListN.{set, replicate}
use Rattle.std.specs.Int.Signed.{lt_z}
use Rattle.postman.specs.Steps.{cell}
use Rattle.multiplier_steps.specs.Turns.{turns}
use Rattle.multiplier_steps.specs.Steps.{capped, capped_all}

-- Multipliers, and 1 for the vertices that are open.
abbrev pub Tide : Type 0
Tide = List ℤ × List ℕ

-- Where the amount stands that says which of the two w asks of v.
abbrev pub back_place : Bool → ℕ → ℕ → ℕ
back_place up v w = cond up (v * 64 + w) (w * 64 + v)

abbrev pub is_ahead : Bool → ℕ → Bool
is_ahead up back = cond (ltb 0 back) up (not up)

-- What w with the multiplier `base` asks of v, where `near` is d(v,w) and `far` is d(w,v).
abbrev pub asks : Bool → ℕ → ℕ → ℕ → ℤ → ℤ
asks up back near far base = cond (is_ahead up back) (base +ℤ pos near) (base -ℤ pos far)

-- Whether v follows: up, where more is asked than its multiplier; else where less is.
abbrev pub overtakes : Bool → ℤ → ℤ → Bool
overtakes up c old = cond up (lt_z old c) (lt_z c old)

-- Whether no vertex is open.
unfoldable pub are_closed : List ℕ → List ℕ → Bool
unfolding turns
are_closed vs marks = turns (λ b a. b && eqb (get_or marks (get_or vs a 0) 0) 0) true (length vs)

module _ (d : List (List ℕ)) (f : List ℕ) (up : Bool) where
  -- v follows what w asks.
  abbrev pub demand : ℕ → ℤ → ℕ → ℤ
  demand w base v = asks up (get_or f (back_place up v w) 0) (cell d v w) (cell d w v) base

  abbrev pub move_vertex : ℕ → ℤ → Tide → ℕ → Tide
  move_vertex w base s v = cond (overtakes up (demand w base v) (get_or s.0 v (pos 0))) (set s.0 v (demand w base v), set s.1 v 1) s

  module _ (vs : List ℕ) where
    -- All follow what w asks.
    unfoldable pub move_all : ℕ → ℤ → Tide → Tide
    unfolding turns
    move_all w base s = turns (λ s a. move_vertex w base s (get_or vs a 0)) s (length vs)

    -- w asks, if it is open.
    unfoldable pub ask : Tide → ℕ → Tide
    unfolding move_all
    ask s w = cond (ltb 0 (get_or s.1 w 0)) (move_all w (capped (get_or s.0 w (pos 0))) (s.0, set s.1 w 0)) s

    unfoldable pub sweep : Tide → Tide
    unfolding turns ask
    sweep s = turns (λ s a. ask s (get_or vs a 0)) s (length vs)

    -- At most n sweeps, until none is open.
    unfoldable pub sweeps : ℕ → Tide → Tide
    unfolding sweep are_closed
    sweeps zero s = s
    sweeps (suc n) s = cond (are_closed vs s.1) s (sweeps n (sweep s))

    -- From all vertices open. A chain of pairs has fewer than 64, so that 64 sweeps are enough. What they come to is capped.
    unfoldable pub settled : List ℤ → List ℤ
    unfolding sweeps capped_all
    settled x = capped_all (sweeps 64 (x, replicate 64 1)).0 vs
