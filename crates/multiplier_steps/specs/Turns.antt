-- A loop as a function: turn i makes the next state of the one before.
use Rattle.std.specs.Prelude.{ℕ, zero, suc}

unfoldable pub turns : {S : Type 0} → (S → ℕ → S) → S → ℕ → S
turns g s zero = s
turns g s (suc n) = g (turns g s n) n
