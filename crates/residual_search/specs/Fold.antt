-- A loop over a list of vertices, as a function: the state after each vertex is a function of the state before it.
use Rattle.std.specs.Prelude.{List, [], ◌∷◌, ℕ}

unfoldable pub fold : {S : Type 0} → (S → ℕ → S) → S → List ℕ → S
fold g s [] = s
fold g s (v ∷ vs) = fold g (g s v) vs
