-- Bounds on the entries of a list.
use Rattle.std.specs.Prelude.{ℕ, ◌≤◌, List, get_or}

abbrev pub AtMost : ℕ → List ℕ → Type 0
AtMost n l = (k : ℕ) → get_or l k 0 ≤ n
