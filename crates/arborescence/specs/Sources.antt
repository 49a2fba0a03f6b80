-- What trees need of a plan: the number of components; how many candidates component q has; and the component that
-- candidate i of component q comes from, its source.
use Rattle.std.specs.Prelude.{ℕ, ◌≤◌, ◌<◌}

pub record Sources : Type 0 where
  pub components : ℕ
  pub count : ℕ → ℕ
  pub source : ℕ → ℕ → ℕ

pub record AreSources (c : Sources) : Type 0 where
  pub some_component : 1 ≤ c.components
  pub inside : (q i : ℕ) → 1 ≤ q → q < c.components → i < c.count q → c.source q i < c.components
