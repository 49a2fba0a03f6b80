-- The candidates in arrays: those of component q stand at the places from start(q) to start(q + 1) − 1, and
-- source holds the component of each one's tail.
use Rattle.std.specs.Prelude.{List, ℕ, ◌+◌, ◌-◌, ◌≤◌, ◌<◌, get_or}
use Rattle.arborescence.specs.Sources.{Sources, AreSources}

abbrev pub laid_out : ℕ → List ℕ → List ℕ → Sources
laid_out k start source =
    record {
      components = k;
      count = λ q. get_or start (q + 1) 0 - get_or start q 0;
      source = λ q i. get_or source (get_or start q 0 + i) 0;
    }

pub record IsLayout (k : ℕ) (start source : List ℕ) : Type 0 where
  pub few : k ≤ 8
  pub ascending : (q : ℕ) → q < k → get_or start q 0 ≤ get_or start (q + 1) 0
  pub fits : (q : ℕ) → q < k → get_or start (q + 1) 0 ≤ 4096
  pub sources : AreSources (laid_out k start source)
