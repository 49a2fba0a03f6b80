-- What the parts of a network hold.
use Rattle.std.specs.Prelude.{◌≡◌, Bool, false, List, [], ℕ, ◌+◌, ◌*◌, ◌<◌, get_or, ℤ, pos}
use Rattle.postman.specs.Plan.{Plan}
use Rattle.postman.specs.Required.{is_required}
use Rattle.postman.specs.Component.{component, component_count}
use Rattle.postman.specs.Balancing.{imbalance}
use Rattle.postman.specs.Link.{is_held, links}

-- D(v), for every vertex v.
abbrev pub IsImbalance : Plan → List ℤ → Type 0
IsImbalance p d = (v : ℕ) → v < 64 → get_or d v (pos 0) ≡ imbalance p [] v

-- Whether v is required.
abbrev pub IsRequiredFlags : Plan → List Bool → Type 0
IsRequiredFlags p r = (v : ℕ) → v < 64 → get_or r v false ≡ is_required p v

-- The component of each vertex, and the number of components. A vertex that is not required has that number.
pub record IsComponents (p : Plan) (of : List ℕ) (count : ℕ) : Type 0 where
  pub each : (v : ℕ) → v < 64 → get_or of v 0 ≡ component p v
  pub all : count ≡ component_count p

-- Whether the pair (i, j), at 64 i + j, is a link.
abbrev pub IsLinks : Plan → List Bool → Type 0
IsLinks p l = (i j : ℕ) → i < 64 → j < 64 → get_or l (i * 64 + j) false ≡ is_held (links p) i j
