-- The candidates of a plan's components as sources.
use Rattle.std.specs.Prelude.{◌≡◌, ℕ, ◌≤◌, ◌<◌, length}
use Rattle.postman.specs.Plan.{Plan}
use Rattle.postman.specs.Component.{component, component_count}
use Rattle.postman.specs.Arborescence.{link_at, candidates}
use Rattle.arborescence.specs.Sources.{Sources}

-- c holds the plan's candidates: of each component but 0 their number, and the component of each one's tail
pub record AreCandidates (p : Plan) (c : Sources) : Type 0 where
  pub components : c.components ≡ component_count p
  pub count : (q : ℕ) → 1 ≤ q → q < component_count p → c.count q ≡ length (candidates p q)
  pub source : (q i : ℕ) → 1 ≤ q → q < component_count p → i < length (candidates p q)
      → c.source q i ≡ component p (link_at (candidates p q) i).tail
