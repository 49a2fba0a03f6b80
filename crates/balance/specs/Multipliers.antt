-- The greatest multipliers that are 0 at a root: u*(v) is the residual distance from v to the root, in true
-- costs, and 0 where a vertex is not among vs.
use Rattle.std.proofs.Math.Bool.{true}
use Rattle.std.specs.Prelude.{List, ℕ, ◌+◌, get_or, set, replicate, ℤ, pos, ◌-ℤ◌}
use Rattle.residual_search.specs.Fold.{fold}
use Rattle.residual_search.specs.Search.{Found, search}
use Rattle.residual_search.specs.Step.{State, potential, residual_length}

-- The distances to the root, in true costs.
unfoldable pub from_root : List ℕ → List ℕ → List ℕ → ℕ → List ℤ
unfolding fold
from_root distance u vs root =
    fold (λ r v. set r v (pos (get_or distance v 0 + potential u v) -ℤ pos (potential u root))) (replicate 64 (pos 0)) vs

module _ (d : ℕ → ℕ → ℕ) (vs : List ℕ) where
  -- The whole search towards the root.
  unfoldable pub ways : State → ℕ → Found
  unfolding search
  ways s root = search (residual_length d s.amounts s.potentials) vs root true root

  unfoldable pub multipliers : State → ℕ → List ℤ
  unfolding ways from_root
  multipliers s root = from_root (ways s root).distance s.potentials vs root
