-- The candidates of a plan in arrays: those of component q stand at the places from start(q) on, in the order of `candidates`.
use Rattle.std.specs.Prelude.{◌≡◌, ℕ, ◌+◌, ◌≤◌, ◌<◌, length, get_or}
use Rattle.postman.specs.Plan.{Plan}
use Rattle.postman.specs.Component.{component_count}
use Rattle.postman.specs.Arborescence.{link_at, candidates}
use Rattle.arborescence.specs.Layout.{laid_out, IsLayout}
use Rattle.arborescence.specs.Candidates.{AreCandidates}
use Rattle.candidates.specs.declared.Candidates.{Candidates}

pub record AreLaidOut (p : Plan) (r : Candidates) : Type 0 where
  pub layout : IsLayout (component_count p) r.start r.source
  pub are_candidates : AreCandidates p (laid_out (component_count p) r.start r.source)
  pub none_first : (get_or r.start 0 0 ≡ 0) × (get_or r.start 1 0 ≡ 0)
  pub tail : (q i : ℕ) → 1 ≤ q → q < component_count p → i < length (candidates p q)
      → get_or r.tails (get_or r.start q 0 + i) 0 ≡ (link_at (candidates p q) i).tail
  pub head : (q i : ℕ) → 1 ≤ q → q < component_count p → i < length (candidates p q)
      → get_or r.heads (get_or r.start q 0 + i) 0 ≡ (link_at (candidates p q) i).head
