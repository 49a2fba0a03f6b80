-- What is known once a plan is prepared: its distances, its required vertices, and its candidates in arrays.
use Rattle.std.specs.Prelude.{◌≡◌, List, [], ℕ, ◌+◌, ◌≤◌, ◌<◌, length, get_or}
use Rattle.postman.specs.Plan.{Plan}
use Rattle.postman.specs.Required.{required}
use Rattle.postman.specs.Distance.{distance}
use Rattle.postman.specs.Component.{component_count}
use Rattle.postman.specs.Arborescence.{link_at, candidates as candidates_of}
use Rattle.postman.specs.Steps.{Plannable}
use Rattle.arborescence.specs.Layout.{laid_out, IsLayout}
use Rattle.arborescence.specs.Candidates.{AreCandidates}

pub record Prepared (p : Plan) (table : List (List ℕ)) (vs start source tails heads : List ℕ) (k : ℕ) : Type 0 where
  pub plannable : Plannable p
  pub few : component_count p ≤ 8
  pub count : k ≡ component_count p
  pub distances : (i j : ℕ) → i < 64 → j < 64 → get_or (get_or table i []) j 0 ≡ distance p i j
  pub vertices : vs ≡ required p
  pub layout : IsLayout k start source
  pub candidates : AreCandidates p (laid_out k start source)
  pub ends : (q i : ℕ) → 1 ≤ q → q < k → i < length (candidates_of p q)
      → (get_or tails (get_or start q 0 + i) 0 ≡ (link_at (candidates_of p q) i).tail)
      × (get_or heads (get_or start q 0 + i) 0 ≡ (link_at (candidates_of p q) i).head)
