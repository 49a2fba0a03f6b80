-- The candidates of a plan's components come from components.
use Rattle.std.specs.Prelude.{◌≡◌, refl, Bool, ◌&&◌, ℕ, ◌≤◌, ◌<◌}
use Rattle.std.proofs.Common.{ap₂, arith}
use mathlib.Core.List.{List, [], ◌∷◌, Memᴰ}
use Rattle.postman.specs.Lists.{all_of}
use Rattle.postman.specs.Plan.{Plan}
use Rattle.postman.specs.Component.{component_count}
use Rattle.postman.specs.Arborescence.{candidates}
use Rattle.postman.specs.Steps.{no_link}
use Rattle.postman.specs.Laws.Membership.{get_d_mem}
use Rattle.postman_laws.specs.Laws.Distance.{InPlan}
use Rattle.postman_laws.specs.Laws.Component.{component_lt}
use Rattle.postman_laws.specs.Laws.Link.{link_ends}
use Rattle.postman_laws.specs.Laws.Arborescence.{candidates_mem}
use Rattle.arborescence.specs.Sources.{Sources, AreSources}
use Rattle.arborescence.specs.Candidates.{AreCandidates}

pub all_of_cong : {A : Type 0} (f f' : A → Bool) (xs : List A) → ((x : A) → Memᴰ x xs → f x ≡ f' x) → all_of f xs ≡ all_of f' xs
unfolding all_of
all_of_cong f f' [] h = refl
all_of_cong f f' (x ∷ xs) h = ap₂ ◌&&◌ (h x (Memᴰ.head refl)) (all_of_cong f f' xs (λ y m. h y (Memᴰ.tail m)))

pub are_sources : (p : Plan) → InPlan p → 1 ≤ component_count p → (c : Sources) → AreCandidates p c → AreSources c
are_sources p ok nonempty c are = let n = are.components in record { some_component = omega arith; inside = inside }
  where
    inside : (q i : ℕ) → 1 ≤ q → q < c.components → i < c.count q → c.source q i < c.components
    inside q i h l b =
        let n = are.components in
        let m = are.count q h (omega arith) in
        let e = are.source q i h (omega arith) (omega arith) in
        let f = candidates_mem p q (get_d_mem (candidates p q) no_link i (omega arith)) in
        let g = component_lt p ok (link_ends p f.is_link_holds).0 in
        omega arith
