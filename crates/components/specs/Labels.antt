-- Components by labels: each vertex starts with its own number as its label, and each required arc merges the labels
-- of its ends into the lower one. A vertex that keeps its own label is the lowest of its component, a root; a
-- component's number is that of the roots below its own.
use Rattle.std.specs.Prelude.{◌≡◌, Bool, false, cond, ◌&&◌, ℕ, ◌≤◌, ◌<◌, length, get_or, eqb, ltb}
use mathlib.Core.List.{List, Memᴰ}
use Rattle.postman.specs.Lists.{select, below}
use Rattle.postman.specs.Plan.{Arc, Plan, is_required_arc, arc_at}
use Rattle.postman.specs.Required.{required}
use Rattle.postman.specs.Component.{component}
use Rattle.postman.specs.Steps.{IsRequiredNumber}

-- A label once `from` is called `to`.
abbrev pub rename : ℕ → ℕ → ℕ → ℕ
rename from to l = cond (eqb l from) to l

-- A label once x and y are merged.
abbrev pub merge_label : ℕ → ℕ → ℕ → ℕ
merge_label x y l = cond (ltb x y) (rename y x l) (rename x y l)

-- The label of v once the arc a is counted.
abbrev pub label_after : Arc → List ℕ → ℕ → ℕ
label_after a labels v =
    cond (is_required_arc a) (merge_label (get_or labels a.tail 0) (get_or labels a.head 0) (get_or labels v 0)) (get_or labels v 0)

-- What holds once the arcs before the kth are counted: no label is above its vertex, each stands for itself and lies in the vertex's
-- component, and the ends of a required arc have one label.
pub record Labelled (p : Plan) (k : ℕ) (labels : List ℕ) : Type 0 where
  pub size : length labels ≡ 64
  pub low : (v : ℕ) → v < 64 → get_or labels v 0 ≤ v
  pub root : (v : ℕ) → v < 64 → get_or labels (get_or labels v 0) 0 ≡ get_or labels v 0
  pub within : (v : ℕ) → Memᴰ v (required p)
      → Memᴰ (get_or labels v 0) (required p) × (component p (get_or labels v 0) ≡ component p v)
  pub joins : (i : ℕ) → i < k → IsRequiredNumber p i → get_or labels (arc_at p.arcs i).tail 0 ≡ get_or labels (arc_at p.arcs i).head 0

-- Whether v is a root, by the flags of the required vertices and the labels; how many roots there are below v.
abbrev pub is_root : List Bool → List ℕ → ℕ → Bool
is_root required labels v = get_or required v false && eqb (get_or labels v 0) v

unfoldable pub roots_below : List Bool → List ℕ → ℕ → ℕ
unfolding select below
roots_below required labels v = length (select (is_root required labels) (below v))

-- The number of v's component; for a vertex that is not required, the number of components.
abbrev pub number_of : List Bool → List ℕ → ℕ → ℕ
number_of required labels v = cond (get_or required v false) (roots_below required labels (get_or labels v 0))
    (roots_below required labels 64)
