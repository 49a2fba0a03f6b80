-- Walks put together, and taken apart at one of their arcs. By induction on the walk.
use Rattle.std.specs.Prelude.{◌≡◌, refl, ℕ, T}
use Rattle.std.proofs.Common.{sym}
use Rattle.std.proofs.Math.Path.{subst⁻¹}
use mathlib.Core.List.{List, [], ◌∷◌, ◌++◌, Memᴰ}
use Rattle.postman.specs.Plan.{Arc, is_open, arc_at}
use Rattle.postman.specs.Drive.{IsWalk}
use Rattle.postman.specs.Laws.Membership.{mem_get_d}
use Rattle.postman_laws.specs.Laws.Distance.{walk_append}

-- some walk leads from i to j
abbrev pub Leads : List Arc → ℕ → ℕ → Type 0
Leads arcs i j = (w : List ℕ) × IsWalk arcs i w j

unfoldable pub join : (arcs : List Arc) {i j k : ℕ} → Leads arcs i j → Leads arcs j k → Leads arcs i k
join arcs {i} {j} {k} a b = (a.0 ++ b.0, walk_append arcs i j k a.0 b.0 a.1 b.1)

-- a walk around one of its arcs
pub around : (arcs : List Arc) {k : ℕ} (x y : ℕ) {w : List ℕ} → Memᴰ k w → IsWalk arcs x w y
    → Leads arcs x (arc_at arcs k).tail × Leads arcs (arc_at arcs k).tail (arc_at arcs k).head × Leads arcs (arc_at arcs k).head y
around arcs x y (Memᴰ.head {x = h} {xs = w} e) g =
    subst⁻¹ (λ (z : ℕ). Leads arcs x (arc_at arcs z).tail × Leads arcs (arc_at arcs z).tail (arc_at arcs z).head
    × Leads arcs (arc_at arcs z).head y) e
    (([], sym g.2), (h ∷ [], (g.0, g.1, refl, refl)), (w, g.3))
around arcs x y (Memᴰ.tail {x = h} {xs = w} m) g =
    let r = around arcs (arc_at arcs h).head y m g.3 in
    (join arcs (h ∷ [], (g.0, g.1, g.2, refl)) r.0, r.1, r.2)

-- an open arc is a walk
pub one_way : (arcs : List Arc) {x : Arc} → Memᴰ x arcs → T (is_open x) → Leads arcs x.tail x.head
one_way arcs {x} m o =
    let r = mem_get_d _ m in
    let y : T (is_open (arc_at arcs r.0)) × ((arc_at arcs r.0).tail ≡ x.tail) × ((arc_at arcs r.0).head ≡ x.head)
    = subst⁻¹ (λ (b : Arc). T (is_open b) × (b.tail ≡ x.tail) × (b.head ≡ x.head)) r.2 (o, refl, refl) in
    (r.0 ∷ [], (r.1, y.0, y.1, y.2))
