-- Dijkstra's search towards a vertex t, over lengths ℓ(i,j) between the vertices vs. It settles the vertices in the order of
-- their distance to t; where several are nearest, the goal of the search comes first, since the search may end there, and then
-- the first of vs. `Laws.Search`: what it finds.
use Rattle.std.specs.Prelude.{Bool, not, ◌&&◌, List, length, get_or, eqb}
use Rattle.std.proofs.Math.Bool.{cond}
use Prim.Native.Nat.{ℕ, zero, suc, ◌+◌, ◌-◌, min}
use Rattle.std.proofs.Math.ListN.{set, replicate}
use Rattle.std.proofs.Math.Dec.{ltb}
use Rattle.residual_search.specs.Fold.{fold}

-- Further than every distance.
abbrev pub beyond : ℕ
beyond = 1099511627776

-- For each vertex its distance to t, as far as it is known, the next vertex on the way, and when it was
-- settled: 0 where it was not, 1 for t itself.
pub record Found : Type 0 where
  pub distance : List ℕ
  pub next : List ℕ
  pub rank : List ℕ

-- Vertex v, of a length to w, may go by w, which is `base` away from t. The first list holds distances, the second the next vertices.
abbrev pub relaxed : (ℕ → ℕ) → ℕ → ℕ → List ℕ × List ℕ → ℕ → List ℕ × List ℕ
relaxed len w base s v =
    (set s.0 v (min (base + len v) (get_or s.0 v 0)), set s.1 v (cond (ltb (base + len v) (get_or s.0 v 0)) w (get_or s.1 v 0)))

-- Every vertex may go by w.
unfoldable pub relax : (ℕ → ℕ → ℕ) → List ℕ → ℕ → ℕ → List ℕ × List ℕ → List ℕ × List ℕ
unfolding fold
relax ℓ vs w base s = fold (relaxed (λ v. ℓ v w) w base) s vs

-- The distance of a vertex that is not settled.
abbrev pub open_distance : List ℕ → List ℕ → ℕ → ℕ
open_distance distance rank v = cond (eqb (get_or rank v 0) 0) (get_or distance v 0) beyond

-- The nearest vertex so far, and its distance.
abbrev pub nearer : List ℕ → List ℕ → ℕ × ℕ → ℕ → ℕ × ℕ
nearer distance rank s v = (cond (ltb (open_distance distance rank v) s.1) v s.0, min (open_distance distance rank v) s.1)

-- The nearest of the vertices that are not settled: the goal where it is one of them, else the first. The goal where all are settled.
unfoldable pub nearest : List ℕ → ℕ → List ℕ → List ℕ → ℕ
unfolding fold
nearest vs goal distance rank = (fold (nearer distance rank) (goal, open_distance distance rank goal) vs).0

module _ (ℓ : ℕ → ℕ → ℕ) (vs : List ℕ) (t : ℕ) where
  -- t is settled, and every vertex may go to it.
  unfoldable pub start : Found
  unfolding relax
  start =
      let s = relax ℓ vs t 0 (replicate 64 beyond, replicate 64 t) in
      record { distance = s.0; next = s.1; rank = set (replicate 64 0) t 1 }

  -- w is settled, as number k.
  unfoldable pub settle : ℕ → ℕ → Found → Found
  unfolding relax
  settle k w s =
      let r = relax ℓ vs w (get_or s.distance w 0) (s.distance, s.next) in
      record { distance = r.0; next = r.1; rank = set s.rank w k }

  -- The next vertex is settled, when k are.
  unfoldable pub round : ℕ → ℕ → Found → Found
  unfolding settle nearest
  round goal k s = settle (k + 1) (nearest vs goal s.distance s.rank) s

  -- At most n rounds: until the goal is settled, or all of them.
  unfoldable pub rounds : Bool → ℕ → ℕ → ℕ → Found → Found
  unfolding round
  rounds whole goal zero k s = s
  rounds whole goal (suc n) k s = cond (not whole && ltb 0 (get_or s.rank goal 0)) s (rounds whole goal n (k + 1) (round goal k s))

  -- The search until the goal is settled, and the whole search.
  unfoldable pub search : Bool → ℕ → Found
  unfolding rounds start
  search whole goal = rounds whole goal (length vs - 1) 1 start
