-- Thinning, in document 02's words: it "goes through the pairs by (tail, head), one at a time. A pair is dropped exactly if, for some k,
-- both pairs that add up to it are still held." Document 01: the pairs are those i≠j of required vertices, and "the pairs left are links".
use Rattle.std.specs.Prelude.{Bool, not, cond, ◌&&◌, ℕ, ◌+◌, eqb}
use mathlib.Core.List.{List, [], ◌∷◌, map, flat_map}
use Rattle.postman.specs.Lists.{select, any_of}
use Rattle.postman.specs.Plan.{Plan}
use Rattle.postman.specs.Required.{required}
use Rattle.postman.specs.Distance.{distance}

pub record Link : Type 0 where
  pub tail : ℕ
  pub head : ℕ

-- All pairs of the vertices vs, ascending by (tail, head) where vs ascends; and the pairs i≠j of required vertices.
unfoldable pub pairs : List ℕ → List Link
unfolding flat_map
pairs vs = flat_map (λ i. map (λ j. record { tail = i; head = j }) vs) vs

unfoldable pub proper_pairs : Plan → List Link
unfolding select pairs required
proper_pairs p = select (λ l. not (eqb l.tail l.head)) (pairs (required p))

-- Whether l is the pair (i, j); whether (i, j) is one of the pairs held.
abbrev pub joins : ℕ → ℕ → Link → Bool
joins i j l = eqb l.tail i && eqb l.head j

unfoldable pub is_held : List Link → ℕ → ℕ → Bool
unfolding any_of
is_held held i j = any_of (joins i j) held

-- The pairs (i, k) and (k, j) are held, and d(i,j) = d(i,k) + d(k,j). Only pairs of distinct required vertices are ever held,
-- so k is required, and other than both ends.
unfoldable pub is_via : Plan → List Link → Link → ℕ → Bool
unfolding is_held distance
is_via p held l k =
    is_held held l.tail k && is_held held k l.head && eqb (distance p l.tail l.head) (distance p l.tail k + distance p k l.head)

-- The pairs held once l has had its turn; and once the pairs ls have had theirs, one after the other.
unfoldable pub pairs_after : Plan → List Link → Link → List Link
unfolding any_of is_via required select
pairs_after p held l = cond (any_of (is_via p held l) (required p)) (select (λ m. not (joins l.tail l.head m)) held) held

unfoldable pub thinned : Plan → List Link → List Link → List Link
unfolding pairs_after
thinned p held [] = held
thinned p held (l ∷ ls) = thinned p (pairs_after p held l) ls

unfoldable pub links : Plan → List Link
unfolding thinned proper_pairs
links p = thinned p (proper_pairs p) (proper_pairs p)
