-- The distance call, "distances for a page of index entries": plan bytes, "a lent list of pairs with a lent list for the distances".
use Rattle.std.specs.Prelude.{Bool, ◌||◌, List, [], ◌∷◌, ◌++◌, map, ℕ, ◌/◌, ◌%◌, length, drop, ltb, leb}
use Rattle.std.proofs.Math.Option.{Option}
use Rattle.postman.specs.Lists.{any_of, distinct}
use Rattle.postman.specs.Plan.{Plan}
use Rattle.postman.specs.Refusal.{Conditions, first_refusal, Answer, answer, unless}
use Rattle.postman.specs.PlanFile.{file_conditions, plan_of}
use Rattle.postman.specs.Distance.{distance}

-- ---- the pairs

-- A pair of vertices is a number of 16 bits, 256 × first + second, so that every number is a pair.
abbrev pub first : ℕ → ℕ
first x = x / 256

abbrev pub second : ℕ → ℕ
second x = x % 256

-- ---- the refusals

-- 17 stray pair: "more than 256 pairs, or a vertex of n or more"
unfoldable pub is_stray : ℕ → ℕ → Bool
is_stray n x = leb n (first x) || leb n (second x)

unfoldable pub has_stray : ℕ → List ℕ → Bool
unfolding any_of is_stray
has_stray n pairs = ltb 256 (length pairs) || any_of (is_stray n) pairs

-- "before 8, which means a distance list shorter than the pairs"
unfoldable pub pairs_conditions : ℕ → List ℕ → ℕ → Conditions
unfolding has_stray
pairs_conditions n pairs room = (has_stray n pairs, 17) ∷ (ltb room (length pairs), 8) ∷ []

-- "after 7 and 13 […]; 9 to 12 don't apply"
unfoldable pub distance_refusal : List ℕ → List ℕ → ℕ → Option ℕ
unfolding first_refusal file_conditions plan_of pairs_conditions
distance_refusal bytes pairs room = first_refusal (file_conditions bytes ++ pairs_conditions (plan_of bytes).n pairs room)

-- ---- the answer

-- "Each entry equals what a single query gives, that is d, the largest 32-bit number standing for no path."
unfoldable pub entry : Plan → ℕ → ℕ
unfolding distance
entry p x = distance p (first x) (second x)

-- "The answer also holds the number of searches run, and it equals the number of distinct first vertices in the list."
unfoldable pub search_count : List ℕ → ℕ
unfolding distinct
search_count pairs = length (distinct (map first pairs))

unfoldable pub distance_answer : List ℕ → List ℕ → ℕ → Answer ℕ
unfolding answer distance_refusal search_count
distance_answer bytes pairs room = answer (distance_refusal bytes pairs room) (search_count pairs)

-- "Entries after the pairs are untouched."
unfoldable pub distances_after : List ℕ → List ℕ → List ℕ → List ℕ
unfolding unless distance_refusal entry plan_of
distances_after bytes pairs distances =
    unless (distance_refusal bytes pairs (length distances)) (map (entry (plan_of bytes)) pairs ++ drop (length pairs) distances) distances
