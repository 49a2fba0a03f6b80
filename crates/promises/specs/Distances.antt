-- THE DISTANCE CALL: "The index wants distances for up to 256 pairs of vertices of one plan."
use Rattle.std.specs.Prelude.{◌≡◌, List, [], ◌∷◌, map, ℕ, ◌≤◌, ◌<◌, length, get_or, drop, Result}
use Rattle.std.proofs.Math.Option.{none, some}
use Rattle.postman.specs.Lists.{distinct}
use Rattle.postman.specs.Refusal.{refused, given}
use Rattle.postman.specs.PlanFile.{plan_of}
use Rattle.postman.specs.Distance.{distance}
use Rattle.postman.specs.DistanceCall.{first, second, distance_refusal, distance_answer, distances_after}
use Rattle.refusal.specs.declared.Refusal.{Refusal}
use Rattle.distances.specs.Answer.{searched_answer}

-- A call that was made. `distances` `distance_call` ensures both equations, for any bytes, pairs and distance list.
pub record Page (bytes pairs distances : List ℕ) : Type 0 where
  pub after : List ℕ
  pub answer : Result ℕ Refusal
  pub answer_is : searched_answer answer ≡ distance_answer bytes pairs (length distances)
  pub after_is : after ≡ distances_after bytes pairs distances

-- "17 stray pair […] after 7 and 13, before 8, which means a distance list shorter than the pairs; 9 to 12 don't apply." A refusal
-- changes nothing.
abbrev pub Refusals : Type 0
Refusals = (bytes pairs distances : List ℕ) (c : Page bytes pairs distances) (k : ℕ)
    → distance_refusal bytes pairs (length distances) ≡ some k
    → (searched_answer c.answer ≡ refused k) × (c.after ≡ distances)

-- "Each entry equals what a single query gives, that is d, the largest 32-bit number standing for no path."
abbrev pub Entries : Type 0
Entries = (bytes pairs distances : List ℕ) (c : Page bytes pairs distances) → distance_refusal bytes pairs (length distances) ≡ none
    → (k : ℕ) → k < length pairs → get_or c.after k 0 ≡ distance (plan_of bytes) (first (get_or pairs k 0)) (second (get_or pairs k 0))

abbrev pub SingleQuery : Type 0
SingleQuery = (bytes pairs distances : List ℕ) (c : Page bytes pairs distances) → distance_refusal bytes pairs (length distances) ≡ none
    → (k : ℕ) → k < length pairs → (one : List ℕ) (d : Page bytes (get_or pairs k 0 ∷ []) one) → 1 ≤ length one
    → get_or c.after k 0 ≡ get_or d.after 0 0

-- "The answer also holds the number of searches run, and it equals the number of distinct first vertices in the list."
abbrev pub Searches : Type 0
Searches = (bytes pairs distances : List ℕ) (c : Page bytes pairs distances) → distance_refusal bytes pairs (length distances) ≡ none
    → searched_answer c.answer ≡ given (length (distinct (map first pairs)))

-- "Entries after the pairs are untouched."
abbrev pub LaterEntries : Type 0
LaterEntries = (bytes pairs distances : List ℕ) (c : Page bytes pairs distances)
    → drop (length pairs) c.after ≡ drop (length pairs) distances
