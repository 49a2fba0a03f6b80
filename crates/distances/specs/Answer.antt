-- What the distance call answers.
use Rattle.std.specs.Prelude.{◌≡◌, List, ◌++◌, map, ℕ, length, drop, Result, Ok, Err}
use Rattle.std.proofs.Math.Option.{Option}
use Rattle.postman.specs.Plan.{Plan}
use Rattle.postman.specs.Refusal.{Answer, refused, given, answer, unless}
use Rattle.postman.specs.DistanceCall.{entry, search_count}
use Rattle.refusal.specs.Verdict.{refusal_number}
use Rattle.refusal.specs.declared.Refusal.{Refusal}

-- The number of searches, or the refusal's number.
abbrev pub searched_answer : Result ℕ Refusal → Answer ℕ
searched_answer (Ok k) = given k
searched_answer (Err r) = refused (refusal_number r)

-- The call on a plan, where `refusal` is what it is refused for; old and new are the distance list at entry and at exit.
pub record IsPage (p : Plan) (refusal : Option ℕ) (pairs old new : List ℕ) (r : Result ℕ Refusal) : Type 0 where
  pub answer_is : searched_answer r ≡ answer refusal (search_count pairs)
  pub distances_are : new ≡ unless refusal (map (entry p) pairs ++ drop (length pairs) old) old
