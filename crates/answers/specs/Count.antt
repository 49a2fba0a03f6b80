-- What the count answers to a caller in another language.
use Rattle.std.specs.Prelude.{ℕ}
use Rattle.postman.specs.Refusal.{Answer, refused, given}
use Rattle.postman.specs.TreeCount.{TreeCount, known, above}

-- The number of trees, with 4,294,967,296 for every number above 4,294,967,295.
abbrev pub count_of : Answer TreeCount → Answer ℕ
count_of (given (known n)) = given n
count_of (given above) = given 4294967296
count_of (refused r) = refused r
