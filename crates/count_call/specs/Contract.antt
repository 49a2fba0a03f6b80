-- What each case of the answer stands for: a refusal's number, a number of trees, or a number above 4,294,967,295.
use Rattle.std.specs.Prelude.{Result, Ok, Err}
use Rattle.postman.specs.Refusal.{Answer, refused, given}
use Rattle.postman.specs.TreeCount.{TreeCount, known, above}
use Rattle.refusal.specs.declared.Refusal.{Refusal}
use Rattle.refusal.specs.Verdict.{refusal_number}
use Rattle.count_call.specs.declared.Count.{Count}
use Rattle.count_call.specs.declared.Count.TheVariants.{Known, Above}

abbrev pub count_answer : Result Count Refusal → Answer TreeCount
count_answer (Err r) = refused (refusal_number r)
count_answer (Ok (Known n)) = given (known n)
count_answer (Ok Above) = given above
