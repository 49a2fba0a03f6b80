-- What writing answers.
use Rattle.std.specs.Prelude.{ℕ, Result, Ok, Err}
use Rattle.postman.specs.Refusal.{Answer, refused, given}
use Rattle.refusal.specs.Verdict.{refusal_number}
use Rattle.refusal.specs.declared.Refusal.{Refusal}

-- The length, or document 01's number for the refusal.
abbrev pub written_answer : Result ℕ Refusal → Answer ℕ
written_answer (Ok n) = given n
written_answer (Err r) = refused (refusal_number r)
