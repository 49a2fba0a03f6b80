-- What an entry answers, in document 02's numbers: the place, or the refusal.
use Rattle.std.proofs.Math.Option.{Option, none, some}
use Rattle.std.specs.Prelude.{ℕ, Result, Ok, Err}
use Rattle.postman.specs.Refusal.{Answer, refused, given}
use Rattle.refusal.specs.Verdict.{refusal_number, verdict_number}
use Rattle.refusal.specs.declared.Refusal.{Refusal}

abbrev pub admitted : Result ℕ Refusal → Answer ℕ
admitted (Ok q) = given q
admitted (Err r) = refused (refusal_number r)

-- The number of a refused entry.
abbrev pub admission_number : Result ℕ Refusal → Option ℕ
admission_number r = verdict_number r
