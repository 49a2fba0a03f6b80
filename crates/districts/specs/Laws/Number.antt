-- Places are below 8, so that a place, 8 and a place, and 16 are apart.
use Rattle.std.specs.Prelude.{◌≡◌, refl, ℕ}
use Rattle.std.proofs.Common.{ap, arith}
use Rattle.postman.specs.Refusal.{Answer, refused, given}
use Rattle.districts.specs.declared.turn.Outcome.{Outcome}
use Rattle.districts.specs.declared.turn.Outcome.TheVariants.{Empty, ShortSheet, Unfinished, Finished}
use Rattle.districts.specs.Number.{outcome_number, HasPlace}

-- the number that is given, 100 for a refusal
abbrev value_of : Answer ℕ → ℕ
value_of (given x) = x
value_of (refused r) = 100

pub number_apart : (a b : Outcome) → HasPlace a → HasPlace b → outcome_number a ≡ outcome_number b → a ≡ b
number_apart Empty Empty h k e = refl
number_apart Empty ShortSheet h k e = (let n = ap value_of e in absurd (omega arith))
number_apart Empty (Unfinished q) h k e = (let n = ap value_of e in absurd (omega arith))
number_apart Empty (Finished q) h k e = (let n = ap value_of e in absurd (omega arith))
number_apart ShortSheet Empty h k e = (let n = ap value_of e in absurd (omega arith))
number_apart ShortSheet ShortSheet h k e = refl
number_apart ShortSheet (Unfinished q) h k e = (let n = ap value_of e in absurd (omega arith))
number_apart ShortSheet (Finished q) h k e = (let n = ap value_of e in absurd (omega arith))
number_apart (Unfinished p) Empty h k e = (let n = ap value_of e in absurd (omega arith))
number_apart (Unfinished p) ShortSheet h k e = (let n = ap value_of e in absurd (omega arith))
number_apart (Unfinished p) (Unfinished q) h k e = ap Unfinished (ap value_of e)
number_apart (Unfinished p) (Finished q) h k e = (let n = ap value_of e in absurd (omega arith))
number_apart (Finished p) Empty h k e = (let n = ap value_of e in absurd (omega arith))
number_apart (Finished p) ShortSheet h k e = (let n = ap value_of e in absurd (omega arith))
number_apart (Finished p) (Unfinished q) h k e = (let n = ap value_of e in absurd (omega arith))
number_apart (Finished p) (Finished q) h k e = ap Finished (let n : p ≡ q = (let m = ap value_of e in omega arith) in n)
