-- What a turn answers, in document 02's numbers.
use Rattle.std.specs.Prelude.{Bool, true, false, ℕ, ◌+◌, ◌<◌, eqb}
use Rattle.postman.specs.Refusal.{Answer, refused, given}
use Rattle.refusal.specs.Verdict.{refusal_number}
use Rattle.refusal.specs.declared.Refusal.TheVariants.{ShortSheet as ShortSheetRefusal}
use Rattle.districts.specs.declared.turn.Outcome.{Outcome}
use Rattle.districts.specs.declared.turn.Outcome.TheVariants.{Empty, ShortSheet, Unfinished, Finished}

-- "a turn's answer names its district's" place, 8 is added to it in the last turn, and 16 says that no district is inside

abbrev pub outcome_number : Outcome → Answer ℕ
outcome_number Empty = given 16
outcome_number ShortSheet = refused (refusal_number ShortSheetRefusal)
outcome_number (Unfinished q) = given q
outcome_number (Finished q) = given (8 + q)

-- Whether a district had its turn; its last; and whether it is the one at place q.
abbrev pub had_turn : Outcome → Bool
had_turn Empty = false
had_turn ShortSheet = false
had_turn (Unfinished q) = true
had_turn (Finished q) = true

abbrev pub had_last : Outcome → Bool
had_last Empty = false
had_last ShortSheet = false
had_last (Unfinished q) = false
had_last (Finished q) = true

abbrev pub is_of : ℕ → Outcome → Bool
is_of q Empty = false
is_of q ShortSheet = false
is_of q (Unfinished p) = eqb p q
is_of q (Finished p) = eqb p q

-- Places are 0 to 7.
abbrev pub HasPlace : Outcome → Type 0
HasPlace Empty = Unit {0}
HasPlace ShortSheet = Unit {0}
HasPlace (Unfinished q) = q < 8
HasPlace (Finished q) = q < 8
