-- Document 01's number of each refusal, and the number that a verdict gives.
use Rattle.std.proofs.Math.Option.{Option, none, some}
use Rattle.std.specs.Prelude.{ℕ, Result, Ok, Err}
use Rattle.refusal.specs.declared.Refusal.{Refusal}
use Rattle.refusal.specs.declared.Refusal.TheVariants.{Torn, Edition, Extent, Margin, OffSheet, Unpriced, Standing, ShortSheet, Budget, Idle, Scattered, CutOff, Repeated, Foreign, Unjoined, Missed, StrayPair, BadMarks, BadWindow, MustShut, NoMark, Full, Rounds}

-- "Numbers and their trade words."
abbrev pub refusal_number : Refusal → ℕ
refusal_number Torn = 1
refusal_number Edition = 2
refusal_number Extent = 3
refusal_number Margin = 4
refusal_number OffSheet = 5
refusal_number Unpriced = 6
refusal_number Standing = 7
refusal_number ShortSheet = 8
refusal_number Budget = 9
refusal_number Idle = 10
refusal_number Scattered = 11
refusal_number CutOff = 12
refusal_number Repeated = 13
refusal_number Foreign = 14
refusal_number Unjoined = 15
refusal_number Missed = 16
refusal_number StrayPair = 17
refusal_number BadMarks = 18
refusal_number BadWindow = 19
refusal_number MustShut = 20
refusal_number NoMark = 21
refusal_number Full = 22
refusal_number Rounds = 23

-- The number that a verdict gives, or none.
abbrev pub verdict_number : {T : Type 0} → Result T Refusal → Option ℕ
verdict_number (Ok x) = none
verdict_number (Err r) = some (refusal_number r)

-- The first of two numbers, where there is one.
abbrev pub or_else : Option ℕ → Option ℕ → Option ℕ
or_else none b = b
or_else (some r) b = some r
