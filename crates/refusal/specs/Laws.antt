-- Verdicts one after the other are conditions one after the other; and the refusals' numbers are 1 to 23.
use Rattle.std.specs.Prelude.{◌≡◌, Bool, true, false, cond, ℕ, ◌≤◌}
use Rattle.std.proofs.Math.Option.{Option, none, some}
use Rattle.std.proofs.Common.{arith}
use Rattle.refusal.specs.declared.Refusal.{Refusal}
use Rattle.refusal.specs.declared.Refusal.TheVariants.{Torn, Edition, Extent, Margin, OffSheet, Unpriced, Standing, ShortSheet, Budget, Idle, Scattered, CutOff, Repeated, Foreign, Unjoined, Missed, StrayPair, BadMarks, BadWindow, MustShut, NoMark, Full, Rounds}
use Rattle.refusal.specs.Verdict.{refusal_number}

-- The numbers are 1 to 23.
pub some_number : (r : Refusal) → (1 ≤ refusal_number r) × (refusal_number r ≤ 23)
some_number Torn = (omega arith, omega arith)
some_number Edition = (omega arith, omega arith)
some_number Extent = (omega arith, omega arith)
some_number Margin = (omega arith, omega arith)
some_number OffSheet = (omega arith, omega arith)
some_number Unpriced = (omega arith, omega arith)
some_number Standing = (omega arith, omega arith)
some_number ShortSheet = (omega arith, omega arith)
some_number Budget = (omega arith, omega arith)
some_number Idle = (omega arith, omega arith)
some_number Scattered = (omega arith, omega arith)
some_number CutOff = (omega arith, omega arith)
some_number Repeated = (omega arith, omega arith)
some_number Foreign = (omega arith, omega arith)
some_number Unjoined = (omega arith, omega arith)
some_number Missed = (omega arith, omega arith)
some_number StrayPair = (omega arith, omega arith)
some_number BadMarks = (omega arith, omega arith)
some_number BadWindow = (omega arith, omega arith)
some_number MustShut = (omega arith, omega arith)
some_number NoMark = (omega arith, omega arith)
some_number Full = (omega arith, omega arith)
some_number Rounds = (omega arith, omega arith)

-- A step that refuses refuses the whole, whatever comes after it; where it passes, what comes after it decides.
pub refused_first : (b : Bool) (k n : ℕ) (o : Option ℕ) → some k ≡ cond b (some n) none → some k ≡ cond b (some n) o
refused_first true k n o e = e
refused_first false k n o e = grind arith

pub passed_first : (b : Bool) (n : ℕ) (x o : Option ℕ) → none ≡ cond b (some n) none → x ≡ o → x ≡ cond b (some n) o
passed_first true n x o e f = grind arith
passed_first false n x o e f = f
