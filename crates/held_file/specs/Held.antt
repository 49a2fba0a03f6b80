-- A plan file by value.
use Rattle.std.specs.Prelude.{◌≡◌, List, ℕ, length, take, drop, Result, IfOk}
use Rattle.std.proofs.Math.Option.{Option}
use Rattle.postman.specs.OpenPlan.{longest_file}
use Rattle.refusal.specs.Verdict.{verdict_number}
use Rattle.held_file.specs.declared.Held.{Held}
use Rattle.refusal.specs.declared.Refusal.{Refusal}
use Rattle.held_file.specs.Padded.{padded}

-- The file that is held. It has no more than 1,475 bytes, whatever number is its length.
abbrev pub file_in : Held → List ℕ
file_in h = take h.length h.file

-- A file of at most 1,475 bytes, held: zeros after its bytes. The empty list stands for no file.
unfoldable pub held_of : List ℕ → Held
held_of file = record { length = length file; file = padded longest_file 0 file }

-- The file of length n that is lent, its 1,475 bytes from byte i on.
abbrev pub held_at : List ℕ → ℕ → ℕ → Held
held_at lent i n = record { length = n; file = take longest_file (drop i lent) }

-- What writing a file by value answers: the refusal, and where there is none the file.
pub record IsHeld (refusal : Option ℕ) (file : List ℕ) (w : Result Held Refusal) : Type 0 where
  pub verdict : verdict_number w ≡ refusal
  pub held : IfOk w (λ h. h ≡ held_of file)
