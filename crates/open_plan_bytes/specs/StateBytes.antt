-- A state of an open plan, lent: five files one after the other, and a call's answer in a number and these bytes.
use Rattle.std.specs.Prelude.{◌≡◌, List, [], ◌∷◌, ◌++◌, ℕ, ◌+◌, ◌%◌, ℤ, drop}
use Rattle.postman.specs.Refusal.{answer, unless}
use Rattle.refusal.specs.Verdict.{verdict_number}
use Rattle.held_file.specs.declared.Held.{Held}
use Rattle.held_file.specs.Held.{held_at}
use Rattle.open_plan.specs.declared.OpenPlan.{OpenPlan}
use Rattle.open_plan.specs.declared.Moved.{Moved}
use Rattle.open_plan.specs.State.{mark_in}
use Rattle.answers.specs.Number.{one_number}
use Rattle.encoding.specs.RecordBytes.{number_in}
use Rattle.encoding.specs.NumberBytes.{number_bytes}

-- Five files, each with two bytes for its length: 5 × 1,477 bytes.
abbrev pub open_bytes : ℕ
open_bytes = 7385

-- The file that is held from byte i on: the two bytes of its length, the high one first, and 1,475 bytes.
abbrev pub held_in : List ℕ → ℕ → Held
held_in bytes i = held_at bytes (i + 2) (number_in bytes i)

-- Every length that was lent, and that of every file, is below 65,536.
abbrev pub held_bytes : Held → List ℕ
held_bytes h = number_bytes (h.length % 65536) ++ h.file

-- The open plan that is lent: its own file, then those of marks 0 to 3. Whatever the bytes are, they are one.
abbrev pub open_in : List ℕ → OpenPlan
open_in bytes = record {
  plan = held_in bytes 0;
  marks = held_in bytes 1477 ∷ held_in bytes 2954 ∷ held_in bytes 4431 ∷ held_in bytes 5908
      ∷ [];
}

unfoldable pub state_bytes : OpenPlan → List ℕ
state_bytes s = held_bytes s.plan ++ held_bytes (mark_in s 0) ++ held_bytes (mark_in s 1) ++ held_bytes (mark_in s 2)
    ++ held_bytes (mark_in s 3)

-- A call's answer in a number and the lent state, which a refusal does not change; bytes after the state are untouched.
pub record IsStored (r : Moved) (bytes bytes' : List ℕ) (number : ℤ) : Type 0 where
  pub number_is : number ≡ one_number (answer (verdict_number r.verdict) 0)
  pub state_is : bytes' ≡ unless (verdict_number r.verdict) (state_bytes r.state ++ drop open_bytes bytes) bytes
