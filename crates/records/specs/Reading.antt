-- What reading into a lent list answers.
use Rattle.std.specs.Prelude.{cond, List, ℕ, ◌*◌, ◌≤◌, ltb, length, Result, Ok, Err}
use Rattle.std.proofs.Math.Option.{none, some}
use Rattle.postman.specs.Refusal.{Answer, refused, given, answer}
use Rattle.postman.specs.PlanFile.{edition, file_bits}
use Rattle.refusal.specs.declared.Refusal.{Refusal}
use Rattle.refusal.specs.Verdict.{refusal_number, verdict_number, or_else}
use Rattle.plan_file.specs.declared.Reading.{Reading}
use Rattle.plan_file.specs.Reading.{edition_in, plan_in}
use Rattle.records.specs.declared.reader.Header.{Header}

-- The edition, n and m, or document 01's number for the refusal.
abbrev pub read_numbers : Result Header Refusal → Answer (ℕ × ℕ × ℕ)
read_numbers (Ok h) = given (h.edition, h.n, h.m)
read_numbers (Err r) = refused (refusal_number r)

-- What a reading answers where there is room for so many records: 8 after all that is refused of the file.
abbrev pub room_answer : Result Reading Refusal → ℕ → Answer (ℕ × ℕ × ℕ)
room_answer r room =
    answer (or_else (verdict_number r) (cond (ltb room (plan_in r).m) (some 8) none)) (edition_in r, (plan_in r).n, (plan_in r).m)

-- How many records are stored.
abbrev pub arcs_read : Result Header Refusal → ℕ
arcs_read (Ok h) = h.m
arcs_read (Err r) = 0

-- There is room for m arcs: in the file, and in a list of `room` records.
abbrev pub Room : List ℕ → ℕ → ℕ → Type 0
Room bytes room m = (m ≤ 256) × (1 ≤ m → file_bits (edition bytes) m ≤ 8 * length bytes) × (m ≤ room)
