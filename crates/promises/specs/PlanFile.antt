-- THE PLAN FILE: reading into a lent list of arc records, and writing from one.
use Rattle.std.specs.Prelude.{◌≡◌, ℕ, ◌≤◌, ◌<◌, length, get_or, take, drop, Result}
use mathlib.Core.List.{List, ◌++◌, map, Memᴰ}
use Rattle.std.proofs.Math.Option.{none, some}
use Rattle.postman.specs.Plan.{Arc as Fields}
use Rattle.postman.specs.Refusal.{refused, given}
use Rattle.postman.specs.PlanFile.{edition, vertex_count, arc_count, plan_of, read_refusal, read_answer}
use Rattle.postman.specs.PlanFile.{records_after, IsRecord, file_length}
use Rattle.postman.specs.PlanFile.{file_of, write_refusal, write_answer, bytes_after}
use Rattle.plan.specs.declared.Arc.{Arc}
use Rattle.plan.specs.Records.{arc_value}
use Rattle.refusal.specs.declared.Refusal.{Refusal}
use Rattle.plan_writer.specs.Writing.{written_answer}
use Rattle.records.specs.declared.reader.Header.{Header}
use Rattle.records.specs.Reading.{read_numbers}
use Rattle.record_writer.specs.Writing.{list_plan}

-- ---- reading

-- A reading that was made. `records` `read_records` ensures both equations, for any bytes and any list.
pub record Reading (bytes : List ℕ) (list : List Arc) : Type 0 where
  pub after : List Arc
  pub answer : Result Header Refusal
  pub answer_is : read_numbers answer ≡ read_answer bytes (map arc_value list)
  pub after_is : map arc_value after ≡ records_after bytes (map arc_value list)

-- "Order: 1 (three bytes), 2, 3, 1 (length), 4, then arc by arc 5, 6, 7", then 13 and 8. "A refusal returns its number only and changes
-- no lent slice."
abbrev pub ReadRefused : Type 0
ReadRefused = (bytes : List ℕ) (list : List Arc) (r : Reading bytes list) (k : ℕ) → read_refusal bytes (length list) ≡ some k
    → (read_numbers r.answer ≡ refused k) × (map arc_value r.after ≡ map arc_value list)

-- "It answers n and m", and "the edition too". "The arcs go into a lent list of arc records; records from m on are untouched."
abbrev pub ReadGiven : Type 0
ReadGiven = (bytes : List ℕ) (list : List Arc) (r : Reading bytes list) → read_refusal bytes (length list) ≡ none
    → (read_numbers r.answer ≡ given (edition bytes, vertex_count bytes, arc_count bytes))
    × (map arc_value r.after ≡ (plan_of bytes).arcs ++ map arc_value (drop (arc_count bytes) list))

-- ---- writing

-- A writing that was made. `records` `write_records` ensures both equations, for any edition, n, list and bytes.
pub record Writing (e n : ℕ) (list : List Arc) (bytes : List ℕ) : Type 0 where
  pub after : List ℕ
  pub answer : Result ℕ Refusal
  pub answer_is : written_answer answer ≡ write_answer e (list_plan n list) bytes
  pub after_is : after ≡ bytes_after e (list_plan n list) bytes

-- "The writer is told which edition to write, first refuses others with 2"; then "3 and 5 to 8", and 13 before 8.
abbrev pub WriteRefused : Type 0
WriteRefused = (e n : ℕ) (list : List Arc) (bytes : List ℕ) (w : Writing e n list bytes) (k : ℕ)
    → write_refusal e (list_plan n list) (length bytes) ≡ some k → (written_answer w.answer ≡ refused k) × (w.after ≡ bytes)

-- "Fills a lent byte slice from its start; bytes after the file are untouched. It answers the file's length in bytes."
abbrev pub WriteGiven : Type 0
WriteGiven = (e n : ℕ) (list : List Arc) (bytes : List ℕ) (w : Writing e n list bytes)
    → write_refusal e (list_plan n list) (length bytes) ≡ none
    → (written_answer w.answer ≡ given (file_length e (length list)))
    × (w.after ≡ file_of e (list_plan n list) ++ drop (file_length e (length list)) bytes)

-- ---- there and back

-- The numbers of a record fit its type.
abbrev pub AreRecords : List Arc → Type 0
AreRecords list = (a : Fields) → Memᴰ a (map arc_value list) → IsRecord a

-- "A written plan still reads back to its fields, for plans without such pairs": the edition, n, m and the records.
abbrev pub ReadsBack : Type 0
ReadsBack = (e n : ℕ) (list : List Arc) (bytes : List ℕ) (w : Writing e n list bytes) (k : ℕ) → AreRecords list
    → written_answer w.answer ≡ given k
    → (into : List Arc) → length list ≤ length into → (r : Reading (take k w.after) into)
    → (read_numbers r.answer ≡ given (e, n, length list))
    × (map arc_value r.after ≡ map arc_value list ++ map arc_value (drop (length list) into))

-- And what is read is written back, byte by byte, in its edition.
abbrev pub WritesBack : Type 0
WritesBack = (bytes : List ℕ) (list : List Arc) (r : Reading bytes list) → ((i : ℕ) → get_or bytes i 0 < 256)
    → read_refusal bytes (length list) ≡ none
    → (slice : List ℕ) → length bytes ≤ length slice
    → (w : Writing (edition bytes) (vertex_count bytes) (take (arc_count bytes) r.after) slice)
    → (written_answer w.answer ≡ given (length bytes)) × (w.after ≡ bytes ++ drop (length bytes) slice)
