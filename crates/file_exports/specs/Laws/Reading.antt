-- Reading into lent bytes is reading into the records that they hold: there is room for a seventh as many
-- records as bytes, and a refusal stores none.
use Rattle.std.specs.Prelude.{◌≡◌, length, Result, Ok, Err}
use Rattle.std.proofs.Math.Path.{refl, sym, ap}
use Rattle.std.proofs.Common.{ap₂, ◌∙◌}
use mathlib.Core.List.{List, ◌++◌, map, flat_map}
use Rattle.std.proofs.Math.Option.{none}
use Prim.Native.Nat.{ℕ, ◌*◌, ◌/◌, ◌≤◌}
use Rattle.std.proofs.Math.ListN.{drop}
use Rattle.postman.specs.Lists.{below, up_from}
use Rattle.postman.specs.Plan.{Arc, Plan}
use Rattle.postman.specs.Refusal.{answer, unless}
use Rattle.postman.specs.PlanFile.{edition, vertex_count, arc_count, plan_of, file_conditions, read_refusal, read_answer}
use Rattle.postman_laws.specs.Laws.Below.{length_map_below}
use Rattle.postman_laws.specs.Laws.Refusal.{accepted_append, was_given, was_refused}
use Rattle.postman_laws.specs.Laws.Acceptance.{arcs_read_lem}
use Rattle.plan.specs.Records.{record_of, record_at, plan_value}
use Rattle.refusal.specs.declared.Refusal.{Refusal}
use Rattle.refusal.specs.Verdict.{refusal_number}
use Rattle.plan_file.specs.declared.Reading.{Reading}
use Rattle.plan_file.specs.Reading.{IsReading, plan_in}
use Rattle.plan_file.specs.Laws.Reading.{accepted_value}
use Rattle.records.specs.declared.reader.Header.{Header}
use Rattle.records.specs.Reading.{read_numbers, room_answer, arcs_read}
use Rattle.records.specs.Laws.Reading.{room_answer_lem, room_for}
use Rattle.encoding.specs.RecordBytes.{arc_bytes, arcs_in}
use Rattle.answers.specs.Number.{one_number}
use Rattle.file_exports.specs.Codec.{lent_after}
use Rattle.answers.specs.FileNumber.{packed}
use Rattle.encoding.specs.Laws.RecordBytes.{length_lent, length_records}

module _ (file lent : List ℕ) (reading : Result Reading Refusal) (is : IsReading file reading) where
  abbrev all : ℕ × ℕ × ℕ
  all = (edition file, vertex_count file, arc_count file)

  -- What `room_answer` says.
  abbrev pub Answers : Result Header Refusal → Type 0
  Answers r = read_numbers r ≡ room_answer reading (length lent / 7)

  answered : (r : Result Header Refusal) → Answers r → read_numbers r ≡ answer (read_refusal file (length lent / 7)) all
  answered r e = e ∙ room_answer_lem file (length lent / 7) reading is

  pub lent_room : (r : Result Header Refusal) → Answers r → (arcs_read r ≤ 256) × (arcs_read r ≤ length lent / 7)
  lent_room r e =
      let long = length_records lent in
      let room = rw long at (room_for file (map record_of (arcs_in lent)) r (rw long (answered r e))) in
      (room.0, room.2)

  pub lent_answer : (r : Result Header Refusal) → Answers r
      → one_number (packed (read_numbers r)) ≡ one_number (packed (read_answer file (arcs_in lent)))
  unfolding read_answer
  lent_answer r e = rw (length_lent, answered r e) refl

  -- the records that were read are the file's arcs
  arcs_are : read_refusal file (length lent / 7) ≡ none
      → map (record_at (plan_in reading).arcs) (below (plan_in reading).m) ≡ (plan_of file).arcs
  unfolding plan_value read_refusal
  arcs_are e = ap (λ (p : Plan). p.arcs) (accepted_value file reading is (accepted_append (file_conditions file) _ e).0)

  arc_count_is : read_refusal file (length lent / 7) ≡ none → (plan_in reading).m ≡ arc_count file
  arc_count_is e =
      sym (length_map_below (record_at (plan_in reading).arcs) (plan_in reading).m) ∙ ap length (arcs_are e) ∙ arcs_read_lem file

  pub lent_after_lem : (r : Result Header Refusal) → Answers r
      → flat_map arc_bytes (map (record_at (plan_in reading).arcs) (below (arcs_read r))) ++ drop (7 * arcs_read r) lent
      ≡ lent_after file lent
  unfolding lent_after unless below up_from flat_map
  lent_after_lem (Ok x) e =
      let w = was_given (read_refusal file (length lent / 7)) all (x.edition, x.n, x.m) (answered (Ok x) e) in
      let same : x.m ≡ arc_count file = ap (λ (p : ℕ × ℕ × ℕ). p.2) w.1 in
      let first : ℕ → List Arc = λ k. map (record_at (plan_in reading).arcs) (below k) in
      let arcs : first x.m ≡ (plan_of file).arcs = ap first (same ∙ sym (arc_count_is w.0)) ∙ arcs_are w.0 in
      rw w.0 (ap₂ (λ (l : List Arc) (k : ℕ). flat_map arc_bytes l ++ drop (7 * k) lent) arcs same)
  lent_after_lem (Err q) e =
      let w = was_refused (read_refusal file (length lent / 7)) all (refusal_number q) (answered (Err q) e) in
      rw w refl
