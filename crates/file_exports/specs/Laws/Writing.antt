-- Writing from lent bytes is writing the records that they hold; and n above 64 is refused whatever it is, so that 65 can stand for it; so
-- is an edition above 2, and 3 stands for it.
use Rattle.std.specs.Prelude.{◌≡◌, List, map, false, ℕ, ◌/◌, ◌<◌, ◌≤◌, length}
use Rattle.std.proofs.Common.{sym, ap, ◌∙◌, map-id, arith, ne_eqb}
use Rattle.std.proofs.lemmas.Simd.{map-map}
use Rattle.std.proofs.Math.Option.{some}
use Rattle.std.proofs.Math.Decide.{dec_lt}
use Rattle.postman.specs.Plan.{Plan as Graph}
use Rattle.postman.specs.Refusal.{given}
use Rattle.postman.specs.PlanFile.{is_edition, write_refusal, write_answer, bytes_after}
use Rattle.plan.specs.declared.Arc.{Arc as ArcRecord}
use Rattle.plan.specs.Records.{arc_value, record_of, plan_value}
use Rattle.postman_laws.specs.Laws.Acceptance.{few_arcs}
use Rattle.postman_laws.specs.Laws.FileLength.{file_length_le}
use Rattle.plan_writer.specs.Laws.Writing.{header_refusal, too_many_vertices, no_edition, refused_answer, refused_bytes, length_given}
use Rattle.record_writer.specs.Writing.{at_most, counted_plan, list_plan, loaded}
use Rattle.record_writer.specs.Laws.Writing.{at_most_same, at_most_limit, same_answer, same_bytes}
use Rattle.encoding.specs.RecordBytes.{arcs_in}
use Rattle.file_exports.specs.Codec.{lent_plan}
use Rattle.encoding.specs.Laws.RecordBytes.{length_records}

-- ---- the edition

edition_above : (e : ℕ) → 3 ≤ e → is_edition e ≡ false
unfolding is_edition
edition_above e h = rw (ne_eqb e 1 (λ q. omega arith), ne_eqb e 2 (λ q. omega arith))

module _ (e : ℕ) (p : Graph) (bytes : List ℕ) where
  first_answer : write_answer (at_most e 3) p bytes ≡ write_answer e p bytes
  first_answer = at (dec_lt e 3)
    where
      at : Dec (e < 3) → write_answer (at_most e 3) p bytes ≡ write_answer e p bytes
      at (yes h) = ap (λ (k : ℕ). write_answer k p bytes) (at_most_same e 3 (omega arith))
      at (no h) =
          rw (at_most_limit e 3 (omega arith))
          (refused_answer 3 p bytes 2 (no_edition 3 p (length bytes) (edition_above 3 (omega arith)))
          ∙ sym (refused_answer e p bytes 2 (no_edition e p (length bytes) (edition_above e (omega arith)))))

  first_bytes : bytes_after (at_most e 3) p bytes ≡ bytes_after e p bytes
  first_bytes = at (dec_lt e 3)
    where
      at : Dec (e < 3) → bytes_after (at_most e 3) p bytes ≡ bytes_after e p bytes
      at (yes h) = ap (λ (k : ℕ). bytes_after k p bytes) (at_most_same e 3 (omega arith))
      at (no h) =
          rw (at_most_limit e 3 (omega arith))
          (refused_bytes 3 p bytes 2 (no_edition 3 p (length bytes) (edition_above 3 (omega arith)))
          ∙ sym (refused_bytes e p bytes 2 (no_edition e p (length bytes) (edition_above e (omega arith)))))

-- ---- n

module _ (e n : ℕ) (lent bytes : List ℕ) where
  abbrev cut : Graph
  cut = lent_plan (at_most n 65) lent

  abbrev whole : Graph
  whole = lent_plan n lent

  cut_refused : 65 ≤ n → write_refusal e cut (length bytes) ≡ some (header_refusal e)
  unfolding lent_plan
  cut_refused h = too_many_vertices e cut (length bytes) (omega (arith, at_most_limit n 65 h))

  whole_refused : 65 ≤ n → write_refusal e whole (length bytes) ≡ some (header_refusal e)
  unfolding lent_plan
  whole_refused h = too_many_vertices e whole (length bytes) (omega arith)

  cut_answer : write_answer e cut bytes ≡ write_answer e whole bytes
  cut_answer = at (dec_lt n 65)
    where
      at : Dec (n < 65) → write_answer e cut bytes ≡ write_answer e whole bytes
      at (yes h) = ap (λ (k : ℕ). write_answer e (lent_plan k lent) bytes) (at_most_same n 65 (omega arith))
      at (no h) = refused_answer e cut bytes (header_refusal e) (cut_refused (omega arith))
          ∙ sym (refused_answer e whole bytes (header_refusal e) (whole_refused (omega arith)))

  cut_bytes : bytes_after e cut bytes ≡ bytes_after e whole bytes
  cut_bytes = at (dec_lt n 65)
    where
      at : Dec (n < 65) → bytes_after e cut bytes ≡ bytes_after e whole bytes
      at (yes h) = ap (λ (k : ℕ). bytes_after e (lent_plan k lent) bytes) (at_most_same n 65 (omega arith))
      at (no h) = refused_bytes e cut bytes (header_refusal e) (cut_refused (omega arith))
          ∙ sym (refused_bytes e whole bytes (header_refusal e) (whole_refused (omega arith)))

-- ---- the records

lent_list : (n : ℕ) (lent : List ℕ) → list_plan n (map record_of (arcs_in lent)) ≡ lent_plan n lent
unfolding lent_plan
lent_list n lent = λ i. record { n = n; arcs = same i }
  where
    same : map arc_value (map record_of (arcs_in lent)) ≡ arcs_in lent
    same = map-map arc_value record_of (arcs_in lent) ∙ map-id (arcs_in lent)

-- What is written is a plan by value: the edition, cut at 3, n, cut at 65, and the first 256 records.
module _ (e n : ℕ) (lent bytes : List ℕ) (d k : ℕ) (arcs : List ArcRecord) (which : d ≡ at_most e 3) (few : k ≡ at_most n 65)
    (load : arcs ≡ loaded (map record_of (arcs_in lent))) where
  abbrev written : Graph
  written = plan_value (counted_plan k (length lent / 7) arcs)

  pub value_answer : write_answer d written bytes ≡ write_answer e (lent_plan n lent) bytes
  value_answer =
      let c = at_most n 65 in
      rw (which, few, load)
      (first_answer e (plan_value (counted_plan c (length lent / 7) (loaded (map record_of (arcs_in lent))))) bytes
      ∙ (rw (length_records lent) at (same_answer e c (map record_of (arcs_in lent)) bytes))
      ∙ ap (λ (p : Graph). write_answer e p bytes) (lent_list c lent)
      ∙ cut_answer e n lent bytes)

  pub value_bytes : bytes_after d written bytes ≡ bytes_after e (lent_plan n lent) bytes
  value_bytes =
      let c = at_most n 65 in
      rw (which, few, load)
      (first_bytes e (plan_value (counted_plan c (length lent / 7) (loaded (map record_of (arcs_in lent))))) bytes
      ∙ (rw (length_records lent) at (same_bytes e c (map record_of (arcs_in lent)) bytes))
      ∙ ap (λ (p : Graph). bytes_after e p bytes) (lent_list c lent)
      ∙ cut_bytes e n lent bytes)

-- ---- the length

-- "The longest file is now 1,475 bytes."
pub length_small : (e : ℕ) (p : Graph) (bytes : List ℕ) (k : ℕ) → given k ≡ write_answer e p bytes → k ≤ 1475
length_small e p bytes k h =
    let w = length_given e p bytes k h in
    omega (arith, w.1, file_length_le e (length p.arcs) (few_arcs e p (length bytes) w.0))
