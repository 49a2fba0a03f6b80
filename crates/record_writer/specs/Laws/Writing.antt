-- Writing from a lent list: its plan by value is refused as the list is, and is the same plan where it is not.
use Rattle.std.specs.Prelude.{◌≡◌, refl, take, drop}
use Rattle.std.proofs.Common.{sym, ap, ◌∙◌, arith, drop_of_length-le, ext_get_or, take_all, lt-ltb, le-ltb}
use mathlib.Core.List.{List, map}
use Rattle.std.proofs.Math.Option.{some}
use Prim.Native.Nat.{ℕ, ◌<◌, ◌≤◌}
use Rattle.std.proofs.Math.Decide.{dec_lt}
use Rattle.std.proofs.Math.ListN.{length, get_or, replicate, get_or-append, get_or-map}
use Rattle.std.proofs.lemmas.List.{length-map, length-replicate}
use Rattle.postman.specs.Lists.{below}
use Rattle.postman.specs.Plan.{Arc, Plan as Graph}
use Rattle.postman.specs.PlanFile.{write_refusal, write_answer, bytes_after}
use Rattle.plan.specs.declared.Arc.{Arc as ArcRecord}
use Rattle.plan.specs.Records.{arc_value, zero_record, record_at, plan_value}
use Rattle.postman_laws.specs.Laws.Below.{length_map_below, get_d_map_below}
use Rattle.plan_writer.specs.Laws.Writing.{header_refusal, too_many_arcs, refused_answer, refused_bytes}
use Rattle.record_writer.specs.Laws.Stored.{stored_is}
use Rattle.record_writer.specs.Writing.{list_plan, at_most, loaded, count_of, counted_plan}

-- ---- the lesser of two numbers

pub at_most_le : (n limit : ℕ) → at_most n limit ≤ limit
at_most_le n limit =
    elim (dec_lt n limit) [ yes h ↦ rw (lt-ltb n limit h) (omega arith) | no h ↦ rw (le-ltb n limit (omega arith)) (omega arith) ]

pub at_most_fits : (n limit : ℕ) → at_most n limit ≤ n
at_most_fits n limit =
    elim (dec_lt n limit) [ yes h ↦ rw (lt-ltb n limit h) (omega arith) | no h ↦ rw (le-ltb n limit (omega arith)) (omega arith) ]

pub at_most_same : (n limit : ℕ) → n ≤ limit → at_most n limit ≡ n
at_most_same n limit h = elim (dec_lt n limit) [ yes l ↦ rw (lt-ltb n limit l) | no l ↦ rw (le-ltb n limit (omega arith)) (omega arith) ]

pub at_most_limit : (n limit : ℕ) → limit ≤ n → at_most n limit ≡ limit
at_most_limit n limit h = rw (le-ltb n limit h) refl

-- as many of a list's elements as a number says, or all of them
module _ {A : Type 0} (xs : List A) (n limit : ℕ) (long : length xs ≡ limit) where
  pub take_at_most : take (at_most n limit) xs ≡ take n xs
  take_at_most = elim (dec_lt n limit) [
    | yes l ↦ ap (λ (k : ℕ). take k xs) (at_most_same n limit (omega arith))
    | no l ↦ ap (λ (k : ℕ). take k xs) (at_most_limit n limit (omega arith)) ∙ take_all limit xs (omega arith)
        ∙ sym (take_all n xs (omega arith))
  ]

  pub drop_at_most : drop (at_most n limit) xs ≡ drop n xs
  drop_at_most = elim (dec_lt n limit) [
    | yes l ↦ ap (λ (k : ℕ). drop k xs) (at_most_same n limit (omega arith))
    | no l ↦ ap (λ (k : ℕ). drop k xs) (at_most_limit n limit (omega arith)) ∙ drop_of_length-le xs {i = limit} (omega arith)
        ∙ sym (drop_of_length-le xs {i = n} (omega arith))
  ]

-- ---- a list of at most 256 records

module _ (n : ℕ) (records : List ArcRecord) where
  abbrev written : Graph
  written = plan_value (counted_plan n (length records) (loaded records))

  loaded_at : length records ≤ 256 → (k : ℕ) → k < length records → get_or (loaded records) k zero_record ≡ get_or records k zero_record
  unfolding loaded
  loaded_at h k l =
      let get : ℕ → ArcRecord = λ j. get_or records j zero_record in
      let zeros = replicate 256 zero_record in
      let m = length records in
      let long : m ≤ length zeros = rw (length-replicate 256 zero_record) h in
      rw (at_most_same m 256 h) (ap (λ (xs : List ArcRecord). get_or xs k zero_record) (stored_is get zeros m long)
      ∙ get_or-append (map get (below m)) (drop m zeros) zero_record k (rw (length_map_below get m) l)
      ∙ get_d_map_below get m k zero_record l)

  -- The plan by value is the list's plan.
  same_plan_lem : length records ≤ 256 → written ≡ list_plan n records
  unfolding plan_value
  same_plan_lem h = λ i. record { n = n; arcs = same_arcs i }
    where
      zero_arc : Arc
      zero_arc = arc_value zero_record

      of_count : (m : ℕ) → m ≡ length records → map (record_at (loaded records)) (below m) ≡ map arc_value records
      of_count m e =
          let counted = length_map_below (record_at (loaded records)) m in
          ext_get_or zero_arc (map (record_at (loaded records)) (below m)) (map arc_value records)
          (counted ∙ e ∙ sym (length-map records arc_value))
          (λ k l. get_d_map_below (record_at (loaded records)) m k zero_arc (omega (arith, counted, l))
          ∙ ap arc_value (loaded_at h k (omega (arith, counted, l, e)))
          ∙ sym (get_or-map arc_value records k zero_record))

      same_arcs : map (record_at (loaded records)) (below (count_of (length records))) ≡ map arc_value records
      same_arcs = of_count (count_of (length records)) (at_most_same (length records) _ (omega (arith, h)))

-- ---- a longer list

module _ (e n : ℕ) (records : List ArcRecord) (bytes : List ℕ) where
  abbrev plan : Graph
  plan = written n records

  abbrev list : Graph
  list = list_plan n records

  plan_refused : 256 < length records → write_refusal e plan (length bytes) ≡ some (header_refusal e)
  unfolding plan_value
  plan_refused h =
      let m = count_of (length records) in
      let count : length (map (record_at (loaded records)) (below m)) ≡ m = length_map_below (record_at (loaded records)) m in
      too_many_arcs e plan (length bytes) (omega (arith, count, at_most_limit (length records) _ h))

  list_refused : 256 < length records → write_refusal e list (length bytes) ≡ some (header_refusal e)
  list_refused h = too_many_arcs e list (length bytes) (omega (arith, length-map records arc_value, h))

  -- Writing the plan by value is writing the list.
  pub same_answer : write_answer e plan bytes ≡ write_answer e list bytes
  same_answer = at (dec_lt 256 (length records))
    where
      at : Dec (256 < length records) → write_answer e plan bytes ≡ write_answer e list bytes
      at (yes h) =
          refused_answer e plan bytes (header_refusal e) (plan_refused h)
          ∙ sym (refused_answer e list bytes (header_refusal e) (list_refused h))
      at (no h) = ap (λ (p : Graph). write_answer e p bytes) (same_plan_lem n records (omega arith))

  pub same_bytes : bytes_after e plan bytes ≡ bytes_after e list bytes
  same_bytes = at (dec_lt 256 (length records))
    where
      at : Dec (256 < length records) → bytes_after e plan bytes ≡ bytes_after e list bytes
      at (yes h) =
          refused_bytes e plan bytes (header_refusal e) (plan_refused h)
          ∙ sym (refused_bytes e list bytes (header_refusal e) (list_refused h))
      at (no h) = ap (λ (p : Graph). bytes_after e p bytes) (same_plan_lem n records (omega arith))
