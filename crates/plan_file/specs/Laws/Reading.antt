-- The refusal of a file by the fields of its header, and what a caller goes by once a plan was read.
use Rattle.std.specs.Prelude.{◌≡◌, cond, not, ◌||◌, List, ◌++◌, map, ℕ, ◌≤◌, length, ltb, Result, Ok, Err}
use Rattle.std.proofs.Math.Path.{refl, sym, ap, ap₂, subst⁻¹}
use Rattle.std.proofs.Common.{◌∙◌}
use Rattle.std.proofs.Math.Option.{none, some}
use native.Mathlib.Omega.{arith}
use Rattle.std.proofs.Math.Dec.{nltb→le}
use Rattle.postman.specs.Lists.{below}
use Rattle.postman.specs.BitField.{field_at}
use Rattle.postman.specs.Refusal.{first_refusal}
use Rattle.postman.specs.PlanFile.{edition, vertex_count, arc_count, is_edition, arc_of, file_length, edition_conditions, extent_conditions, body_conditions, plan_conditions, is_outside, file_conditions, plan_of}
use Rattle.plan.specs.declared.Arc.{Arc as ArcRecord}
use Rattle.plan.specs.declared.Plan.{Plan as PlanRecord}
use Rattle.plan_file.specs.declared.Reading.{Reading}
use Rattle.postman.specs.Laws.Tests.{not_or}
use Rattle.postman_laws.specs.Laws.Below.{length_map_below}
use Rattle.postman_laws.specs.Laws.Refusal.{accepted_cons, accepted_append, first_on, first_stop}
use Rattle.postman_laws.specs.Laws.Acceptance.{extent_accepted, arcs_read_lem, file_accepted}
use Rattle.plan_file.specs.Reading.{IsReading, edition_unless, plan_unless, edition_in, plan_in, margin_conditions, extent_on, frame_conditions}
use Rattle.plan_file.specs.Laws.Records.{value_record}
use Rattle.arc_rules.specs.Arcs.{plan_from}
use Rattle.plan.specs.Records.{record_at, plan_value, records_of, plan_record}
use Rattle.refusal.specs.declared.Refusal.{Refusal}
use Rattle.refusal.specs.Verdict.{refusal_number}
use Rattle.postman.specs.Plan.{Plan, WellFormed}

-- The refusal of the frame, by the fields of the header.
pub frame-refusal
    : (bytes : List ℕ)
    → first_refusal (frame_conditions bytes)
    ≡ cond (ltb (length bytes) 3) (some 1) (cond (not (is_edition (edition bytes))) (some 2)
    (first_refusal (extent_on bytes (edition bytes))))
unfolding first_refusal frame_conditions edition_conditions
frame-refusal bytes = refl

pub extent-refusal
    : (bytes : List ℕ) (e : ℕ)
    → first_refusal (extent_on bytes e)
    ≡ cond (is_outside (field_at bytes 4 7) 1 64 || is_outside (field_at bytes 11 9) 1 256) (some 3)
    (first_refusal (margin_conditions bytes e (field_at bytes 11 9)))
unfolding first_refusal extent_on extent_conditions vertex_count arc_count
extent-refusal bytes e = refl

-- A file is refused for its frame, or else for its arcs.
module _ (bytes : List ℕ) where
  in_order : file_conditions bytes ≡ frame_conditions bytes ++ plan_conditions (edition bytes) (plan_of bytes)
  unfolding file_conditions edition_conditions extent_conditions body_conditions frame_conditions extent_on margin_conditions
  in_order = refl

  pub frame_refused : (r : ℕ) → first_refusal (frame_conditions bytes) ≡ some r → first_refusal (file_conditions bytes) ≡ some r
  frame_refused r e = rw in_order (first_stop (frame_conditions bytes) _ r e)

  pub frame_passed : first_refusal (frame_conditions bytes) ≡ none
      → first_refusal (file_conditions bytes) ≡ first_refusal (plan_conditions (edition bytes) (plan_of bytes))
  frame_passed e = rw in_order (first_on (frame_conditions bytes) _ e)

  -- A file whose frame is good has its header, is within the limits and is as long as its arcs.
  pub framed : first_refusal (frame_conditions bytes) ≡ none
      → (3 ≤ length bytes)
      × (vertex_count bytes ≤ 64)
      × (arc_count bytes ≤ 256)
      × (length bytes ≡ file_length (edition bytes) (arc_count bytes))
  unfolding frame_conditions edition_conditions extent_on margin_conditions
  framed h =
      let three = accepted_cons _ _ _ h in
      let both = accepted_append (extent_conditions (vertex_count bytes) (arc_count bytes)) _ (accepted_cons _ _ _ three.1).1 in
      let limits = extent_accepted (vertex_count bytes) (arc_count bytes) both.0 in
      let short = accepted_cons _ _ _ both.1 in
      let long = (not_or (ltb (file_length (edition bytes) (arc_count bytes)) (length bytes)) _ (accepted_cons _ _ _ short.1).0).0 in
      let low = nltb→le (length bytes) (file_length (edition bytes) (arc_count bytes)) short.0 in
      let high = nltb→le (file_length (edition bytes) (arc_count bytes)) (length bytes) long in
      (nltb→le (length bytes) 3 three.0, limits.1, limits.3, omega arith)

-- The plan by value, by its parts.
pub plan_parts : (bytes : List ℕ) (e n m : ℕ) (records : List ArcRecord) → e ≡ edition bytes → n ≡ vertex_count bytes → m ≡ arc_count bytes
    → records ≡ records_of (map (arc_of bytes e) (below m))
    → ◌≡◌ {A = PlanRecord} (record { n = n; m = m; arcs = records }) (plan_record (plan_of bytes))
unfolding plan_record plan_of
plan_parts bytes e n m records e' n' m' r =
    let count = length_map_below (arc_of bytes (edition bytes)) (arc_count bytes) in
    let same = r ∙ ap₂ (λ (x y : ℕ). records_of (map (arc_of bytes x) (below y))) e' m' in
    λ i. record { n = n' i; m = (m' ∙ sym count) i; arcs = same i }

-- What is answered, once the frame is good: the records that were read are the file's arcs, and the verdict on them is the file's.
module _ (bytes : List ℕ) (good : first_refusal (frame_conditions bytes) ≡ none) (e : ℕ) (is : e ≡ edition bytes)
    (plan : PlanRecord) (read : plan ≡ plan_record (plan_of bytes)) where
  pub few_arcs : plan.m ≤ 256
  unfolding plan_record
  few_arcs = let m = (framed bytes good).2 in let same = ap (λ (p : PlanRecord). p.m) read ∙ arcs_read_lem bytes in omega arith

  pub arcs-refusal
      : first_refusal (plan_conditions e (plan_from plan.n (record_at plan.arcs) plan.m)) ≡ first_refusal (file_conditions bytes)
  unfolding plan_value
  arcs-refusal =
      ap₂ (λ (x : ℕ) (p : Plan). first_refusal (plan_conditions x p)) is (ap plan_value read ∙ value_record (plan_of bytes))
      ∙ sym (frame_passed bytes good)

  pub given_reading : first_refusal (file_conditions bytes) ≡ none
      → IsReading bytes (Ok (record { edition = e; plan = plan }))
  unfolding edition_unless plan_unless
  given_reading h = record { verdict = sym h; edition_is = rw h is; plan = rw h read }

-- What is answered where the file is refused.
pub refused_reading_lem : (bytes : List ℕ) (r : Refusal) (x : Result Reading Refusal) → x ≡ Err r
    → first_refusal (file_conditions bytes) ≡ some (refusal_number r) → IsReading bytes x
unfolding edition_unless plan_unless
refused_reading_lem bytes r x q h = rw q (record { verdict = sym h; edition_is = rw h refl; plan = rw h refl })

-- The edition is the file's, and the plan by value stands for the file's plan.
pub accepted_edition : (bytes : List ℕ) (r : Result Reading Refusal) → IsReading bytes r → first_refusal (file_conditions bytes) ≡ none
    → edition_in r ≡ edition bytes
unfolding edition_unless
accepted_edition bytes r read e = rw e at read.edition_is

pub accepted_value : (bytes : List ℕ) (r : Result Reading Refusal) → IsReading bytes r → first_refusal (file_conditions bytes) ≡ none
    → plan_value (plan_in r) ≡ plan_of bytes
unfolding plan_unless
accepted_value bytes r read e = ap plan_value (rw e at read.plan) ∙ value_record (plan_of bytes)

-- A reading that is not a refusal holds a plan that is well formed.
pub read_good : {bytes : List ℕ} {r : Reading} → IsReading bytes (Ok r) → WellFormed (plan_value r.plan)
read_good {bytes} {r} read =
    let e = sym read.verdict in
    subst⁻¹ WellFormed (accepted_value bytes (Ok r) read e) (file_accepted bytes e)
