-- What reading a plan file into a plan by value answers.
use Rattle.std.specs.Prelude.{◌≡◌, Bool, cond, not, ◌&&◌, ◌||◌, List, [], ◌∷◌, ◌++◌, ℕ, ◌+◌, ◌*◌, eqb, ltb, leb, length, Result, Ok, Err}
use Rattle.std.proofs.Math.Option.{Option, none, some}
use Rattle.postman.specs.Plan.{Plan}
use Rattle.postman.specs.Refusal.{Conditions, first_refusal}
use Rattle.postman.specs.PlanFile.{edition, vertex_count, arc_count, file_bits, file_length, fill_bits, arc_of, edition_conditions, extent_conditions, file_conditions, plan_of}
use Rattle.plan_file.specs.declared.Reading.{Reading}
use Rattle.refusal.specs.declared.Refusal.{Refusal}
use Rattle.refusal.specs.Verdict.{verdict_number}
use Rattle.plan.specs.declared.Arc.{Arc as ArcRecord}
use Rattle.plan.specs.declared.Plan.{Plan as PlanRecord}
use Rattle.plan.specs.Records.{record_of, zero_record, plan_record, no_plan}

-- The edition, or 0 where there is a refusal; the plan, or no plan.
unfoldable pub edition_unless : Option ℕ → ℕ → ℕ
edition_unless none e = e
edition_unless (some r) e = 0

unfoldable pub plan_unless : Option ℕ → Plan → Plan
plan_unless none p = p
plan_unless (some r) p = no_plan

-- What is read of either: 0 and no plan in a refusal.
abbrev pub edition_in : Result Reading Refusal → ℕ
edition_in (Ok r) = r.edition
edition_in (Err q) = 0

abbrev pub plan_in : Result Reading Refusal → PlanRecord
plan_in (Ok r) = r.plan
plan_in (Err q) = plan_record no_plan

-- The verdict is the first refusal that applies, or none; 8 is for a lent list, and a plan by
-- value has room. Edition and plan are the file's.
pub record IsReading (bytes : List ℕ) (r : Result Reading Refusal) : Type 0 where
  pub verdict : verdict_number r ≡ first_refusal (file_conditions bytes)
  pub edition_is : edition_in r ≡ edition_unless (first_refusal (file_conditions bytes)) (edition bytes)
  pub plan : plan_in r ≡ plan_record (plan_unless (first_refusal (file_conditions bytes)) (plan_of bytes))

-- Whether a file has room for arc k in edition e; and the record of arc k, in the file's own edition, zeros where there is no room.
unfoldable pub has_arc : List ℕ → ℕ → ℕ → Bool
unfolding file_bits
has_arc bytes e k = leb k 255 && leb (file_bits e (k + 1)) (8 * length bytes)

unfoldable pub record_in : List ℕ → ℕ → ArcRecord
unfolding has_arc edition arc_of
record_in bytes k = cond (has_arc bytes (edition bytes) k) (record_of (arc_of bytes (edition bytes) k)) zero_record

-- What is looked at before the arcs: "1 (length), 4"; with n and m before these; and with the header's length and the edition before all.
unfoldable pub margin_conditions : List ℕ → ℕ → ℕ → Conditions
unfolding file_length fill_bits
margin_conditions bytes e m =
    (ltb (length bytes) (file_length e m), 1) ∷ (ltb (file_length e m) (length bytes) || not (eqb (fill_bits bytes e m) 0), 4) ∷ []

unfoldable pub extent_on : List ℕ → ℕ → Conditions
unfolding vertex_count arc_count extent_conditions margin_conditions
extent_on bytes e = extent_conditions (vertex_count bytes) (arc_count bytes) ++ margin_conditions bytes e (arc_count bytes)

unfoldable pub frame_conditions : List ℕ → Conditions
unfolding edition edition_conditions extent_on
frame_conditions bytes = (ltb (length bytes) 3, 1) ∷ edition_conditions (edition bytes) ++ extent_on bytes (edition bytes)
