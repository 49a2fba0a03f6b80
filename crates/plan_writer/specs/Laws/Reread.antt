-- The code's own round trip, over the contracts of writing and reading.
use Rattle.std.specs.Prelude.{◌≡◌, ℕ, ◌<◌, ◌≤◌, length, get_or, take, drop, Result}
use Rattle.std.proofs.Math.Path.{sym}
use Rattle.std.proofs.Common.{ap, ◌∙◌, arith, length-append, take_at}
use mathlib.Core.List.{List, Memᴰ}
use Rattle.std.proofs.Math.Option.{none, some}
use Rattle.postman.specs.Lists.{below}
use Rattle.postman.specs.Plan.{Arc, Plan as Graph}
use Rattle.postman.specs.Refusal.{first_refusal, given, refused}
use Rattle.postman.specs.PlanFile.{write_refusal, write_answer, bytes_after, file_of, file_length, file_conditions}
use Rattle.plan.specs.declared.Arc.{Arc as ArcRecord}
use Rattle.plan.specs.declared.Plan.{Plan}
use Rattle.plan_file.specs.declared.Reading.{Reading}
use Rattle.refusal.specs.declared.Refusal.{Refusal}
use Rattle.refusal.specs.Verdict.{verdict_number}
use Rattle.plan.specs.Records.{zero_record, record_at, plan_value, plan_record, no_plan}
use Rattle.plan_file.specs.Reading.{edition_unless, plan_unless, edition_in, plan_in, IsReading}
use Rattle.postman_laws.specs.Laws.Acceptance.{file_is_accepted, accepted_is_writable, writable_well_formed}
use Rattle.postman.specs.Laws.Membership.{map_mem}
use Rattle.postman_laws.specs.Laws.PlanFile.{length_file_of, edition_same, plan_same, is_file}
use Rattle.plan_writer.specs.Laws.Writing.{length_given, refusal_given, given_bytes}
use Rattle.plan_writer.specs.Reread.{IsReread}

-- The bytes that were written, up to the length that was answered, are the file.
pub written-file
    : (e : ℕ) (p : Graph) (bytes s : List ℕ) (k : ℕ)
    → given k ≡ write_answer e p bytes
    → s ≡ bytes_after e p bytes
    → (k ≤ length s) × (take k s ≡ file_of e p)
written-file e p bytes s k h f =
    let w = length_given e p bytes k h in
    let g = f ∙ given_bytes e p bytes w.0 in
    let n = length_file_of e p ∙ sym w.1 in
    (rw g (simp length-append (omega (arith, n))), rw g (take_at (file_of e p) (drop (file_length e (length p.arcs)) bytes) k n))

-- A record's costs have 16 bits.
abbrev pub CostsFit : List ArcRecord → Type 0
CostsFit records = (k : ℕ) → ((get_or records k zero_record).cost < 65536) × ((get_or records k zero_record).service < 65536)

costs_fit : (p : Plan) → CostsFit p.arcs → (a : Arc) → Memᴰ a (plan_value p).arcs → (a.cost ≤ 65535) × (a.service ≤ 65535)
unfolding plan_value
costs_fit p small a h =
    let r = map_mem (record_at p.arcs) (below p.m) h in
    let c = ap (λ (b : Arc). b.cost) r.2 in
    let s = ap (λ (b : Arc). b.service) r.2 in
    let l = small r.0 in
    let l₀ = l.0 in
    let l₁ = l.1 in
    (omega arith, omega arith)

module _ (e : ℕ) (p : Plan) (bytes s : List ℕ) (room : length bytes ≡ 1475) (r : Result Reading Refusal) where
  -- Where the file was written, what is read of it is the plan.
  pub reread-file
      : (k : ℕ)
      → CostsFit p.arcs
      → given k ≡ write_answer e (plan_value p) bytes
      → s ≡ bytes_after e (plan_value p) bytes
      → IsReading (take k s) r
      → IsReread e p r
  unfolding edition_unless plan_unless
  reread-file k small h f read =
      let g = plan_value p in
      let w : write_refusal e g 1475 ≡ none = rw room at (length_given e g bytes k h).0 in
      let ok = writable_well_formed e g 1475 (costs_fit p small) w in
      let can = accepted_is_writable e g 1475 w in
      let same : IsReading (file_of e g) r = rw (written-file e g bytes s k h f).1 at read in
      let none_of : first_refusal (file_conditions (file_of e g)) ≡ none =
      file_is_accepted (file_of e g) (is_file e g ok can.edition_in can.arcs_in_holds) in
      record {
        verdict = same.verdict ∙ none_of ∙ sym w;
        edition_is = rw w (rw (none_of, edition_same e g can.edition_in) at same.edition_is);
        plan = rw w (rw (none_of, plan_same e g ok can.edition_in can.arcs_in_holds) at same.plan);
      }

  pub reread-refused
      : (q : ℕ)
      → refused q ≡ write_answer e (plan_value p) bytes
      → verdict_number r ≡ some q
      → edition_in r ≡ 0
      → plan_in r ≡ plan_record no_plan
      → IsReread e p r
  unfolding edition_unless plan_unless
  reread-refused q h v i l =
      let w : write_refusal e (plan_value p) 1475 ≡ some q = rw room at (refusal_given e (plan_value p) bytes q h) in
      record { verdict = v ∙ sym w; edition_is = rw w i; plan = rw w l }
