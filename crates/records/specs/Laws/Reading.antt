-- Reading into a lent list: its refusal, by the file's refusal and the room; and what the stored records are.
use Rattle.std.proofs.Math.Path.{◌≡◌, refl, ap}
use Rattle.std.proofs.Common.{◌∙◌, arith}
use Rattle.std.specs.Prelude.{cond, List, [], ◌∷◌, ◌++◌, map, length, drop, ltb, Result, Ok, Err}
use Rattle.std.proofs.lemmas.List.{map-append, length-map}
use Rattle.std.proofs.lemmas.Simd.{map-map}
use Rattle.std.proofs.Math.Option.{Option, none, some}
use Prim.Native.Nat.{ℕ, zero, suc, ◌*◌, ◌<◌, ◌≤◌}
use borrow.Author.Tests.{lt-ltb, le-ltb}
use Rattle.postman.specs.Lists.{below}
use Rattle.postman.specs.Plan.{Arc}
use Rattle.postman.specs.Refusal.{first_refusal, refused, given, answer, unless}
use Rattle.postman.specs.PlanFile.{edition, arc_of, vertex_count, arc_count, plan_of, file_bits, file_conditions, read_refusal, read_answer, records_after}
use Rattle.plan.specs.declared.Arc.{Arc as ArcRecord}
use Rattle.plan.specs.declared.Plan.{Plan as PlanRecord}
use Rattle.plan.specs.Records.{arc_value, record_of, plan_record}
use Rattle.plan_file.specs.declared.Reading.{Reading}
use Rattle.plan_file.specs.Reading.{IsReading, plan_unless, edition_in, plan_in}
use Rattle.plan_file.specs.Laws.Reading.{accepted_edition}
use Rattle.refusal.specs.declared.Refusal.{Refusal}
use Rattle.refusal.specs.Verdict.{refusal_number}
use Rattle.postman_laws.specs.Laws.Refusal.{first_on, first_stop, was_given, was_refused}
use Rattle.postman_laws.specs.Laws.FileLength.{bits_fit}
use Rattle.postman_laws.specs.Laws.Acceptance.{read_is_file, vertices_read, arcs_read_lem}
use Rattle.records.specs.declared.reader.Header.{Header}
use Rattle.record_writer.specs.Stored.{stored_to}
use Rattle.record_writer.specs.Laws.Stored.{stored_is}
use Rattle.records.specs.Reading.{read_numbers, room_answer, arcs_read, Room}

-- ---- lists

pub map_drop : {A B : Type 0} (f : A → B) (xs : List A) (k : ℕ) → map f (drop k xs) ≡ drop k (map f xs)
map_drop f xs zero = refl
map_drop f [] (suc k) = refl
map_drop f (x ∷ xs) (suc k) = map_drop f xs k

-- ---- the refusal: the file's, or else 8 by the list's room

module _ (r : Reading) (room : ℕ) where
  pub too_short : room < r.plan.m → refused 8 ≡ room_answer (Ok r) room
  unfolding answer
  too_short h = rw (lt-ltb room r.plan.m h) refl

  pub long_enough : r.plan.m ≤ room → given (r.edition, r.plan.n, r.plan.m) ≡ room_answer (Ok r) room
  unfolding answer
  long_enough h = rw (le-ltb room r.plan.m h) refl

pub refusal_of_file : (q : Refusal) (room : ℕ) → refused (refusal_number q) ≡ room_answer (Err q) room
unfolding answer
refusal_of_file q room = refl

module _ (bytes : List ℕ) (room : ℕ) (r : Result Reading Refusal) (read : IsReading bytes r) where
  abbrev Same : Type 0
  Same = room_answer r room ≡ answer (read_refusal bytes room) (edition bytes, vertex_count bytes, arc_count bytes)

  accepted : first_refusal (file_conditions bytes) ≡ none → Same
  unfolding read_refusal first_refusal plan_record plan_unless
  accepted e =
      let plan = rw e at read.plan in
      let n : (plan_in r).n ≡ vertex_count bytes = ap (λ (p : PlanRecord). p.n) plan ∙ vertices_read bytes in
      let m : (plan_in r).m ≡ arc_count bytes = ap (λ (p : PlanRecord). p.m) plan ∙ arcs_read_lem bytes in
      let same : ◌≡◌ {A = ℕ × ℕ × ℕ} (edition_in r, (plan_in r).n, (plan_in r).m) (edition bytes, vertex_count bytes, arc_count bytes) =
      λ i. (accepted_edition bytes r read e i, n i, m i)
      in
      rw (read.verdict, e, first_on (file_conditions bytes) ((ltb room (arc_count bytes), 8) ∷ []) e)
      (ap (λ (x : ℕ × ℕ × ℕ). answer (cond (ltb room x.2) (some 8) none) x) same)

  stopped : (k : ℕ) → first_refusal (file_conditions bytes) ≡ some k → Same
  unfolding read_refusal answer
  stopped k e = rw (read.verdict, e, first_stop (file_conditions bytes) ((ltb room (arc_count bytes), 8) ∷ []) k e) refl

  pub room_answer_lem : Same
  room_answer_lem = by (first_refusal (file_conditions bytes)) refl
    where
      by : (o : Option ℕ) → first_refusal (file_conditions bytes) ≡ o → Same
      by none e = accepted e
      by (some k) e = stopped k e

-- ---- the stored records

module _ (bytes : List ℕ) (records : List ArcRecord) where
  abbrev pub Answers : Result Header Refusal → Type 0
  Answers r = read_numbers r ≡ answer (read_refusal bytes (length records)) (edition bytes, vertex_count bytes, arc_count bytes)

  abbrev stored : ℕ → List ArcRecord
  stored m = stored_to (λ k. record_of (arc_of bytes (edition bytes) k)) records m

  pub room_for : (r : Result Header Refusal) → Answers r → Room bytes (length records) (arcs_read r)
  room_for (Ok x) h =
      let given : ℕ × ℕ × ℕ = (x.edition, x.n, x.m) in
      let w = was_given (read_refusal bytes (length records)) (edition bytes, vertex_count bytes, arc_count bytes) given h in
      let same : x.m ≡ arc_count bytes = ap (λ (p : ℕ × ℕ × ℕ). p.2) w.1 in
      let ok = read_is_file bytes (length records) w.0 in
      let fit : file_bits (edition bytes) x.m ≤ 8 * length bytes =
      rw same (omega (arith, ok.0.exact, bits_fit (edition bytes) (arc_count bytes))) in
      (omega (arith, ok.0.arc_count_holds), λ some. fit, omega (arith, ok.1))
  room_for (Err q) h = (omega arith, λ some. absurd (omega arith), omega arith)

  values : (m : ℕ) → m ≤ length records
      → map arc_value (stored m) ≡ map (arc_of bytes (edition bytes)) (below m) ++ drop m (map arc_value records)
  values m h =
      let new : ℕ → ArcRecord = λ k. record_of (arc_of bytes (edition bytes) k) in
      ap (map arc_value) (stored_is new records m h)
      ∙ map-append arc_value (map new (below m)) (drop m records)
      ∙ ap (λ (l : List Arc). l ++ map arc_value (drop m records)) (map-map arc_value new (below m))
      ∙ ap (λ (l : List Arc). map (arc_of bytes (edition bytes)) (below m) ++ l) (map_drop arc_value records m)

  pub answers : (r : Result Header Refusal) → Answers r → read_numbers r ≡ read_answer bytes (map arc_value records)
  unfolding read_answer
  answers r e = rw (length-map records arc_value) e

  pub after : (r : Result Header Refusal) → Answers r → map arc_value (stored (arcs_read r)) ≡ records_after bytes (map arc_value records)
  unfolding records_after unless plan_of
  after (Ok x) h =
      let given : ℕ × ℕ × ℕ = (x.edition, x.n, x.m) in
      let w = was_given (read_refusal bytes (length records)) (edition bytes, vertex_count bytes, arc_count bytes) given h in
      let same : x.m ≡ arc_count bytes = ap (λ (p : ℕ × ℕ × ℕ). p.2) w.1 in
      let ok = read_is_file bytes (length records) w.0 in
      rw (length-map records arc_value, w.0, same) (values (arc_count bytes) ok.1)
  after (Err q) e =
      let w = was_refused (read_refusal bytes (length records)) (edition bytes, vertex_count bytes, arc_count bytes) (refusal_number q) e in
      rw (length-map records arc_value, w) refl
