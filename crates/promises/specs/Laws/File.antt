-- What reading and writing answer and leave, by their refusals, and both ways round.
use Rattle.std.specs.Prelude.{◌≡◌, refl, ℕ, zero, suc, ◌≤◌, ◌<◌, length, get_or, take}
use Rattle.std.proofs.Common.{sym, ◌∙◌, arith}
use Rattle.std.proofs.Math.Path.{ap}
use mathlib.Core.List.{List, [], ◌∷◌, ◌++◌, map, Memᴰ}
use Rattle.std.proofs.Math.Option.{Option, none, some}
use Rattle.std.proofs.Math.ListN.{drop}
use Rattle.std.proofs.lemmas.List.{length-map}
use Rattle.std.proofs.Math.Seq.{take-append_seam}
use Rattle.postman.specs.Plan.{Arc as Fields, Plan}
use Rattle.postman.specs.Refusal.{refused, given, answer, unless}
use Rattle.postman.specs.PlanFile.{edition, vertex_count, arc_count, plan_of, read_refusal, read_answer, records_after, IsRecord, file_length, file_of, write_refusal, write_answer, bytes_after}
use Rattle.postman_laws.specs.Laws.Acceptance.{arcs_read_lem, vertices_read}
use Rattle.postman_laws.specs.Laws.PlanFile.{length_file_of, read_written, written_read}
use Rattle.plan.specs.declared.Arc.{Arc}
use Rattle.plan.specs.Records.{arc_value}
use Rattle.plan_writer.specs.Laws.Writing.{length_given}
use Rattle.plan_writer.specs.Laws.Reread.{written-file}
use Rattle.record_writer.specs.Writing.{list_plan}
use Rattle.records.specs.Laws.Reading.{map_drop}

module _ (bytes : List ℕ) (list : List Arc) where
  abbrev values : List Fields
  values = map arc_value list

  abbrev numbers : ℕ × ℕ × ℕ
  numbers = (edition bytes, vertex_count bytes, arc_count bytes)

  room : read_refusal bytes (length values) ≡ read_refusal bytes (length list)
  room = ap (read_refusal bytes) (length-map list arc_value)

  read_by : (o : Option ℕ) → read_refusal bytes (length list) ≡ o
      → (read_answer bytes values ≡ answer o numbers)
      × (records_after bytes values ≡ unless o ((plan_of bytes).arcs ++ drop (arc_count bytes) values) values)
  unfolding read_answer records_after
  read_by o e = (
    ap (λ (o : Option ℕ). answer o numbers) (room ∙ e),
    ap (λ (o : Option ℕ). unless o ((plan_of bytes).arcs ++ drop (arc_count bytes) values) values) (room ∙ e),
  )

  pub read_refused : (k : ℕ) → read_refusal bytes (length list) ≡ some k
      → (read_answer bytes values ≡ refused k) × (records_after bytes values ≡ values)
  unfolding answer unless
  read_refused k e = read_by (some k) e

  pub read_given : read_refusal bytes (length list) ≡ none
      → (read_answer bytes values ≡ given numbers)
      × (records_after bytes values ≡ (plan_of bytes).arcs ++ map arc_value (drop (arc_count bytes) list))
  unfolding answer unless
  read_given e = let r = read_by none e in
      (r.0, r.1 ∙ ap (λ (l : List Fields). (plan_of bytes).arcs ++ l) (sym (map_drop arc_value list (arc_count bytes))))

module _ (e : ℕ) (p : Plan) (bytes : List ℕ) where
  written_by : (o : Option ℕ) → write_refusal e p (length bytes) ≡ o
      → (write_answer e p bytes ≡ answer o (file_length e (length p.arcs)))
      × (bytes_after e p bytes ≡ unless o (file_of e p ++ drop (file_length e (length p.arcs)) bytes) bytes)
  unfolding write_answer bytes_after
  written_by o r = (
    ap (λ (o : Option ℕ). answer o (file_length e (length p.arcs))) r,
    ap (λ (o : Option ℕ). unless o (file_of e p ++ drop (file_length e (length p.arcs)) bytes) bytes) r,
  )

  pub write_refused : (k : ℕ) → write_refusal e p (length bytes) ≡ some k
      → (write_answer e p bytes ≡ refused k) × (bytes_after e p bytes ≡ bytes)
  unfolding answer unless
  write_refused k r = written_by (some k) r

  pub write_given : write_refusal e p (length bytes) ≡ none
      → (write_answer e p bytes ≡ given (file_length e (length p.arcs)))
      × (bytes_after e p bytes ≡ file_of e p ++ drop (file_length e (length p.arcs)) bytes)
  unfolding answer unless
  write_given r = written_by none r

-- a list's plan has as many arcs as the list has records
pub write_given_list : (e n : ℕ) (list : List Arc) (bytes : List ℕ) → write_refusal e (list_plan n list) (length bytes) ≡ none
    → (write_answer e (list_plan n list) bytes ≡ given (file_length e (length list)))
    × (bytes_after e (list_plan n list) bytes ≡ file_of e (list_plan n list) ++ drop (file_length e (length list)) bytes)
write_given_list e n list bytes r =
    let g = write_given e (list_plan n list) bytes r in
    let l = length-map list arc_value in
    (g.0 ∙ ap (λ (m : ℕ). given (file_length e m)) l, g.1 ∙ ap (λ (m : ℕ). file_of e (list_plan n list) ++ drop (file_length e m) bytes) l)

-- the records that reading leaves, up to m, are the file's plan
map_take : {A B : Type 0} (f : A → B) (xs : List A) (k : ℕ) → map f (take k xs) ≡ take k (map f xs)
map_take f xs zero = refl
map_take f [] (suc k) = refl
map_take f (x ∷ xs) (suc k) = ap (λ (l : List _). f x ∷ l) (map_take f xs k)

pub same_plan_lem : (bytes : List ℕ) (list after : List Arc) → read_refusal bytes (length list) ≡ none
    → map arc_value after ≡ records_after bytes (map arc_value list)
    → list_plan (vertex_count bytes) (take (arc_count bytes) after) ≡ plan_of bytes
same_plan_lem bytes list after e h =
    let arcs = (plan_of bytes).arcs in
    let rest = map arc_value (drop (arc_count bytes) list) in
    let t : map arc_value (take (arc_count bytes) after) ≡ arcs =
    map_take arc_value after (arc_count bytes) ∙ ap (take (arc_count bytes)) (h ∙ (read_given bytes list e).1)
    ∙ ap (λ (m : ℕ). take m (arcs ++ rest)) (sym (arcs_read_lem bytes)) ∙ take-append_seam arcs rest
    in
    let v = sym (vertices_read bytes) in
    λ j. record { n = v j; arcs = t j }

-- and writing that plan gives the file
pub written_back : (bytes : List ℕ) (places : ℕ) (slice : List ℕ) (p : Plan) → ((i : ℕ) → get_or bytes i 0 < 256)
    → read_refusal bytes places ≡ none → length bytes ≤ length slice → p ≡ plan_of bytes
    → (write_answer (edition bytes) p slice ≡ given (length bytes))
    × (bytes_after (edition bytes) p slice ≡ bytes ++ drop (length bytes) slice)
written_back bytes places slice p small e enough q =
    let b = written_read bytes places small e in
    let g = write_given (edition bytes) (plan_of bytes) slice (b.1 (length slice) enough) in
    let l = sym (length_file_of (edition bytes) (plan_of bytes)) ∙ ap length b.0 in (
      ap (λ (p : Plan). write_answer (edition bytes) p slice) q ∙ g.0 ∙ ap given l,
      ap (λ (p : Plan). bytes_after (edition bytes) p slice) q ∙ g.1
          ∙ ap (λ (m : ℕ). file_of (edition bytes) (plan_of bytes) ++ drop m slice) l
          ∙ ap (λ (f : List ℕ). f ++ drop (length bytes) slice) b.0,
    )

-- what is written is read back
pub read_back : (e n : ℕ) (list into : List Arc) (bytes after : List ℕ) (k : ℕ)
    → ((a : Fields) → Memᴰ a (map arc_value list) → IsRecord a)
    → given k ≡ write_answer e (list_plan n list) bytes → after ≡ bytes_after e (list_plan n list) bytes → length list ≤ length into
    → (read_answer (take k after) (map arc_value into) ≡ given (e, n, length list))
    × (records_after (take k after) (map arc_value into) ≡ map arc_value list ++ map arc_value (drop (length list) into))
read_back e n list into bytes after k small h f enough =
    let p = list_plan n list in
    let file = take k after in
    let q : file ≡ file_of e p = (written-file e p bytes after k h f).1 in
    let b = read_written e p (length bytes) small (length_given e p bytes k h).0 in
    let long = length-map list arc_value in
    let read : read_refusal file (length into) ≡ none =
    ap (λ (l : List ℕ). read_refusal l (length into)) q ∙ b.2 (length into) (omega arith) in
    let g = read_given file into read in
    let told : edition file ≡ e = ap edition q ∙ b.0 in
    let plan : plan_of file ≡ p = ap plan_of q ∙ b.1 in
    let vertices : vertex_count file ≡ n = sym (vertices_read file) ∙ ap (λ (x : Plan). x.n) plan in
    let count : arc_count file ≡ length list = sym (arcs_read_lem file) ∙ ap (λ (x : Plan). length x.arcs) plan ∙ long in (
      g.0 ∙ (λ j. given (told j, vertices j, count j)),
      g.1 ∙ ap (λ (x : Plan). x.arcs ++ map arc_value (drop (arc_count file) into)) plan
          ∙ ap (λ (m : ℕ). map arc_value list ++ map arc_value (drop m into)) count,
    )
