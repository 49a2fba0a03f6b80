-- Records as bytes: the fields that are put make one, and one after another make a list of them, since each record takes seven bytes.
use Rattle.std.specs.Prelude.{◌≡◌, refl, ℕ, zero, suc, ◌+◌, ◌*◌, ◌/◌, ◌<◌, ◌≤◌, replicate}
use Rattle.std.proofs.Common.{sym, ◌∙◌, arith, take_at, drop-drop}
use Rattle.std.proofs.Math.Path.{ap}
use mathlib.Core.List.{List, [], ◌∷◌, ◌++◌, map, flat_map, append_assoc, append-nil}
use Rattle.std.proofs.Math.ListN.{length, get_or, drop, get_or-map}
use Rattle.std.proofs.lemmas.List.{length-map}
use Rattle.std.proofs.Math.Seq.{drop-append-add}
use Rattle.postman.specs.Lists.{below}
use Rattle.postman.specs.Plan.{Arc}
use Rattle.plan.specs.declared.Arc.{Arc as ArcRecord}
use Rattle.plan.specs.Records.{arc_value, record_of, zero_record}
use Rattle.postman_laws.specs.Laws.Below.{length_map_below, map_below_more, get_d_map_below}
use Rattle.record_writer.specs.Stored.{stored_to}
use Rattle.record_writer.specs.Writing.{at_most, loaded}
use Rattle.record_writer.specs.Laws.Writing.{at_most_fits}
use Rattle.encoding.specs.RecordBytes.{arc_bytes, arc_in, arcs_in, with_arc}
use Rattle.encoding.specs.NumberBytes.{put_at, number_bytes}
use Rattle.encoding.specs.Laws.NumberBytes.{put_next}

-- ---- a record

-- put field by field
pub record_put : (l : List ℕ) (i : ℕ) (a : Arc) → i + 7 ≤ length l → (x y z : List ℕ)
    → x ≡ put_at l i (a.tail ∷ a.head ∷ a.standing ∷ [])
    → y ≡ put_at x (i + 3) (number_bytes a.cost)
    → z ≡ put_at y (i + 5) (number_bytes a.service)
    → z ≡ with_arc l i a
unfolding with_arc arc_bytes put_at
record_put l i a h x y z e f g =
    let ends = a.tail ∷ a.head ∷ a.standing ∷ [] in
    let p = put_next l i ends (number_bytes a.cost) 3 2 refl refl (omega arith) x y e f in
    put_next l i (ends ++ number_bytes a.cost) (number_bytes a.service) 5 2 refl refl (omega arith) y z p g

length_arcs : (arcs : List Arc) → length (flat_map arc_bytes arcs) ≡ 7 * length arcs
unfolding flat_map arc_bytes
length_arcs [] = refl
length_arcs (a ∷ arcs) = let e = length_arcs arcs in omega arith

arcs_append : (xs ys : List Arc) → flat_map arc_bytes (xs ++ ys) ≡ flat_map arc_bytes xs ++ flat_map arc_bytes ys
unfolding flat_map
arcs_append [] ys = refl
arcs_append (x ∷ xs) ys =
    ap (λ (l : List ℕ). arc_bytes x ++ l) (arcs_append xs ys)
    ∙ sym (append_assoc (arc_bytes x) (flat_map arc_bytes xs) (flat_map arc_bytes ys))

-- ---- records that are stored

module _ (f : ℕ → Arc) (l : List ℕ) (k : ℕ) where
  abbrev done : List ℕ
  done = flat_map arc_bytes (map f (below k))

  length_done : length done ≡ 7 * k
  length_done = length_arcs (map f (below k)) ∙ ap (λ (n : ℕ). 7 * n) (length_map_below f k)

  more : flat_map arc_bytes (map f (below (k + 1))) ≡ done ++ arc_bytes (f k)
  unfolding flat_map
  more = ap (flat_map arc_bytes) (map_below_more f k) ∙ arcs_append (map f (below k)) (f k ∷ [])
      ∙ ap (λ (l : List ℕ). done ++ l) (append-nil (arc_bytes (f k)))

  rest : drop (7 * k + 7) (done ++ drop (7 * k) l) ≡ drop (7 * (k + 1)) l
  rest =
      let e : 7 * k + 7 ≡ 7 * (k + 1) = omega arith in
      ap (λ (n : ℕ). drop (n + 7) (done ++ drop (7 * k) l)) (sym length_done) ∙ drop-append-add done (drop (7 * k) l) 7
      ∙ drop-drop 7 (7 * k) l ∙ ap (λ (n : ℕ). drop n l) e

  -- One record more.
  pub stored_more : with_arc (done ++ drop (7 * k) l) (7 * k) (f k) ≡ flat_map arc_bytes (map f (below (k + 1))) ++ drop (7 * (k + 1)) l
  unfolding with_arc
  stored_more =
      ap (λ (t : List ℕ). t ++ arc_bytes (f k) ++ drop (7 * k + 7) (done ++ drop (7 * k) l))
      (take_at done (drop (7 * k) l) (7 * k) length_done)
      ∙ ap (λ (t : List ℕ). done ++ arc_bytes (f k) ++ t) rest
      ∙ ap (λ (t : List ℕ). t ++ drop (7 * (k + 1)) l) (sym more)

-- ---- records that are lent

pub length_lent : (lent : List ℕ) → length (arcs_in lent) ≡ length lent / 7
unfolding arcs_in
length_lent lent = length_map_below (λ k. arc_in lent (7 * k)) (length lent / 7)

pub lent_at : (lent : List ℕ) (k : ℕ) (d : Arc) → k < length lent / 7 → get_or (arcs_in lent) k d ≡ arc_in lent (7 * k)
unfolding arcs_in
lent_at lent k d h = get_d_map_below (λ j. arc_in lent (7 * j)) (length lent / 7) k d h

stored_same : (f g : ℕ → ArcRecord) (l : List ArcRecord) (n : ℕ) → ((k : ℕ) → k < n → f k ≡ g k) → stored_to f l n ≡ stored_to g l n
stored_same f g l zero e = refl
stored_same f g l (suc n) e = rw (stored_same f g l n (λ k h. e k (omega arith)), e n (omega arith)) refl

module _ (lent : List ℕ) where
  abbrev pub lent_record : ℕ → ArcRecord
  lent_record k = record_of (arc_in lent (7 * k))

  pub length_records : length (map record_of (arcs_in lent)) ≡ length lent / 7
  length_records = length-map (arcs_in lent) record_of ∙ length_lent lent

  record_is : (k : ℕ) → k < length lent / 7 → lent_record k ≡ get_or (map record_of (arcs_in lent)) k zero_record
  record_is k h = sym (get_or-map record_of (arcs_in lent) k (arc_value zero_record)
      ∙ ap record_of (lent_at lent k (arc_value zero_record) h))

  -- The first 256 of them, in an array of zeros.
  pub loaded_is : stored_to lent_record (replicate 256 zero_record) (at_most (length lent / 7) 256) ≡ loaded (map record_of (arcs_in lent))
  unfolding loaded
  loaded_is =
      let n = length lent / 7 in
      rw length_records
      (stored_same lent_record (λ k. get_or (map record_of (arcs_in lent)) k zero_record) (replicate 256 zero_record) (at_most n 256)
      (λ k h. record_is k (omega (arith, at_most_fits n 256))))
