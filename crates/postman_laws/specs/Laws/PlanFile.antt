-- Writing and reading undo each other. The bits of a written file are the plan's bits, and zeros; each field is read
-- from the place where its bits were put. The other way round, the bits of a field that was read are the bits that it
-- was read from, so the plan's bits are the file's.
use Rattle.std.specs.Prelude.{◌≡◌, Bool, not, T, eqb, get_or}
use Rattle.std.proofs.Math.Path.{refl, sym, ap}
use Rattle.std.proofs.Common.{◌∙◌, inl, inr, add-zero, zero-add, eqb→eq, ext_get_or}
use Rattle.std.proofs.Math.Bool.{true, false, cond}
use mathlib.Core.List.{List, [], ◌∷◌, ◌++◌, map, flat_map, Memᴰ, append-nil}
use Rattle.std.proofs.Math.Option.{none}
use Prim.Native.Nat.{ℕ, zero, suc, ◌+◌, ◌*◌, ◌-◌, ◌≤◌, ◌<◌}
use Rattle.std.proofs.Math.Decide.{dec_lt}
use Rattle.std.proofs.Math.Numerals.{add-one}
use native.Mathlib.Omega.{arith}
use Rattle.std.proofs.Math.Dec.{lit<}
use Rattle.std.proofs.Math.ListN.{length, length-append, get_or-eq_default}
use Rattle.postman.specs.Lists.{up_from, below}
use Rattle.postman.specs.Plan.{Arc, Plan, WellFormed, IsArc, arc_at}
use Rattle.postman.specs.BitField.{bit_at, number, field_at, bits_of}
use Rattle.postman.specs.PlanFile.{edition, vertex_count, arc_count, is_edition, is_second, arc_width, implied_service, arc_from, arc_of, plan_of, file_bits, file_length, fill_bits, IsRecord, is_mispriced, arc_bits, plan_bits, file_of, plan_conditions, read_refusal, write_refusal}
use Rattle.postman.specs.Refusal.{first_refusal}
use Rattle.postman.specs.Laws.Tests.{cond_ind, or_cases}
use Rattle.postman.specs.Laws.Membership.{get_d_mem}
use Rattle.postman_laws.specs.Laws.Below.{length_map_below, get_d_map_below}
use Rattle.postman_laws.specs.Laws.BitField.{number_same, zero_number, bit_lt, field_zero, bit_out, byte_of_bits, packed_bit, length_bits_of, bits_of_lt, run, run_zero, length_run, get_d_run, bits_of_numbers, run_append, bit_in, append_lt, read_left, read_right, read_last, three, length_three, three_lt, read_first, read_second, read_third, read_after}
use Rattle.postman_laws.specs.Laws.FileLength.{by_edition, second_width, width_le, bits_none, bits_least, bits_more, bits_fit}
use Rattle.postman_laws.specs.Laws.Acceptance.{implied, arcs_accepted, plan_accepted, IsFile, read_is_file, file_is_read, read_accepted, vertices_read, arcs_read_lem, accepted_is_writable, write_accepted, accepted_write}

-- ---- definitions, as equations

arc_of_lem : (bytes : List ℕ) (e k : ℕ) → arc_of bytes e k
    ≡ record {
      tail = field_at bytes (file_bits e k) 6;
      head = field_at bytes (file_bits e k + 6) 6;
      standing = field_at bytes (file_bits e k + 12) 2;
      cost = field_at bytes (file_bits e k + 14) 16;
      service = cond (is_second e) (field_at bytes (file_bits e k + 30) 16)
          (implied_service (field_at bytes (file_bits e k + 12) 2) (field_at bytes (file_bits e k + 14) 16));
    }
unfolding arc_of arc_from
arc_of_lem bytes e k = refl

-- the fields of edition 1, and the bits of the service cost
abbrev core : Arc → List ℕ
core a = three 6 6 2 a.tail a.head a.standing ++ bits_of 16 a.cost

abbrev service_bits : ℕ → Arc → List ℕ
service_bits e a = cond (is_second e) (bits_of 16 a.service) []

arc_bits_lem : (e : ℕ) (a : Arc) → arc_bits e a ≡ core a ++ service_bits e a
unfolding arc_bits
arc_bits_lem e a = refl

plan_bits_lem : (e : ℕ) (p : Plan)
    → plan_bits e p ≡ bits_of 4 e ++ bits_of 7 p.n ++ bits_of 9 (length p.arcs) ++ flat_map (arc_bits e) p.arcs
unfolding plan_bits
plan_bits_lem e p = refl

file_of_lem : (e : ℕ) (p : Plan) → file_of e p ≡ map (λ q. number (bit_in (plan_bits e p)) (8 * q) 8)
    (below (file_length e (length p.arcs)))
unfolding file_of
file_of_lem e p = refl

fill_bits_lem : (bytes : List ℕ) (e m : ℕ) → fill_bits bytes e m ≡ field_at bytes (file_bits e m) (8 * file_length e m - file_bits e m)
unfolding fill_bits
fill_bits_lem bytes e m = refl

arc_path : {a b : Arc} → a.tail ≡ b.tail → a.head ≡ b.head → a.standing ≡ b.standing → a.cost ≡ b.cost → a.service ≡ b.service
    → a ≡ b
arc_path t h s c v = λ i. record { tail = t i; head = h i; standing = s i; cost = c i; service = v i }

-- an edition is a number of four bits
edition_lt : (e : ℕ) → T (is_edition e) → e < 16
unfolding is_edition
edition_lt e t =
    elim (or_cases (eqb e 1) (eqb e 2) t) [ inl u ↦ (let q = eqb→eq e 1 u in omega arith) | inr u ↦ (let q = eqb→eq e 2 u in omega arith) ]

-- ---- lengths

pub length_file_of : (e : ℕ) (p : Plan) → length (file_of e p) ≡ file_length e (length p.arcs)
unfolding file_of
length_file_of e p = length_map_below _ (file_length e (length p.arcs))

-- byte k of the file
pub file_byte : (e : ℕ) (p : Plan) (k : ℕ) → k < file_length e (length p.arcs)
    → get_or (file_of e p) k 0 ≡ number (bit_in (plan_bits e p)) (8 * k) 8
unfolding file_of
file_byte e p k l = get_d_map_below (λ q. number (bit_in (plan_bits e p)) (8 * q) 8) (file_length e (length p.arcs)) k 0 l

module _ (e : ℕ) where
  -- ---- the bits of an arc, and of arcs in a row

  length_core : (a : Arc) → length (core a) ≡ 30
  length_core a = simp (length-append, length_bits_of)

  service_length : (a : Arc) → length (service_bits e a) + 30 ≡ arc_width e
  unfolding arc_width
  service_length a = at (is_second e)
    where
      at : (b : Bool) → length (cond b (bits_of 16 a.service) []) + 30 ≡ cond b 46 30
      at true = rw (length_bits_of 16 a.service)
      at false = refl

  pub length_arc_bits : (a : Arc) → length (arc_bits e a) ≡ arc_width e
  length_arc_bits a = let c = length_core a in let h = service_length a in rw arc_bits_lem (rw length-append (omega arith))

  pub length_arcs : (arcs : List Arc) → 20 + length (flat_map (arc_bits e) arcs) ≡ file_bits e (length arcs)
  unfolding flat_map
  length_arcs [] = sym (bits_none e)
  length_arcs (a ∷ arcs) =
      let h = length-append (arc_bits e a) (flat_map (arc_bits e) arcs) in
      let f = length_arc_bits a in
      let g = length_arcs arcs in
      let b : file_bits e (suc (length arcs)) ≡ file_bits e (length arcs) + arc_width e = rw add-one at (bits_more e (length arcs)) in
      omega arith

  -- the bits before arc k, without the header
  abbrev before : ℕ → ℕ
  before k = file_bits e k - 20

  read_arcs : (arcs : List Arc) (k i w : ℕ) → k < length arcs → i + w ≤ arc_width e
      → number (bit_in (flat_map (arc_bits e) arcs)) (before k + i) w ≡ number (bit_in (arc_bits e (arc_at arcs k))) i w
  unfolding flat_map
  read_arcs [] k i w l h = absurd (omega arith)
  read_arcs (a ∷ arcs) zero i w l h =
      let f = length_arc_bits a in
      let z = bits_none e in
      let g : before 0 + i ≡ i = omega arith in
      rw g (read_left (arc_bits e a) (flat_map (arc_bits e) arcs) i w (omega arith))
  read_arcs (a ∷ arcs) (suc k) i w l h =
      let f = length_arc_bits a in
      let b : file_bits e (suc k) ≡ file_bits e k + arc_width e = rw add-one at (bits_more e k) in
      let c = bits_least e k in
      let g : before (suc k) + i ≡ length (arc_bits e a) + (before k + i) = omega arith in
      rw g (read_right (arc_bits e a) (flat_map (arc_bits e) arcs) (before k + i) w ∙ read_arcs arcs k i w (omega arith) h)

  -- ---- every bit is 0 or 1

  service_lt : (a : Arc) (k : ℕ) → bit_in (service_bits e a) k < 2
  service_lt a k =
      cond_ind (is_second e) (bits_of 16 a.service) [] (λ (l : List ℕ). bit_in l k < 2) (λ t. bits_of_lt 16 a.service k) (λ t. lit< tt)

  arc_bits_lt : (a : Arc) (k : ℕ) → bit_in (arc_bits e a) k < 2
  arc_bits_lt a =
      rw arc_bits_lem (append_lt (core a) (service_bits e a)
      (three_lt 6 6 2 a.tail a.head a.standing (bits_of 16 a.cost) (bits_of_lt 16 a.cost)) (service_lt a))

  arcs_lt : (arcs : List Arc) (k : ℕ) → bit_in (flat_map (arc_bits e) arcs) k < 2
  unfolding flat_map
  arcs_lt [] k = lit< tt
  arcs_lt (a ∷ arcs) k = append_lt (arc_bits e a) (flat_map (arc_bits e) arcs) (arc_bits_lt a) (arcs_lt arcs) k

  -- ---- the bits of a plan

  module _ (p : Plan) where
    abbrev m : ℕ
    m = length p.arcs

    plan_bits_lt : (k : ℕ) → bit_in (plan_bits e p) k < 2
    plan_bits_lt = rw plan_bits_lem (three_lt 4 7 9 e p.n m (flat_map (arc_bits e) p.arcs) (arcs_lt p.arcs))

    length_plan_bits : length (plan_bits e p) ≡ file_bits e m
    length_plan_bits =
        let h = length_arcs p.arcs in
        simp (plan_bits_lem, length-append, length_bits_of) (omega arith)

    -- ---- what is read from them

    edition_bits : e < 16 → number (bit_in (plan_bits e p)) 0 4 ≡ e
    edition_bits l = rw plan_bits_lem (read_first 4 7 9 e p.n m _ l)

    module _ (w : WellFormed p) where
      vertex_bits : number (bit_in (plan_bits e p)) 4 7 ≡ p.n
      vertex_bits = let h = w.vertices in rw plan_bits_lem (read_second 4 7 9 e p.n m _ (omega arith))

      count_bits : number (bit_in (plan_bits e p)) 11 9 ≡ m
      count_bits = let h = w.arc_count_holds in rw plan_bits_lem (read_third 4 7 9 e p.n m _ (omega arith))

    arc_place : (k i s : ℕ) → k < m → i + s ≤ arc_width e
        → number (bit_in (plan_bits e p)) (file_bits e k + i) s ≡ number (bit_in (arc_bits e (arc_at p.arcs k))) i s
    arc_place k i s l h =
        let c = bits_least e k in
        let g : file_bits e k + i ≡ 20 + (before k + i) = omega arith in
        rw (plan_bits_lem, g) (read_after 4 7 9 e p.n m (flat_map (arc_bits e) p.arcs) (before k + i) s ∙ read_arcs p.arcs k i s l h)

  -- the fields of a well formed arc
  module _ {n : ℕ} (a : Arc) (h : IsArc n a) (few : n ≤ 64) where
    core_bits : (i w : ℕ) → i + w ≤ 30 → number (bit_in (arc_bits e a)) i w ≡ number (bit_in (core a)) i w
    core_bits i w g = let c = length_core a in rw arc_bits_lem (read_left (core a) (service_bits e a) i w (omega arith))

    tail_bits : number (bit_in (arc_bits e a)) 0 6 ≡ a.tail
    tail_bits = let l = h.tail_in in core_bits 0 6 (omega arith) ∙ read_first 6 6 2 a.tail a.head a.standing _ (omega arith)

    head_bits : number (bit_in (arc_bits e a)) 6 6 ≡ a.head
    head_bits = let l = h.head_in in core_bits 6 6 (omega arith) ∙ read_second 6 6 2 a.tail a.head a.standing _ (omega arith)

    standing_bits : number (bit_in (arc_bits e a)) 12 2 ≡ a.standing
    standing_bits = let l = h.standing_in in
        core_bits 12 2 (omega arith) ∙ read_third 6 6 2 a.tail a.head a.standing _ (omega arith)

    cost_bits : number (bit_in (arc_bits e a)) 14 16 ≡ a.cost
    cost_bits =
        let l = h.cost_in_holds in
        core_bits 14 16 (omega arith)
        ∙ read_last (three 6 6 2 a.tail a.head a.standing) 16 a.cost (length_three 6 6 2 a.tail a.head a.standing)
        (omega arith)

    service_bits_lem : is_second e ≡ true → number (bit_in (arc_bits e a)) 30 16 ≡ a.service
    service_bits_lem q = let l = h.service_in in rw (arc_bits_lem, q) (read_last (core a) 16 a.service (length_core a) (omega arith))

-- ---- reading what was written

module _ (e : ℕ) (p : Plan) where
  -- the file's bits are the plan's; past them both are 0
  file_bit : (i : ℕ) → bit_at (file_of e p) i ≡ bit_in (plan_bits e p) i
  file_bit i = elim (dec_lt i (8 * file_length e (length p.arcs))) [
    | yes l ↦ rw file_of_lem (packed_bit (bit_in (plan_bits e p)) (file_length e (length p.arcs)) (plan_bits_lt e p) i l)
    | no l ↦ let h = length_file_of e p in
        let f = length_plan_bits e p in
        let g = bits_fit e (length p.arcs) in
        bit_out (file_of e p) i (omega arith) ∙ sym (get_or-eq_default (plan_bits e p) 0 (omega arith))
  ]

  file_field : (i s : ℕ) → field_at (file_of e p) i s ≡ number (bit_in (plan_bits e p)) i s
  unfolding field_at
  file_field i s = number_same (bit_at (file_of e p)) (bit_in (plan_bits e p)) i i s (λ j l. file_bit (i + j))

  pub edition_same : T (is_edition e) → edition (file_of e p) ≡ e
  unfolding edition
  edition_same t = file_field 0 4 ∙ edition_bits e p (edition_lt e t)

  module _ (w : WellFormed p) where
    -- the service cost is read from its bits, or is the implied one
    service_same : (a : Arc) → IsArc p.n a → T (not (is_mispriced e a)) → (b : Bool) → is_second e ≡ b → (i : ℕ)
        → ((q : is_second e ≡ true) → field_at (file_of e p) i 16 ≡ number (bit_in (arc_bits e a)) 30 16)
        → cond (is_second e) (field_at (file_of e p) i 16) (implied_service a.standing a.cost) ≡ a.service
    service_same a h t true q i place = rw q (place q ∙ service_bits_lem e a h w.vertices q)
    service_same a h t false q i place = rw q (sym (implied e p.n a q t))

    arc_same : first_refusal (plan_conditions e p) ≡ none → (k : ℕ) → k < length p.arcs → arc_of (file_of e p) e k ≡ arc_at p.arcs k
    arc_same accepted k l =
        let a = arc_at p.arcs k in
        let n = get_d_mem p.arcs _ k l in
        let h = w.each a n in
        let few = w.vertices in
        let priced = (arcs_accepted e p (plan_accepted e p accepted).0 a n).priced in
        let wide = (width_le e).0 in
        let place : (i s : ℕ) → i + s ≤ arc_width e → field_at (file_of e p) (file_bits e k + i) s ≡ number (bit_in (arc_bits e a)) i s =
        λ i s g. file_field (file_bits e k + i) s ∙ arc_place e p k i s l g
        in
        let standing = place 12 2 (omega arith) ∙ standing_bits e a h few in
        let cost = place 14 16 (omega arith) ∙ cost_bits e a h few in
        rw arc_of_lem
        (arc_path ((rw add-zero at (place 0 6 (omega arith))) ∙ tail_bits e a h few)
        (place 6 6 (omega arith) ∙ head_bits e a h few) standing cost
        (rw (standing, cost)
        (service_same a h priced (is_second e) refl (file_bits e k + 30) (λ q. place 30 16 (rw (second_width e q) (omega arith))))))

    vertices_same : vertex_count (file_of e p) ≡ p.n
    unfolding vertex_count
    vertices_same = file_field 4 7 ∙ vertex_bits e p w

    count_same : arc_count (file_of e p) ≡ length p.arcs
    unfolding arc_count
    count_same = file_field 11 9 ∙ count_bits e p w

    fill_same : fill_bits (file_of e p) e (length p.arcs) ≡ 0
    fill_same =
        let m = length p.arcs in
        let h = length_plan_bits e p in
        rw fill_bits_lem
        (file_field (file_bits e m) (8 * file_length e m - file_bits e m)
        ∙ zero_number (bit_in (plan_bits e p)) (file_bits e m) (8 * file_length e m - file_bits e m)
        (λ j g. get_or-eq_default (plan_bits e p) 0 (omega arith)))

    module _ (t : T (is_edition e)) (accepted : first_refusal (plan_conditions e p) ≡ none) where
      arcs_same : map (arc_of (file_of e p) (edition (file_of e p))) (below (arc_count (file_of e p))) ≡ p.arcs
      arcs_same =
          let m = length p.arcs in
          let h = length_map_below (arc_of (file_of e p) e) m in
          rw (edition_same t, count_same)
          (ext_get_or (arc_at [] 0) (map (arc_of (file_of e p) e) (below m)) p.arcs h
          (λ k l. get_d_map_below (arc_of (file_of e p) e) m k _ (omega arith) ∙ arc_same accepted k (omega arith)))

      pub plan_same : plan_of (file_of e p) ≡ p
      unfolding plan_of
      plan_same = λ i. record { n = vertices_same i; arcs = arcs_same i }

      pub is_file : IsFile (file_of e p)
      is_file =
          record {
            edition_in = rw (edition_same t) t;
            some_vertex = rw vertices_same w.some_vertex;
            vertices = rw vertices_same w.vertices;
            some_arc = rw count_same w.some_arc;
            arc_count_holds = rw count_same w.arc_count_holds;
            exact = rw (edition_same t, count_same) (length_file_of e p);
            filled = rw (edition_same t, count_same) fill_same;
            arcs_in_holds = rw (edition_same t, plan_same) accepted;
          }

-- THE LAW: a plan that is written is read back, its edition too
pub read_written : (e : ℕ) (p : Plan) (room : ℕ) → ((a : Arc) → Memᴰ a p.arcs → IsRecord a) → write_refusal e p room ≡ none
    → (edition (file_of e p) ≡ e) × (plan_of (file_of e p) ≡ p)
    × ((records : ℕ) → length p.arcs ≤ records → read_refusal (file_of e p) records ≡ none)
read_written e p room small h =
    let w = (write_accepted e p room small h).0 in
    let g = accepted_is_writable e p room h in (
      edition_same e p g.edition_in,
      plan_same e p w g.edition_in g.arcs_in_holds,
      λ records l. file_is_read (file_of e p) records (is_file e p w g.edition_in g.arcs_in_holds) (rw (count_same e p w) l),
    )

-- ---- writing what was read

module _ (bytes : List ℕ) where
  field_run : (i w : ℕ) → bits_of w (field_at bytes i w) ≡ run (bit_at bytes) i w
  unfolding field_at
  field_run i w = bits_of_numbers (bit_at bytes) i w (bit_lt bytes)

  core_run : (i : ℕ) → core (arc_from bytes 1 i) ≡ run (bit_at bytes) i 30
  unfolding arc_from
  core_run i = simp (field_run, run_append)

  arc_run : (e k : ℕ) → arc_bits e (arc_of bytes e k) ≡ run (bit_at bytes) (file_bits e k) (arc_width e)
  unfolding arc_of arc_from arc_width
  arc_run e k = rw arc_bits_lem (at (is_second e))
    where
      i : ℕ
      i = file_bits e k

      at : (b : Bool)
          → core (arc_from bytes 1 i)
          ++ cond b (bits_of 16
          (cond b (field_at bytes (i + 30) 16) (implied_service (field_at bytes (i + 12) 2) (field_at bytes (i + 14) 16)))) []
          ≡ run (bit_at bytes) i (cond b 46 30)
      at true = rw (core_run i, field_run (i + 30) 16) (run_append (bit_at bytes) i 30 16)
      at false = rw append-nil (core_run i)

  arcs_run : (e a n : ℕ) → flat_map (arc_bits e) (map (arc_of bytes e) (up_from a n)) ≡ run (bit_at bytes) (file_bits e a) (arc_width e * n)
  unfolding flat_map up_from
  arcs_run e a zero = let z : arc_width e * 0 ≡ 0 = by_edition e (λ w. w * 0 ≡ 0) (omega arith) (omega arith) in
      rw z (sym (run_zero (bit_at bytes) (file_bits e a)))
  arcs_run e a (suc n) =
      let g : file_bits e (suc a) ≡ file_bits e a + arc_width e = rw add-one at (bits_more e a) in
      let f : arc_width e * suc n ≡ arc_width e + arc_width e * n = by_edition e (λ w. w * suc n ≡ w + w * n) (omega arith) (omega arith) in
      rw (arc_run, arcs_run e (suc a) n, g, f) (run_append (bit_at bytes) (file_bits e a) (arc_width e) (arc_width e * n))

  vertices_run : bits_of 7 (plan_of bytes).n ≡ run (bit_at bytes) 4 7
  unfolding vertex_count
  vertices_run = ap (bits_of 7) (vertices_read bytes) ∙ field_run 4 7

  count_run : bits_of 9 (length (plan_of bytes).arcs) ≡ run (bit_at bytes) 11 9
  unfolding arc_count
  count_run = ap (bits_of 9) (arcs_read_lem bytes) ∙ field_run 11 9

  abbrev e : ℕ
  e = edition bytes

  all_arcs_run : flat_map (arc_bits e) (plan_of bytes).arcs ≡ run (bit_at bytes) 20 (arc_width e * arc_count bytes)
  unfolding plan_of
  all_arcs_run = rw bits_none at (arcs_run e 0 (arc_count bytes))

  edition_run : bits_of 4 e ≡ run (bit_at bytes) 0 4
  unfolding edition
  edition_run = field_run 0 4

  -- the plan's bits are the file's
  plan_run : plan_bits e (plan_of bytes) ≡ run (bit_at bytes) 0 (file_bits e (arc_count bytes))
  unfolding file_bits
  plan_run =
      let b = bit_at bytes in
      rw (
        plan_bits_lem,
        edition_run,
        vertices_run,
        count_run,
        all_arcs_run,
        run_append b 0 4 7,
        run_append b 0 11 9,
        run_append b 0 20 (arc_width e * arc_count bytes),
      )

  module _ (f : IsFile bytes) where
    filled_bit : (i : ℕ) → file_bits e (arc_count bytes) ≤ i → i < 8 * file_length e (arc_count bytes) → bit_at bytes i ≡ 0
    filled_bit i h l =
        let bits = file_bits e (arc_count bytes) in
        let q : bits + (i - bits) ≡ i = omega arith in
        rw q at (field_zero bytes bits (8 * file_length e (arc_count bytes) - bits) (sym (fill_bits_lem bytes e (arc_count bytes))
        ∙ f.filled)
        (i - bits) (omega arith))

    same_bit : (i : ℕ) → i < 8 * file_length e (arc_count bytes) → bit_in (plan_bits e (plan_of bytes)) i ≡ bit_at bytes i
    same_bit i l =
        let bits = file_bits e (arc_count bytes) in
        let g = length_run (bit_at bytes) 0 bits in
        rw plan_run
        (elim (dec_lt i bits) [
          | yes h ↦ get_d_run (bit_at bytes) 0 bits i h ∙ ap (bit_at bytes) (zero-add i)
          | no h ↦ get_or-eq_default (run (bit_at bytes) 0 bits) 0 (omega arith) ∙ sym (filled_bit i (omega arith) l)
        ])

    same_byte : (k : ℕ) → get_or bytes k 0 < 256 → k < file_length e (arc_count bytes)
        → get_or (file_of e (plan_of bytes)) k 0 ≡ get_or bytes k 0
    same_byte k h l =
        let p = plan_of bytes in
        let g = arcs_read_lem bytes in
        let long : k < file_length e (length p.arcs) = rw g l in
        file_byte e p k long
        ∙ number_same (bit_in (plan_bits e p)) (bit_at bytes) (8 * k) (8 * k) 8 (λ j g. same_bit (8 * k + j) (omega arith))
        ∙ byte_of_bits bytes k h

-- THE LAW: a file that is read is written back, in its edition
pub written_read : (bytes : List ℕ) (room : ℕ) → ((k : ℕ) → get_or bytes k 0 < 256) → read_refusal bytes room ≡ none
    → (file_of (edition bytes) (plan_of bytes) ≡ bytes)
    × ((space : ℕ) → length bytes ≤ space → write_refusal (edition bytes) (plan_of bytes) space ≡ none)
written_read bytes room small h =
    let f = (read_is_file bytes room h).0 in
    let w = (read_accepted bytes room h).0 in
    let e = edition bytes in
    let a : length (file_of e (plan_of bytes)) ≡ file_length e (arc_count bytes) =
    length_file_of e (plan_of bytes) ∙ ap (file_length e) (arcs_read_lem bytes) in
    let b = f.exact in (
      ext_get_or 0 (file_of e (plan_of bytes)) bytes (a ∙ sym b) (λ k l. same_byte bytes f k (small k) (omega arith)),
      λ space h. accepted_write e (plan_of bytes) space f.edition_in w f.arcs_in_holds (rw arcs_read_lem (omega arith)),
    )
