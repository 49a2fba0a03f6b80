-- The file that putting the fields one after the other makes is the file of the plan. `Holds` says how far
-- the bits have come; each field adds its own.
use Rattle.std.specs.Prelude.{◌≡◌, Bool, true, false, cond, set, replicate}
use Rattle.std.proofs.Math.Path.{refl, sym, ap, subst}
use Rattle.std.proofs.Common.{◌∙◌, inl, inr, arith, length-drop, drop-cons, get_or-append-add, get_or-drop, ext_get_or}
use mathlib.Core.List.{List, [], ◌∷◌, ◌++◌, map, append-nil, append_assoc, flat_map}
use Prim.Native.Nat.{ℕ, zero, suc, ◌+◌, ◌-◌, ◌*◌, ◌/◌, ◌%◌, ◌^◌, ◌<◌, ◌≤◌}
use Rattle.std.proofs.Math.Nat.{zero-div}
use Rattle.std.proofs.Math.Decide.{dec_lt}
use Rattle.std.proofs.Math.Numerals.{add-one}
use Rattle.std.proofs.Math.ListN.{length, get_or, drop, length-append, length-replicate, get_or-replicate, get_or-append, get_or-eq_default}
use Rattle.std.proofs.lemmas.List.{replicate-append-replicate, set_at}
use Rattle.std.proofs.Math.Seq.{append_snoc}
use Rattle.postman.specs.Lists.{below, up_from}
use Rattle.postman.specs.Plan.{Arc, Plan}
use Rattle.postman.specs.BitField.{bit_at, bits_of}
use Rattle.postman.specs.PlanFile.{is_second, arc_width, arc_bits, plan_bits, file_of, file_length, file_bits}
use Rattle.postman_laws.specs.Laws.Below.{length_map_below, map_below_more}
use Rattle.postman_laws.specs.Laws.BitField.{number_same, byte_of_bits, length_bits_of, get_d_bits_of}
use Rattle.postman_laws.specs.Laws.FileLength.{bits_more, bits_least, bits_fit}
use Rattle.postman_laws.specs.Laws.PlanFile.{length_file_of, file_byte, length_arcs}
use Rattle.bits.specs.FieldUpdate.{put_field}
use Rattle.bits.specs.Laws.FieldUpdate.{length_put, put_inside, put_outside, put_elsewhere}
use Rattle.plan_writer.specs.PlanUpdate.{put_header, put_core, put_arc, put_arcs}

-- ---- clearing

pub clear-more
    : (s : List ℕ) (i : ℕ) → i < length s → set (replicate i 0 ++ drop i s) i 0 ≡ replicate (i + 1) 0 ++ drop (i + 1) s
clear-more s i h =
    let e : drop i s ≡ get_or s i 0 ∷ drop (suc i) s = drop-cons s i 0 h in
    ap (λ (l : List ℕ). set (replicate i 0 ++ l) i 0) e
    ∙ set_at (replicate i 0) (get_or s i 0) (drop (suc i) s) 0 i (length-replicate {A = ℕ} i 0)
    ∙ sym (append_snoc (replicate i 0) 0 (drop (suc i) s))
    ∙ ap (λ (l : List ℕ). l ++ drop (suc i) s) (replicate-append-replicate {A = ℕ} i 1 0)
    ∙ ap (λ (n : ℕ). replicate (i + 1) 0 ++ drop n s) (sym (add-one i))

-- ---- how far the bits have come

-- The first `len` bytes of s hold the given bits and then zeros, and the later ones are those of `old`.
pub record Holds (old : List ℕ) (len : ℕ) (s bits : List ℕ) : Type 0 where
  pub size : length s ≡ length old
  pub front : (i : ℕ) → i < 8 * len → bit_at s i ≡ get_or bits i 0
  pub rest : (j : ℕ) → len ≤ j → get_or s j 0 ≡ get_or old j 0

module _ (old : List ℕ) (len : ℕ) (room : len ≤ length old) where
  pub holds_clear : Holds old len (replicate len 0 ++ drop len old) []
  unfolding bit_at
  holds_clear =
      record {
        size = simp (length-append, length-replicate {A = ℕ} len 0, length-drop) (omega arith);
        front = λ i h. rw (zero_at (i / 8) (omega arith)) (ap (λ (z : ℕ). z % 2) (zero-div (2 ^ (7 - i % 8))));
        rest = λ j h. rest_at j h;
      }
    where
      zero_at : (j : ℕ) → j < len → get_or (replicate len 0 ++ drop len old) j 0 ≡ 0
      zero_at j h =
          get_or-append (replicate len 0) (drop len old) 0 j (rw (length-replicate {A = ℕ} len 0) h) ∙ get_or-replicate {A = ℕ} len j 0 0 h

      rest_at : (j : ℕ) → len ≤ j → get_or (replicate len 0 ++ drop len old) j 0 ≡ get_or old j 0
      rest_at j h =
          let e : length (replicate {A = ℕ} len 0) + (j - len) ≡ j = omega (arith, length-replicate {A = ℕ} len 0) in
          let f : len + (j - len) ≡ j = omega arith in
          ap (λ (n : ℕ). get_or (replicate len 0 ++ drop len old) n 0) (sym e)
          ∙ get_or-append-add (replicate len 0) (drop len old) (j - len) 0
          ∙ get_or-drop len old (j - len) 0
          ∙ ap (λ (n : ℕ). get_or old n 0) f

  -- A field after the bits so far adds its own.
  module _ (s bits : List ℕ) (h : Holds old len s bits) (a w v : ℕ) (place : length bits ≡ a) (fits : a + w ≤ 8 * len) where
    pub holds_put : Holds old len (put_field s a w v) (bits ++ bits_of w v)
    holds_put =
        record {
          size = length_put s a w v ∙ h.size;
          front = λ i l. front_at i l (dec_lt i a) (dec_lt i (a + w));
          rest = λ j l. put_elsewhere s a w v j (omega arith) ∙ h.rest j l;
        }
      where
        inside : a + w ≤ 8 * length s
        inside = omega (arith, h.size)

        front_at : (i : ℕ) → i < 8 * len → Dec (i < a) → Dec (i < a + w) → bit_at (put_field s a w v) i ≡ get_or (bits ++ bits_of w v) i 0
        front_at i l (yes p) q =
            put_outside s a w v i inside (inl p) ∙ h.front i l ∙ sym (get_or-append bits (bits_of w v) 0 i (omega arith))
        front_at i l (no p) (yes q) =
            let e : a + (i - a) ≡ i = omega arith in
            let f : length bits + (i - a) ≡ i = omega arith in
            ap (λ (n : ℕ). bit_at (put_field s a w v) n) (sym e)
            ∙ put_inside s a w v (i - a) inside (omega arith)
            ∙ sym (get_d_bits_of w v (i - a) (omega arith))
            ∙ sym (get_or-append-add bits (bits_of w v) (i - a) 0)
            ∙ ap (λ (n : ℕ). get_or (bits ++ bits_of w v) n 0) f
        front_at i l (no p) (no q) =
            put_outside s a w v i inside (inr (omega arith))
            ∙ h.front i l
            ∙ get_or-eq_default bits 0 (omega arith)
            ∙ sym (get_or-eq_default (bits ++ bits_of w v) 0 (simp length-append (omega (arith, length_bits_of w v))))

-- ---- the header, an arc, and the arcs

pub length_header : (e n m : ℕ) → length (bits_of 4 e ++ bits_of 7 n ++ bits_of 9 m) ≡ 20
length_header e n m = simp length-append (omega (arith, length_bits_of 4 e, length_bits_of 7 n, length_bits_of 9 m))

module _ (e : ℕ) where
  flat_snoc : (arcs : List Arc) (a : Arc) → flat_map (arc_bits e) (arcs ++ a ∷ []) ≡ flat_map (arc_bits e) arcs ++ arc_bits e a
  unfolding flat_map
  flat_snoc [] a = append-nil (arc_bits e a)
  flat_snoc (x ∷ arcs) a =
      ap (λ (l : List ℕ). arc_bits e x ++ l) (flat_snoc arcs a)
      ∙ sym (append_assoc (arc_bits e x) (flat_map (arc_bits e) arcs) (arc_bits e a))

  flat_more : (f : ℕ → Arc) (k : ℕ) → flat_map (arc_bits e) (map f (below (suc k))) ≡ flat_map (arc_bits e) (map f (below k))
      ++ arc_bits e (f k)
  flat_more f k =
      ap (λ (n : ℕ). flat_map (arc_bits e) (map f (below n))) (sym (add-one k)) ∙ ap (flat_map (arc_bits e)) (map_below_more f k)
      ∙ flat_snoc (map f (below k)) (f k)

module _ (old : List ℕ) (len : ℕ) (room : len ≤ length old) where
  pub holds-header
      : (s : List ℕ) (e n m : ℕ)
      → Holds old len s []
      → 20 ≤ 8 * len
      → Holds old len (put_header s e n m) (bits_of 4 e ++ bits_of 7 n ++ bits_of 9 m)
  unfolding put_header
  holds-header s e n m h l =
      let edition = holds_put old len room s [] h 0 4 e refl (omega arith) in
      let vertices = holds_put old len room (put_field s 0 4 e) (bits_of 4 e) edition 4 7 n (length_bits_of 4 e) (omega arith) in
      holds_put old len room (put_field (put_field s 0 4 e) 4 7 n) (bits_of 4 e ++ bits_of 7 n) vertices 11 9 m
      (simp length-append (omega (arith, length_bits_of 4 e, length_bits_of 7 n))) (omega arith)

  abbrev core : Arc → List ℕ
  core a = bits_of 6 a.tail ++ bits_of 6 a.head ++ bits_of 2 a.standing ++ bits_of 16 a.cost

  holds-core
      : (s bits : List ℕ) (i : ℕ) (a : Arc)
      → Holds old len s bits
      → length bits ≡ i
      → i + 30 ≤ 8 * len
      → Holds old len (put_core s i a) (bits ++ core a)
  unfolding put_core
  holds-core s bits i a h e l =
      let tail = holds_put old len room s bits h i 6 a.tail e (omega arith) in
      let n1 : length (bits ++ bits_of 6 a.tail) ≡ i + 6 = simp length-append (omega (arith, length_bits_of 6 a.tail)) in
      let head = holds_put old len room _ _ tail (i + 6) 6 a.head n1 (omega arith) in
      let n2 : length (bits ++ bits_of 6 a.tail ++ bits_of 6 a.head) ≡ i + 12 =
      simp length-append (omega (arith, length_bits_of 6 a.tail, length_bits_of 6 a.head)) in
      let standing = holds_put old len room _ _ head (i + 12) 2 a.standing n2 (omega arith) in
      let n3 : length (bits ++ bits_of 6 a.tail ++ bits_of 6 a.head ++ bits_of 2 a.standing) ≡ i + 14 =
      simp length-append (omega (arith, length_bits_of 6 a.tail, length_bits_of 6 a.head, length_bits_of 2 a.standing)) in
      let cost = holds_put old len room _ _ standing (i + 14) 16 a.cost n3 (omega arith) in
      subst (λ (l : List ℕ). Holds old len (put_core s i a) l) join cost
    where
      join : bits ++ bits_of 6 a.tail ++ bits_of 6 a.head ++ bits_of 2 a.standing ++ bits_of 16 a.cost ≡ bits ++ core a
      join =
          ap (λ (l : List ℕ). l ++ bits_of 2 a.standing ++ bits_of 16 a.cost)
          (append_assoc bits (bits_of 6 a.tail) (bits_of 6 a.head))
          ∙ ap (λ (l : List ℕ). l ++ bits_of 16 a.cost)
          (append_assoc bits (bits_of 6 a.tail ++ bits_of 6 a.head) (bits_of 2 a.standing))
          ∙ append_assoc bits (bits_of 6 a.tail ++ bits_of 6 a.head ++ bits_of 2 a.standing) (bits_of 16 a.cost)

  pub holds-arc
      : (e : ℕ) (s bits : List ℕ) (i : ℕ) (a : Arc)
      → Holds old len s bits
      → length bits ≡ i
      → i + arc_width e ≤ 8 * len
      → Holds old len (put_arc s e i a) (bits ++ arc_bits e a)
  unfolding put_arc arc_bits arc_width
  holds-arc e s bits i a h q l = at (is_second e) l
    where
      long : length (bits ++ core a) ≡ i + 30
      long = simp length-append
          (omega (arith, length_bits_of 6 a.tail, length_bits_of 6 a.head, length_bits_of 2 a.standing, length_bits_of 16 a.cost))

      at : (b : Bool) → i + cond b 46 30 ≤ 8 * len
          → Holds old len (cond b (put_field (put_core s i a) (i + 30) 16 a.service) (put_core s i a))
          (bits ++ (core a ++ cond b (bits_of 16 a.service) []))
      at true g =
          subst (λ (l : List ℕ). Holds old len (put_field (put_core s i a) (i + 30) 16 a.service) l)
          (append_assoc bits (core a) (bits_of 16 a.service))
          (holds_put old len room (put_core s i a) (bits ++ core a) (holds-core s bits i a h q (omega arith)) (i + 30) 16 a.service long
          (omega arith))
      at false g = rw (append-nil (core a)) (holds-core s bits i a h q g)

  pub holds-arcs
      : (e : ℕ) (s bits : List ℕ) (f : ℕ → Arc)
      → Holds old len s bits
      → length bits ≡ 20
      → (k : ℕ)
      → file_bits e k ≤ 8 * len
      → Holds old len (put_arcs s e f k) (bits ++ flat_map (arc_bits e) (map f (below k)))
  unfolding put_arcs flat_map below up_from
  holds-arcs e s bits f h q zero l = rw (append-nil bits) h
  holds-arcs e s bits f h q (suc k) l =
      let more : file_bits e (suc k) ≡ file_bits e k + arc_width e = rw add-one at (bits_more e k) in
      let before = holds-arcs e s bits f h q k (omega arith) in
      let n : length (bits ++ flat_map (arc_bits e) (map f (below k))) ≡ file_bits e k =
      simp length-append (omega (arith, rw (length_map_below f k) at (length_arcs e (map f (below k))))) in
      let after = holds-arc e (put_arcs s e f k) (bits ++ flat_map (arc_bits e) (map f (below k))) (file_bits e k) (f k) before n
      (omega arith) in
      let join : bits ++ flat_map (arc_bits e) (map f (below k)) ++ arc_bits e (f k) ≡ bits
      ++ flat_map (arc_bits e) (map f (below (suc k))) =
      append_assoc bits (flat_map (arc_bits e) (map f (below k))) (arc_bits e (f k))
      ∙ ap (λ (l : List ℕ). bits ++ l) (sym (flat_more e f k)) in
      subst (λ (l : List ℕ). Holds old len (put_arcs s e f (suc k)) l) join after

-- ---- the bytes that the bits make

-- Bytes that hold the bits of a plan are its file, and then what there was.
pub holds-file
    : (e : ℕ) (old s : List ℕ) (p : Plan)
    → file_length e (length p.arcs) ≤ length old
    → ((j : ℕ) → get_or s j 0 < 256)
    → Holds old (file_length e (length p.arcs)) s (plan_bits e p)
    → s ≡ file_of e p ++ drop (file_length e (length p.arcs)) old
holds-file e old s p room small h = ext_get_or 0 s (file_of e p ++ drop len old) long (λ j l. at j l (dec_lt j len))
  where
    len : ℕ
    len = file_length e (length p.arcs)

    long : length s ≡ length (file_of e p ++ drop len old)
    long = simp (length-append, length-drop, length_file_of e p) (omega (arith, h.size))

    at : (j : ℕ) → j < length s → Dec (j < len) → get_or s j 0 ≡ get_or (file_of e p ++ drop len old) j 0
    at j l (yes q) =
        sym (byte_of_bits s j (small j))
        ∙ number_same (bit_at s) (λ i. get_or (plan_bits e p) i 0) (8 * j) (8 * j) 8 (λ i k. h.front (8 * j + i) (omega arith))
        ∙ sym (file_byte e p j q)
        ∙ sym (get_or-append (file_of e p) (drop len old) 0 j (rw (length_file_of e p) q))
    at j l (no q) =
        let q' : length (file_of e p) + (j - len) ≡ j = omega (arith, length_file_of e p) in
        let f : len + (j - len) ≡ j = omega arith in
        h.rest j (omega arith)
        ∙ sym
        (ap (λ (n : ℕ). get_or (file_of e p ++ drop len old) n 0) (sym q')
        ∙ get_or-append-add (file_of e p) (drop len old) (j - len) 0
        ∙ get_or-drop len old (j - len) 0
        ∙ ap (λ (n : ℕ). get_or old n 0) f)

-- ---- the whole

-- The first bytes cleared, then the header and the arcs: that is the file of the plan.
pub put-plan-file
    : (e : ℕ) (old : List ℕ) (n m : ℕ) (f : ℕ → Arc) (s : List ℕ)
    → file_length e m ≤ length old
    → s ≡ put_arcs (put_header (replicate (file_length e m) 0 ++ drop (file_length e m) old) e n m) e f m
    → ((j : ℕ) → get_or s j 0 < 256)
    → s ≡ file_of e (record { n = n; arcs = map f (below m) }) ++ drop (file_length e m) old
unfolding plan_bits
put-plan-file e old n m f s room same small =
    let p : Plan = record { n = n; arcs = map f (below m) } in
    let count : length (map f (below m)) ≡ m = length_map_below f m in
    let len = file_length e m in
    let zeros = replicate {A = ℕ} len 0 ++ drop len old in
    let fit = bits_fit e m in
    let least = bits_least e m in
    let head = holds-header old len room zeros e n m (holds_clear old len room) (omega arith) in
    let body = holds-arcs old len room e (put_header zeros e n m) (bits_of 4 e ++ bits_of 7 n ++ bits_of 9 m) f head
    (length_header e n m) m fit in
    let held : Holds old len s (bits_of 4 e ++ bits_of 7 n ++ bits_of 9 m ++ flat_map (arc_bits e) (map f (below m))) = rw same body in
    let held' =
    subst (λ (k : ℕ). Holds old (file_length e k) s (bits_of 4 e ++ bits_of 7 n ++ bits_of 9 k ++ flat_map (arc_bits e) (map f (below m))))
    (sym count) held in
    subst (λ (k : ℕ). s ≡ file_of e p ++ drop (file_length e k) old) count (holds-file e old s p (rw count room) small held')
