-- A machine that was stored is lent again as it was. A district's fields are put one after the other, and so are the districts; each is
-- read from the place where it was put, since what stands before it has the length of what was put before.
use Rattle.std.specs.Prelude.{◌≡◌, drop, set}
use Rattle.std.proofs.Math.Path.{refl, sym, ap, subst⁻¹}
use Rattle.std.proofs.Common.{ap₂, ◌∙◌, subst, add-one, length-take-le}
use Rattle.std.proofs.Math.Logic.{inl, inr}
use mathlib.Core.List.Memᴰ
use mathlib.Core.List.{List, [], ◌∷◌, ◌++◌, map, flat_map, append_assoc, append-nil}
use Prim.Native.Nat.{ℕ, zero, suc, ◌+◌, ◌*◌, ◌≤◌, ◌<◌}
use native.Mathlib.Omega.{arith}
use Rattle.std.proofs.Math.ListN.{length, get_or, take, length-append}
use Rattle.std.proofs.Math.Seq.{take-suc, ext_get_or}
use Rattle.postman.specs.Lists.{below}
use Rattle.postman_laws.specs.Laws.Below.{length_map_below, get_d_map_below}
use Rattle.held_file.specs.Laws.Held.{file_back}
use Rattle.tree_search.specs.declared.trees.Reached.{Reached}
use Rattle.district_machine.specs.declared.machine.District.{District}
use Rattle.district_machine.specs.declared.machine.Machine.{Machine}
use Rattle.encoding.specs.NumberBytes.{put_at, word_bytes, long_bytes}
use Rattle.machine_bytes.specs.MachineBytes.{districts_bytes, reached_in, reached_bytes, district_in, district_bytes, machine_in, machine_bytes, IsReachedSized, IsDistrictSized, AreSized, IsSized}
use Rattle.encoding.specs.Laws.NumberBytes.{length_word, length_long, put_byte, put_more, put_next, put_start, IsAt, first, second, byte_back, bytes_back, word_back, long_back}

at : (i : ℕ) {n m : ℕ} → n ≡ m → i + m ≡ i + n
at i e = ap (λ (k : ℕ). i + k) (sym e)

-- ---- what a district holds

module _ (g : Reached) (z : IsReachedSized g) where
  -- its bytes up to each field
  abbrev to_heads : List ℕ
  to_heads = long_bytes g.cost ++ g.tails

  abbrev to_tried : List ℕ
  to_tried = to_heads ++ g.heads

  held_fields : reached_bytes g ≡ to_tried ++ word_bytes g.tried
  unfolding reached_bytes
  held_fields = refl

  length_heads : length to_heads ≡ 16
  length_heads = length-append (long_bytes g.cost) g.tails ∙ ap₂ (λ (j k : ℕ). j + k) (length_long g.cost) z.tails

  length_tried : length to_tried ≡ 24
  length_tried = length-append to_heads g.heads ∙ ap₂ (λ (j k : ℕ). j + k) length_heads z.heads

  pub length_reached : length (reached_bytes g) ≡ 28
  length_reached =
      ap length held_fields ∙ length-append to_tried (word_bytes g.tried) ∙ ap₂ (λ (j k : ℕ). j + k) length_tried (length_word g.tried)

  -- put field by field
  pub stored_reached : (l : List ℕ) (i : ℕ) → i + 28 ≤ length l → (x₁ x₂ x₃ x₄ : List ℕ)
      → x₁ ≡ put_at l i (long_bytes g.cost)
      → x₂ ≡ put_at x₁ (i + 8) g.tails
      → x₃ ≡ put_at x₂ (i + 16) g.heads
      → x₄ ≡ put_at x₃ (i + 24) (word_bytes g.tried)
      → x₄ ≡ put_at l i (reached_bytes g)
  stored_reached l i room x₁ x₂ x₃ x₄ e₁ e₂ e₃ e₄ =
      let p₂ = put_next l i (long_bytes g.cost) _ 8 8 (length_long g.cost) z.tails (omega arith) x₁ x₂ e₁ e₂ in
      let p₃ = put_next l i to_heads _ 16 8 length_heads z.heads (omega arith) x₂ x₃ p₂ e₃ in
      put_next l i to_tried _ 24 4 length_tried (length_word g.tried) (omega arith) x₃ x₄ p₃ e₄ ∙ ap (put_at l i) (sym held_fields)

  -- read field by field
  pub reached_back : {all : List ℕ} {i : ℕ} → IsAt all i (reached_bytes g) → reached_in all i ≡ g
  reached_back {all} {i} s =
      let s₃ : IsAt all i (to_tried ++ word_bytes g.tried) = subst (IsAt all i) held_fields s in
      let s₂ = first to_tried _ s₃ in
      let s₁ = first to_heads _ s₂ in
      let cost = long_back g.cost (first (long_bytes g.cost) _ s₁) in
      let tails = bytes_back g.tails 8 z.tails (second (long_bytes g.cost) _ (i + 8) (at i (length_long g.cost)) s₁) in
      let heads = bytes_back g.heads 8 z.heads (second to_heads _ (i + 16) (at i length_heads) s₂) in
      let tried = word_back g.tried (second to_tried _ (i + 24) (at i length_tried) s₃) in
      λ j. record { cost = cost j; tails = tails j; heads = heads j; tried = tried j }

-- ---- a district

module _ (d : District) (z : IsDistrictSized d) where
  abbrev to_length : List ℕ
  to_length = d.place ∷ []

  abbrev to_file : List ℕ
  to_file = to_length ++ long_bytes d.plan.length

  abbrev to_budget : List ℕ
  to_budget = to_file ++ d.plan.file

  abbrev to_held : List ℕ
  to_held = to_budget ++ word_bytes d.budget

  all_fields : district_bytes d ≡ to_held ++ reached_bytes d.held
  unfolding district_bytes
  all_fields = refl

  length_file : length to_file ≡ 9
  length_file = length-append to_length (long_bytes d.plan.length) ∙ ap (λ (k : ℕ). 1 + k) (length_long d.plan.length)

  length_budget : length to_budget ≡ 1484
  length_budget = length-append to_file d.plan.file ∙ ap₂ (λ (j k : ℕ). j + k) length_file z.file

  length_held : length to_held ≡ 1488
  length_held = length-append to_budget (word_bytes d.budget) ∙ ap₂ (λ (j k : ℕ). j + k) length_budget (length_word d.budget)

  pub length_district : length (district_bytes d) ≡ 1516
  length_district =
      ap length all_fields ∙ length-append to_held (reached_bytes d.held)
      ∙ ap₂ (λ (j k : ℕ). j + k) length_held (length_reached d.held z.held)

  pub stored_district : (l : List ℕ) (i : ℕ) → i + 1516 ≤ length l → (x₁ x₂ x₃ x₄ : List ℕ)
      → x₁ ≡ put_at (set l i d.place) (i + 1) (long_bytes d.plan.length)
      → x₂ ≡ put_at x₁ (i + 9) d.plan.file
      → x₃ ≡ put_at x₂ (i + 1484) (word_bytes d.budget)
      → x₄ ≡ put_at x₃ (i + 1488) (reached_bytes d.held)
      → x₄ ≡ put_at l i (district_bytes d)
  stored_district l i room x₁ x₂ x₃ x₄ e₁ e₂ e₃ e₄ =
      let p₀ = put_byte l i d.place (omega arith) in
      let p₁ = put_next l i to_length _ 1 8 refl (length_long d.plan.length) (omega arith) _ x₁ p₀ e₁ in
      let p₂ = put_next l i to_file _ 9 1475 length_file z.file (omega arith) x₁ x₂ p₁ e₂ in
      let p₃ = put_next l i to_budget _ 1484 4 length_budget (length_word d.budget) (omega arith) x₂ x₃ p₂ e₃ in
      put_next l i to_held _ 1488 28 length_held (length_reached d.held z.held) (omega arith) x₃ x₄ p₃ e₄
      ∙ ap (put_at l i) (sym all_fields)

  pub district_back : {all : List ℕ} {i : ℕ} → IsAt all i (district_bytes d) → district_in all i ≡ d
  district_back {all} {i} s =
      let s₄ : IsAt all i (to_held ++ reached_bytes d.held) = subst (IsAt all i) all_fields s in
      let s₃ = first to_held _ s₄ in
      let s₂ = first to_budget _ s₃ in
      let s₁ = first to_file _ s₂ in
      let place = byte_back d.place (first to_length _ s₁) in
      let size = long_back d.plan.length (second to_length _ (i + 1) refl s₁) in
      let plan = file_back d.plan z.file _ size (second to_file _ (i + 9) (at i length_file) s₂) in
      let budget = word_back d.budget (second to_budget _ (i + 1484) (at i length_budget) s₃) in
      let held = reached_back d.held z.held (second to_held _ (i + 1488) (at i length_held) s₄) in
      λ j. record { place = place j; plan = plan j; budget = budget j; held = held j }

-- ---- districts one after the other

pub length_line : (l : List District) → AreSized l → length (flat_map district_bytes l) ≡ 1516 * length l
unfolding flat_map
length_line [] h = refl
length_line (d ∷ l) h =
    let a = length-append (district_bytes d) (flat_map district_bytes l) in
    let b = length_district d (h d (Memᴰ.head refl)) in
    let c = length_line l (λ x m. h x (Memᴰ.tail m)) in
    omega arith

line_append : (xs ys : List District) → flat_map district_bytes (xs ++ ys) ≡ flat_map district_bytes xs ++ flat_map district_bytes ys
unfolding flat_map
line_append [] ys = refl
line_append (x ∷ xs) ys =
    ap (λ (l : List ℕ). district_bytes x ++ l) (line_append xs ys)
    ∙ sym (append_assoc (district_bytes x) (flat_map district_bytes xs) (flat_map district_bytes ys))

sized_at : (l : List District) → AreSized l → (k : ℕ) (z : District) → k < length l → IsDistrictSized (get_or l k z)
sized_at [] h k z m = absurd (omega arith)
sized_at (d ∷ l) h zero z m = h d (Memᴰ.head refl)
sized_at (d ∷ l) h (suc k) z m = sized_at l (λ x n. h x (Memᴰ.tail n)) k z (omega arith)

-- each stands where it was put
district_stands : (l : List District) → AreSized l → {all : List ℕ} (i : ℕ) → IsAt all i (flat_map district_bytes l)
    → (k : ℕ) (z : District)
    → k < length l
    → IsAt all (i + 1516 * k) (district_bytes (get_or l k z))
unfolding flat_map
district_stands [] h i s k z l = absurd (omega arith)
district_stands (d ∷ l) h {all} i s zero z m =
    subst (λ (j : ℕ). IsAt all j (district_bytes d)) (let e : i ≡ i + 1516 * 0 = omega arith in e)
    (first (district_bytes d) (flat_map district_bytes l) s)
district_stands (d ∷ l) h {all} i s (suc k) z m =
    let b = length_district d (h d (Memᴰ.head refl)) in
    let more = second (district_bytes d) (flat_map district_bytes l) (i + 1516) (omega arith) s in
    subst (λ (j : ℕ). IsAt all j (district_bytes (get_or l k z))) (let e : i + 1516 + 1516 * k ≡ i + 1516 * suc k = omega arith in e)
    (district_stands l (λ x n. h x (Memᴰ.tail n)) (i + 1516) more k z (omega arith))

-- stored by a loop: the first k are put
pub record AreStored (l : List ℕ) (line : List District) (x : List ℕ) (k : ℕ) : Type 0 where
  pub few : k ≤ 8
  pub eight : length line ≡ 8
  pub room : districts_bytes ≤ length l
  pub same : length x ≡ length l
  pub sized : AreSized (take k line)
  pub content : x ≡ put_at l 0 (flat_map district_bytes (take k line))

module _ (l : List ℕ) (line : List District) where
  pub none_stored : length line ≡ 8 → districts_bytes ≤ length l → AreStored l line l 0
  unfolding flat_map
  none_stored e r =
      record { few = omega arith; eight = e; room = r; same = refl; sized = λ d m. elim m [ ]; content = sym (put_start l [] 0 refl) }

  pub more_stored : (x x' : List ℕ) (k : ℕ) (z : District) → k < 8 → AreStored l line x k → length x' ≡ length x
      → IsDistrictSized (get_or line k z)
      → x' ≡ put_at x (1516 * k) (district_bytes (get_or line k z)) → AreStored l line x' (k + 1)
  unfolding flat_map
  more_stored x x' k z m h s i e =
      let d = get_or line k z in
      let eight = h.eight in
      let room = h.room in
      let one : take (k + 1) line ≡ take k line ++ (d ∷ []) = ap (λ (n : ℕ). take n line) (add-one k) ∙ take-suc line k z (omega arith) in
      let done = flat_map district_bytes (take k line) in
      let size : length done ≡ 1516 * k =
      length_line (take k line) h.sized ∙ ap (λ (n : ℕ). 1516 * n) (length-take-le k line (omega arith)) in
      let this = length_district d i in
      let new : flat_map district_bytes (take (k + 1) line) ≡ done ++ district_bytes d =
      ap (flat_map district_bytes) one ∙ line_append (take k line) (d ∷ []) ∙ ap (λ (y : List ℕ). done ++ y) (append-nil (district_bytes d))
      in
      record {
        few = omega arith;
        eight = eight;
        room = room;
        same = s ∙ h.same;
        sized = subst⁻¹ AreSized one (λ y n. elim (Memᴰ.append_cases (take k line) n) [
          | inl a ↦ h.sized y a
          | inr b ↦ elim (Memᴰ.cases_cons b) [
            | inl q ↦ subst⁻¹ IsDistrictSized q i
            | inr c ↦ elim c [ ]
          ]
        ]);
        content = e ∙ ap (λ (y : List ℕ). put_at y (1516 * k) (district_bytes d)) h.content
            ∙ put_more l 0 done (1516 * k) (district_bytes d) (omega arith) (omega arith) ∙ ap (put_at l 0) (sym new);
      }

-- loaded, each from its own place
pub all_loaded : (bytes : List ℕ) (z : District) (line : List District) → length line ≡ 8
    → ((k : ℕ) → k < 8 → get_or line k z ≡ district_in bytes (1516 * k))
    → line ≡ map (λ j. district_in bytes (1516 * j)) (below 8)
all_loaded bytes z line long each =
    let f : ℕ → District = λ j. district_in bytes (1516 * j) in
    ext_get_or z line (map f (below 8)) (long ∙ sym (length_map_below f 8))
    (λ i n. each i (omega arith) ∙ sym (get_d_map_below f 8 i z (omega arith)))

-- ---- the machine

module _ (m : Machine) (z : IsSized m) where
  length_machine : length (machine_bytes m) ≡ districts_bytes
  unfolding machine_bytes
  length_machine =
      let a = length-append (flat_map district_bytes m.line) (long_bytes m.waiting) in
      let b = length_line m.line z.each in
      let c = length_long m.waiting in
      let e = z.eight in
      omega arith

  -- the districts, and the number of those that wait
  pub stored_machine : (l x y : List ℕ) → districts_bytes ≤ length l → x ≡ put_at l 0 (flat_map district_bytes m.line)
      → y ≡ put_at x 12128 (long_bytes m.waiting) → y ≡ machine_bytes m ++ drop districts_bytes l
  unfolding machine_bytes
  stored_machine l x y r p q =
      let b = length_line m.line z.each in
      let c = length_long m.waiting in
      let e = z.eight in
      q ∙ ap (λ (t : List ℕ). put_at t 12128 (long_bytes m.waiting)) p
      ∙ put_more l 0 (flat_map district_bytes m.line) 12128 (long_bytes m.waiting) (omega arith) (omega arith)
      ∙ put_start l (machine_bytes m) districts_bytes length_machine

  module _ (rest : List ℕ) where
    pub machine_long : districts_bytes ≤ length (machine_bytes m ++ rest)
    machine_long = let a = length-append (machine_bytes m) rest in let b = length_machine in omega arith

    -- THE LAW: a machine that was stored is lent again
    pub machine_back : machine_in (machine_bytes m ++ rest) ≡ m
    unfolding machine_bytes
    machine_back =
        let all = machine_bytes m ++ rest in
        let s : IsAt all 0 (flat_map district_bytes m.line ++ long_bytes m.waiting) =
        record { done = []; rest = rest; size = refl; is = refl } in
        let b = length_line m.line z.each in
        let e = z.eight in
        let waiting = long_back m.waiting (second (flat_map district_bytes m.line) (long_bytes m.waiting) 12128 (omega arith) s) in
        let line = lines m.line z.each e all (first (flat_map district_bytes m.line) (long_bytes m.waiting) s) in
        λ j. record { line = line j; waiting = waiting j }
      where
        lines : (l : List District) → AreSized l → length l ≡ 8 → (all : List ℕ) → IsAt all 0 (flat_map district_bytes l)
            → map (λ k. district_in all (1516 * k)) (below 8) ≡ l
        lines [] h e all s = absurd (omega arith)
        lines (d ∷ l) h e all s =
            let f : ℕ → District = λ k. district_in all (1516 * k) in
            let n = length_map_below f 8 in
            ext_get_or d (map f (below 8)) (d ∷ l) (n ∙ sym e) (λ k i. get_d_map_below f 8 k d (omega arith)
            ∙ district_back (get_or (d ∷ l) k d) (sized_at (d ∷ l) h k d (omega arith))
            (subst (λ (j : ℕ). IsAt all j (district_bytes (get_or (d ∷ l) k d))) (let q : 0 + 1516 * k ≡ 1516 * k = omega arith in q)
            (district_stands (d ∷ l) h 0 s k d (omega arith))))
