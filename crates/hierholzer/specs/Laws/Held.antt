-- A store makes a step: a leg put above the walk is walked, and the walk's last leg put before the placed ones is placed.
use Rattle.std.specs.Prelude.{◌≡◌, ◌&&◌, set, ltb}
use Rattle.std.proofs.Math.Path.{refl, sym, ap, ap₂, subst⁻¹}
use Rattle.std.proofs.Common.{◌∙◌, subst, drop-cons, lt-ltb, le-ltb}
use Rattle.std.proofs.Math.Bool.{cond}
use mathlib.Core.List.{List, [], ◌∷◌}
use Prim.Native.Nat.{ℕ, zero, suc, ◌+◌, ◌-◌, ◌*◌, ◌≤◌, ◌<◌}
use Rattle.std.proofs.Math.Decide.{dec_le}
use native.Mathlib.Omega.{arith}
use Rattle.std.proofs.Math.ListN.{length, get_or, drop, length-set, length-drop, drop_of_length-le}
use Rattle.std.proofs.Math.Seq.{get_or-set_same, get_or-set_other, drop-set-lt}
use Rattle.std.proofs.Math.Dec.{eqb}
use Rattle.postman.specs.Lists.{below, delta, occurrences}
use Rattle.postman_laws.specs.Laws.Ascending.{index_cong}
use Rattle.postman.specs.Laws.Membership.{below_mem}
use Rattle.postman_laws.specs.Laws.Occurrences.{delta_yes, delta_pos}
use Rattle.hierholzer.specs.Circuit.{CircuitState, is_free, next_leg, step, run, circuit}
use Rattle.hierholzer.specs.Eulerian.{Eulerian}
use Rattle.hierholzer.specs.Held.{walk_of, HeldPath, Stepped, is_unused, first_unused}
use Rattle.hierholzer.specs.Laws.Counting.{below_once, below_lt}
use Rattle.hierholzer.specs.Laws.Circuit.{run_done, circuit_length}
use Rattle.hierholzer.specs.Laws.Unused.{Free, next_free, tidy_length, tidy_more}

-- a store at or after the walk's end
walk_set : (l : List ℕ) (n i a : ℕ) → n ≤ i → walk_of (set l i a) n ≡ walk_of l n
unfolding walk_of
walk_set l zero i a h = refl
walk_set l (suc n) i a h = ap₂ ◌∷◌ (get_or-set_other l i n a 0 (λ e. omega arith)) (walk_set l n i a (omega arith))

walk_push : (l : List ℕ) (n a : ℕ) → n < length l → walk_of (set l n a) (suc n) ≡ a ∷ walk_of l n
unfolding walk_of
walk_push l n a h = ap₂ ◌∷◌ (get_or-set_same l n a 0 h) (walk_set l n n a (omega arith))

pub walk_length : (l : List ℕ) (n : ℕ) → length (walk_of l n) ≡ n
unfolding walk_of
walk_length l zero = refl
walk_length l (suc n) = ap suc (walk_length l n)

drop_place : (l : List ℕ) (i a : ℕ) → i < length l → drop i (set l i a) ≡ a ∷ drop (suc i) l
drop_place l i a h =
    let n = length-set l i a in
    drop-cons (set l i a) i 0 (omega arith) ∙ ap₂ ◌∷◌ (get_or-set_same l i a 0 h) (drop-set-lt (suc i) l i a (omega arith))

-- ---- what a step does, where the search finds a leg and where it finds none

module _ (tails heads : List ℕ) (k : ℕ) (w d : List ℕ) (e : ℕ) (f : e ≡ next_leg tails (k ∷ w) d (get_or heads k 0)) where
  abbrev more : ℕ → CircuitState
  more x = record { walk = x ∷ k ∷ w; placed = d }

  abbrev less : CircuitState
  less = record { walk = w; placed = k ∷ d }

  step_more : e < length tails → step tails heads (k ∷ w) d ≡ more e
  unfolding step
  step_more l = ap (λ x. cond (ltb x (length tails)) (more x) less) (sym f) ∙ ap (λ b. cond b (more e) less) (lt-ltb e (length tails) l)

  step_less : length tails ≤ e → step tails heads (k ∷ w) d ≡ less
  unfolding step
  step_less l = ap (λ x. cond (ltb x (length tails)) (more x) less) (sym f) ∙ ap (λ b. cond b (more e) less) (le-ltb e (length tails) l)

-- ---- the stores

module _ (tails heads order used : List ℕ) (d start : ℕ) (h : HeldPath tails order used (suc d) start) where
  abbrev top : ℕ
  top = get_or order d 0

  -- the flags find what the definition finds
  pub same_search : (v : ℕ) → first_unused tails used v ≡ next_leg tails (walk_of order (suc d)) (drop start order) v
  unfolding first_unused next_leg is_unused is_free
  same_search v =
      index_cong (is_unused tails used v) (is_free tails (walk_of order (suc d)) (drop start order) v) (below (length tails)) (λ e m.
      ap (λ z. eqb (get_or tails e 0) v && eqb z 0) (h.flags e (below_mem m)))

  pub top_lt : top < length tails
  unfolding walk_of occurrences
  top_lt = let a = h.tidy top in let s = delta_yes {i = top} refl in below_lt (length tails) top (omega arith)

  module _ (e : ℕ) (f : e ≡ next_leg tails (walk_of order (suc d)) (drop start order) (get_or heads top 0)) where
    free : e < length tails → Free tails (walk_of order (suc d)) (drop start order) (get_or heads top 0) e
    free l = subst⁻¹ (Free tails (walk_of order (suc d)) (drop start order) (get_or heads top 0)) f
        (next_free tails (walk_of order (suc d)) (drop start order) (get_or heads top 0) (subst (λ z. z < length tails) f l))

    mark_set : (x : ℕ) → x < length tails → Free tails (walk_of order (suc d)) (drop start order) (get_or heads top 0) e
        → get_or (set used e 1) x 0 ≡ delta x e + occurrences x (walk_of order (suc d)) + occurrences x (drop start order)
    mark_set x k g = elim (dec_le 1 (delta x e)) [
      | yes y ↦ (
          let i = delta_pos x e y in
          let o = delta_yes i in
          let m = h.marks in
          let t = g.there in
          let b = ap (λ z. get_or (set used e 1) z 0) i ∙ get_or-set_same used e 1 0 (omega arith) in
          let a = ap (λ z. occurrences z (walk_of order (suc d)) + occurrences z (drop start order)) i in
          let u = g.unused in
          omega arith)
      | no y ↦ (
          let m = h.flags x k in
          let b = get_or-set_other used e x 1 0 (λ i. (let o = delta_yes i in omega arith)) in
          omega arith)
    ]

    -- there is room for a leg
    pub room : e < length tails → suc d < start
    unfolding occurrences
    room l =
        let g = free l in
        let n = tidy_length tails (e ∷ walk_of order (suc d)) (drop start order)
        (tidy_more tails (walk_of order (suc d)) (drop start order) (get_or heads top 0) e h.tidy g) in
        let a = walk_length order (suc d) in
        let b = length-drop start order in
        let c = h.within in
        let p = h.places in
        omega arith

    pub walked : e < length tails → Stepped tails heads order (suc d) start (set order (suc d) e) (set used e 1) (suc (suc d)) start
    unfolding walk_of occurrences
    walked l =
        let g = free l in
        let r = room l in
        let a = h.within in
        let w = walk_push order (suc d) e (omega arith) in
        let p = drop-set-lt start order (suc d) e r in
        let s = step_more tails heads top (walk_of order d) (drop start order) e f l in
        record {
          held = record {
            apart = r;
            within = (let n = length-set order (suc d) e in omega arith);
            places = length-set order (suc d) e ∙ h.places;
            marks = (let n = length-set used e 1 in let m = h.marks in omega arith);
            flags = λ x k. mark_set x k g ∙ sym (ap₂ (λ (y z : List ℕ). occurrences x y + occurrences x z) w p);
            tidy = λ x. (
                let t = tidy_more tails (walk_of order (suc d)) (drop start order) (get_or heads top 0) e h.tidy g x in
                let c = ap₂ (λ (y z : List ℕ). occurrences x y + occurrences x z) w p in
                omega arith);
          };
          walk = w ∙ sym (ap (λ (z : CircuitState). z.walk) s);
          placed = p ∙ sym (ap (λ (z : CircuitState). z.placed) s);
          nearer = omega arith;
        }

    pub placed : length tails ≤ e → Stepped tails heads order (suc d) start (set order (start - 1) top) used d (start - 1)
    unfolding walk_of occurrences
    placed l =
        let a = h.within in
        let b = h.apart in
        let w = walk_set order d (start - 1) top (omega arith) in
        let i : suc (start - 1) ≡ start = omega arith in
        let p = drop_place order (start - 1) top (omega arith) ∙ ap (λ z. top ∷ drop z order) i in
        let s = step_less tails heads top (walk_of order d) (drop start order) e f l in
        record {
          held = record {
            apart = (omega arith);
            within = (let n = length-set order (start - 1) top in omega arith);
            places = length-set order (start - 1) top ∙ h.places;
            marks = h.marks;
            flags = λ x k. (
                let m = h.flags x k in
                let c = ap₂ (λ (y z : List ℕ). occurrences x y + occurrences x z) w p in
                omega arith);
            tidy = λ x. (
                let t = h.tidy x in
                let c = ap₂ (λ (y z : List ℕ). occurrences x y + occurrences x z) w p in
                omega arith);
          };
          walk = w ∙ sym (ap (λ (z : CircuitState). z.walk) s);
          placed = p ∙ sym (ap (λ (z : CircuitState). z.placed) s);
          nearer = omega arith;
        }

-- ---- the same, at the depth and the search that the code has

abbrev pub top_of : List ℕ → ℕ → ℕ
top_of order depth = get_or order (depth - 1) 0

-- i is the walk's last leg, and e the first unused leg out of its head
module _ {tails order used : List ℕ} (heads : List ℕ) where
  pub top_below : {depth start : ℕ} → 0 < depth → HeldPath tails order used depth start → top_of order depth < length tails
  top_below {depth = zero} p h = absurd (omega arith)
  top_below {depth = suc d} {start} p h = let i : d ≡ suc d - 1 = omega arith in
      subst (λ z. get_or order z 0 < length tails) i (top_lt tails heads order used d start h)

  search_at : {d start e i : ℕ} (h : HeldPath tails order used (suc d) start) → i ≡ top_of order (suc d)
      → e ≡ first_unused tails used (get_or heads i 0)
      → e ≡ next_leg tails (walk_of order (suc d)) (drop start order) (get_or heads (get_or order d 0) 0)
  search_at {d} {start} h w f =
      let j : suc d - 1 ≡ d = omega arith in
      f ∙ ap (λ z. first_unused tails used (get_or heads z 0)) (w ∙ ap (λ z. get_or order z 0) j)
      ∙ same_search tails heads order used d start h (get_or heads (get_or order d 0) 0)

  pub has_room : {depth start e i : ℕ} → 0 < depth → HeldPath tails order used depth start → i ≡ top_of order depth
      → e ≡ first_unused tails used (get_or heads i 0) → e < length tails
      → depth < start
  has_room {depth = zero} p h w f l = absurd (omega arith)
  has_room {depth = suc d} {start} {e} p h w f l = room tails heads order used d start h e (search_at h w f) l

  pub walked_at : {depth start e i : ℕ} → 0 < depth → HeldPath tails order used depth start → i ≡ top_of order depth
      → e ≡ first_unused tails used (get_or heads i 0) → e < length tails
      → Stepped tails heads order depth start (set order depth e) (set used e 1) (depth + 1) start
  walked_at {depth = zero} p h w f l = absurd (omega arith)
  walked_at {depth = suc d} {start} {e} p h w f l =
      let j : suc (suc d) ≡ suc d + 1 = omega arith in
      subst (λ z. Stepped tails heads order (suc d) start (set order (suc d) e) (set used e 1) z start) j
      (walked tails heads order used d start h e (search_at h w f) l)

  pub placed_at : {depth start e i : ℕ} → 0 < depth → HeldPath tails order used depth start → i ≡ top_of order depth
      → e ≡ first_unused tails used (get_or heads i 0) → length tails ≤ e
      → Stepped tails heads order depth start (set order (start - 1) (top_of order depth)) used (depth - 1) (start - 1)
  placed_at {depth = zero} p h w f l = absurd (omega arith)
  placed_at {depth = suc d} {start} {e} p h w f l =
      let j : d ≡ suc d - 1 = omega arith in
      subst (λ z. Stepped tails heads order (suc d) start (set order (start - 1) (get_or order z 0)) used z (start - 1)) j
      (placed tails heads order used d start h e (search_at h w f) l)

-- ---- from the first leg to the last

module _ (tails heads : List ℕ) where
  pub held_first : (order used : List ℕ) → 0 < length tails → length order ≡ length tails → length tails ≤ length used
      → ((e : ℕ) → e < length tails → get_or used e 0 ≡ 0)
      → HeldPath tails (set order 0 0) (set used 0 1) 1 (length tails)
  unfolding walk_of occurrences
  held_first order used l n m z =
      let a = length-set order 0 0 in
      let w : walk_of (set order 0 0) 1 ≡ 0 ∷ [] = walk_push order 0 0 (omega arith) in
      let p = drop_of_length-le (set order 0 0) {i = length tails} (omega arith) in
      let uses : (e : ℕ)
      → occurrences e (walk_of (set order 0 0) 1) + occurrences e (drop (length tails) (set order 0 0)) ≡ delta e 0 + 0 + 0
      = λ e. ap₂ (λ (y z : List ℕ). occurrences e y + occurrences e z) w p in
      record {
        apart = l;
        within = omega arith;
        places = a ∙ n;
        marks = (let b = length-set used 0 1 in omega arith);
        flags = λ e k. (let u = uses e in elim (dec_le 1 (delta e 0)) [
          | yes g ↦ (let i = delta_pos e 0 g in let o = delta_yes i in
              let b = ap (λ z. get_or (set used 0 1) z 0) i ∙ get_or-set_same used 0 1 0 (omega arith) in omega arith)
          | no g ↦ (let b = get_or-set_other used 0 e 1 0 (λ i. (let o = delta_yes i in omega arith)) in let c = z e k in omega arith)
        ]);
        tidy = λ e. (let u = uses e in elim (dec_le 1 (delta e 0)) [
          | yes g ↦ (let i = delta_pos e 0 g in let o = delta_yes i in let b = below_once (length tails) e (omega arith) in omega arith)
          | no g ↦ omega arith
        ]);
      }

  pub run_first : (order : List ℕ) → 0 < length tails → length order ≡ length tails
      → circuit tails heads ≡ run tails heads (2 * length tails - 1) (walk_of (set order 0 0) 1) (drop (length tails) (set order 0 0))
  unfolding walk_of circuit
  run_first order l n =
      let a = length-set order 0 0 in
      let w : walk_of (set order 0 0) 1 ≡ 0 ∷ [] = walk_push order 0 0 (omega arith) in
      let p = drop_of_length-le (set order 0 0) {i = length tails} (omega arith) in
      sym (ap₂ (run tails heads (2 * length tails - 1)) w p)

  pub run_step : (order order' used' : List ℕ) (depth start depth' start' : ℕ)
      → Stepped tails heads order depth start order' used' depth' start'
      → run tails heads (2 * start - depth) (walk_of order depth) (drop start order)
      ≡ run tails heads (2 * start' - depth') (walk_of order' depth') (drop start' order')
  unfolding run
  run_step order order' used' depth start depth' start' s =
      let n = s.nearer in
      let a = s.held.apart in
      let i : 2 * start - depth ≡ suc (2 * start' - depth') = omega arith in
      ap (λ z. run tails heads z (walk_of order depth) (drop start order)) i
      ∙ sym (ap₂ (run tails heads (2 * start' - depth')) s.walk s.placed)

  -- a walk that is used up leaves the whole circuit, in its place
  pub run_last : (order used : List ℕ) (start n : ℕ) → Eulerian tails heads → HeldPath tails order used 0 start
      → circuit tails heads ≡ run tails heads n (walk_of order 0) (drop start order) → order ≡ circuit tails heads
  unfolding walk_of
  run_last order used start n h g e =
      let a = e ∙ run_done tails heads n (drop start order) in
      let l = circuit_length tails heads h in
      let c = ap length a in
      let d = length-drop start order in
      let p = g.places in
      let w = g.within in
      let some = h.some in
      let z : start ≡ 0 = omega arith in
      sym (a ∙ ap (λ x. drop x order) z)
