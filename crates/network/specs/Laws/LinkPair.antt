-- Over the table and the flags of a plan, thinning holds just the plan's links: at each place the flags and the list of pairs have the same
-- turn, and the places that are no pair of distinct required vertices change nothing.
use Rattle.std.specs.Prelude.{◌≡◌, refl, ◌≢◌, Bool, true, cond, get_or, set, T}
use Rattle.std.proofs.Common.{sym, ◌∙◌, subst, get_or-set_same, get_or-set_other, eqb→eq}
use Rattle.std.proofs.Math.Path.{ap, ap₂, subst⁻¹}
use Rattle.std.proofs.Math.Logic.{inl, inr}
use Rattle.std.proofs.Math.Bool.{false, not, ◌&&◌}
use mathlib.Core.List.{List, [], ◌∷◌, ◌++◌, map, Memᴰ, map-append}
use Prim.Native.Nat.{ℕ, zero, suc, ◌+◌, ◌*◌, ◌-◌, ◌/◌, ◌%◌, ◌<◌, ◌≤◌}
use native.Mathlib.Omega.{arith}
use Rattle.std.proofs.Math.ListN.{length, length-set}
use Rattle.std.proofs.Math.Dec.{eqb, not_T, T_not}
use Rattle.postman.specs.Lists.{any_of, below, up_from}
use Rattle.postman.specs.Plan.{Plan, WellFormed}
use Rattle.postman.specs.Required.{is_required, required}
use Rattle.postman.specs.Distance.{distance}
use Rattle.postman.specs.Link.{Link, pairs, proper_pairs, joins, is_held, is_via, pairs_after, thinned, links}
use Rattle.postman.specs.Laws.Tests.{cond_ind, test, same_test, is_true, is_false, and_both, and_parts, eqb_other}
use Rattle.postman.specs.Laws.Membership.{any_of_mem, any_of_at, mem_below, below_mem}
use Rattle.postman_laws.specs.Laws.Selection.{below_split}
use Rattle.postman_laws.specs.Laws.Link.{link, joined, joins_same, held_mem, mem_held, AreProper, proper, mem_proper, turn_mem, mem_turn, turn_gone, turn_stays, turn_proper, via, via_other, thinned_append, thinned_skip}
use Rattle.postman_laws.specs.Laws.Pairs.{pairs_are, both_pass, pairs_select}
use Rattle.shortest.specs.StepContracts.{IsTable}
use Rattle.required.specs.StepContracts.{IsRequiredFlags}
use Rattle.postman.specs.Steps.{cell, pair_at}
use Rattle.postman_laws.specs.Laws.Required.{required_below}
use Rattle.network.specs.Thinning.{flag, is_pair, between, turn_at, rows_thinned}
use Rattle.required.specs.Laws.RequiredVertex.{of_required}
use Rattle.network.specs.Laws.Vertices.{required_of_64}
use Rattle.network.specs.Laws.CutOff.{flagged, flag_of}
use Rattle.network.specs.Laws.Thinning.{places_thinned, rows_places}

-- ---- what is held after a turn, as a test

module _ (p : Plan) (held : List Link) (i j a b : ℕ) where
  abbrev goes : Bool
  goes = any_of (is_via p held (link i j)) (required p)

  list_turn : is_held (pairs_after p held (link i j)) a b ≡ (is_held held a b && not (goes && joins i j (link a b)))
  list_turn =
      same_test (is_held (pairs_after p held (link i j)) a b) (is_held held a b && not (goes && joins i j (link a b)))
      (λ t.
      let m = held_mem (pairs_after p held (link i j)) a b t in
      and_both (is_held held a b) (not (goes && joins i j (link a b))) (mem_held held a b (turn_mem p held (link i j) m))
      (not_T (goes && joins i j (link a b)) (λ u.
      let c = and_parts goes (joins i j (link a b)) u in
      turn_gone p held (link i j) c.0 (subst (λ (l : Link). Memᴰ l (pairs_after p held (link i j))) (joined c.1) m))))
      (λ t.
      let c = and_parts (is_held held a b) (not (goes && joins i j (link a b))) t in
      let m = held_mem held a b c.0 in
      mem_held (pairs_after p held (link i j)) a b (elim (test goes) [
        | inl g ↦ mem_turn p held (link i j) m
            (λ e. T_not (goes && joins i j (link a b)) c.1 (and_both goes (joins i j (link a b)) g (joins_same e)))
        | inr g ↦ subst⁻¹ (Memᴰ (link a b)) (turn_stays p held (link i j) g) m
      ]))

module _ (d : List (List ℕ)) (h : List Bool) (i j a b : ℕ) (size : length h ≡ 4096) (hi : i < 64) (hj : j < 64) (ha : a < 64)
    (hb : b < 64) where
  abbrev some : Bool
  some = any_of (between d h i j) (below 64)

  own : (f s : Bool) (t g : List Bool) (x : ℕ) → get_or t x false ≡ false → get_or g x false ≡ f
      → get_or (cond (f && s) t g) x false ≡ (f && not (s && true))
  own true true t g x e q = e
  own true false t g x e q = q
  own false s t g x e q = q

  other : (c s : Bool) {v : Bool} (t g : List Bool) (x : ℕ) → get_or t x false ≡ v → get_or g x false ≡ v
      → get_or (cond c t g) x false ≡ (v && not (s && false))
  other c s {v} t g x e q = picked c ∙ same v s
    where
      picked : (c : Bool) → get_or (cond c t g) x false ≡ v
      picked true = e
      picked false = q

      same : (v s : Bool) → v ≡ (v && not (s && false))
      same true true = refl
      same true false = refl
      same false s = refl

  flags_turn : flag (turn_at d h i j) a b ≡ (flag h a b && not (some && joins i j (link a b)))
  unfolding turn_at
  flags_turn = elim (test (joins i j (link a b))) [
    | inl t ↦
        let e = joined t in
        let x : a ≡ i = ap (λ (l : Link). l.tail) e in
        let y : b ≡ j = ap (λ (l : Link). l.head) e in
        let c = is_true {b = joins i j (link a b)} t in
        rw (c, x, y)
        (own (flag h i j) some (set h (i * 64 + j) false) h (i * 64 + j) (get_or-set_same h (i * 64 + j) false false (omega arith)) refl)
    | inr t ↦
        let n : a * 64 + b ≢ i * 64 + j =
        λ e. (let x : a ≡ i = omega arith in let y : b ≡ j = omega arith in
        T_not (joins i j (link a b)) t (joins_same (ap₂ link x y))) in
        let c = is_false {b = joins i j (link a b)} (λ u. T_not (joins i j (link a b)) t u) in
        rw c (other (flag h i j && some) some (set h (i * 64 + j) false) h (a * 64 + b)
        (get_or-set_other h (i * 64 + j) (a * 64 + b) false false n) refl)
  ]

-- ---- the flags and the list

module _ (p : Plan) (ok : WellFormed p) (d : List (List ℕ)) (r : List Bool) (known : IsTable p d) (flags : IsRequiredFlags p r) where
  record Agree (h : List Bool) (held : List Link) : Type 0 where
    pub size : length h ≡ 4096
    pub are_proper : AreProper p held
    pub each : (i j : ℕ) → i < 64 → j < 64 → flag h i j ≡ is_held held i j

  module _ (h : List Bool) (held : List Link) (g : Agree h held) (i j : ℕ) (hi : i < 64) (hj : j < 64) where
    abbrev meets : ℕ → Bool
    meets k = eqb (cell d i j) (cell d i k + cell d k j)

    abbrev splits : ℕ → Bool
    splits k = eqb (distance p i j) (distance p i k + distance p k j)

    via_same : (k : ℕ) → k < 64 → between d h i j k ≡ is_via p held (link i j) k
    unfolding is_via
    via_same k l =
        ap₂ ◌&&◌ (ap₂ ◌&&◌ (g.each i k hi l) (g.each k j l hj)) (ap₂ eqb (known i j hi hj) (ap₂ ◌+◌ (known i k hi l) (known k j l hj)))

    some_via : any_of (between d h i j) (below 64) ≡ any_of (is_via p held (link i j)) (required p)
    some_via =
        same_test (any_of (between d h i j) (below 64)) (any_of (is_via p held (link i j)) (required p))
        (λ t.
        let x = any_of_at (between d h i j) (below 64) t in
        let v = subst T (via_same x.0 (below_mem x.1)) x.2 in
        any_of_mem (is_via p held (link i j)) (via_other p held (link i j) g.are_proper (via p held (link i j) x.0 v)).0 v)
        (λ t.
        let x = any_of_at (is_via p held (link i j)) (required p) t in
        let l = required_below p ok x.1 in
        any_of_mem (between d h i j) (mem_below l) (subst⁻¹ T (via_same x.0 l) x.2))

    turn_size : length (turn_at d h i j) ≡ 4096
    unfolding turn_at
    turn_size = cond_ind (flag h i j && any_of (between d h i j) (below 64)) (set h (i * 64 + j) false) h (λ t. length t ≡ 4096)
        (λ t. length-set h (i * 64 + j) false ∙ g.size) (λ t. g.size)

    turn_agrees : Agree (turn_at d h i j) (pairs_after p held (link i j))
    turn_agrees = record {
      size = turn_size;
      are_proper = turn_proper p held (link i j) g.are_proper;
      each = λ a b ha hb.
          flags_turn d h i j a b g.size hi hj ha hb
          ∙ ap₂ (λ x y. x && not (y && joins i j (link a b))) (g.each a b ha hb) some_via
          ∙ sym (list_turn p held i j a b);
    }

  -- the pairs that it starts from
  starts : (h : List Bool) → length h ≡ 4096 → ((i j : ℕ) → i < 64 → j < 64
      → flag h i j ≡ is_pair i j (get_or r i false) (get_or r j false))
      → Agree h (proper_pairs p)
  starts h s e = record {
    size = s;
    are_proper = proper p;
    each = λ i j hi hj. e i j hi hj ∙ same_test (is_pair i j (get_or r i false) (get_or r j false)) (is_held (proper_pairs p) i j)
        (λ t.
        let a = and_parts (not (eqb i j) && get_or r i false) (get_or r j false) t in
        let b = and_parts (not (eqb i j)) (get_or r i false) a.0 in
        mem_held (proper_pairs p) i j
        (mem_proper p (flagged p ok d r known flags hi b.1) (flagged p ok d r known flags hj a.1) (eqb_other b.0)))
        (λ t.
        let m = proper p (link i j) (held_mem (proper_pairs p) i j t) in
        and_both (not (eqb i j) && get_or r i false) (get_or r j false)
        (and_both (not (eqb i j)) (get_or r i false) (not_T (eqb i j) (λ u. m.apart (eqb→eq i j u)))
        (flag_of p ok d r known flags m.tail))
        (flag_of p ok d r known flags m.head));
  }

  -- one place after the other
  module _ (h : List Bool) (held : List Link) (g : Agree h held) where
    one_more : (n : ℕ) → thinned p held (map pair_at (below (suc n))) ≡ pairs_after p (thinned p held (map pair_at (below n))) (pair_at n)
    unfolding thinned up_from
    one_more n =
        let e : suc n - n ≡ 1 = omega arith in
        ap (λ (l : List ℕ). thinned p held (map pair_at l)) (below_split n (suc n) (omega arith) ∙ ap (λ x. below n ++ up_from n x) e)
        ∙ ap (thinned p held) (map-append pair_at (below n) (n ∷ []))
        ∙ thinned_append p held (map pair_at (below n)) (pair_at n ∷ [])

    after : (n : ℕ) → n ≤ 4096 → Agree (places_thinned d h n) (thinned p held (map pair_at (below n)))
    unfolding places_thinned thinned below up_from
    after zero l = g
    after (suc n) l =
        let a : n / 64 < 64 = omega arith in
        let b : n % 64 < 64 = omega arith in
        subst⁻¹ (Agree (places_thinned d h (suc n))) (one_more n)
        (turn_agrees (places_thinned d h n) (thinned p held (map pair_at (below n))) (after n (omega arith)) (n / 64) (n % 64) a b)

  -- the run over all places is the run over the pairs
  all_places : links p ≡ thinned p (proper_pairs p) (map pair_at (below 4096))
  unfolding links proper_pairs
  all_places =
      thinned_skip p (λ l. not (eqb l.tail l.head)) (proper_pairs p) (pairs (required p))
      (λ l m. not_T (eqb l.tail l.head) (λ u. (proper p l m).apart (eqb→eq l.tail l.head u)))
      ∙ ap (λ (vs : List ℕ). thinned p (proper_pairs p) (pairs vs)) (sym (required_of_64 p ok))
      ∙ ap (thinned p (proper_pairs p)) (pairs_select (is_required p) (below 64))
      ∙ thinned_skip p (both_pass (is_required p)) (proper_pairs p) (pairs (below 64))
      (λ l m. and_both (is_required p l.tail) (is_required p l.head) (of_required p ok (proper p l m).tail)
      (of_required p ok (proper p l m).head))
      ∙ ap (thinned p (proper_pairs p)) pairs_are

  pub held_links : (h : List Bool) → length h ≡ 4096
      → ((i j : ℕ) → i < 64 → j < 64 → flag h i j ≡ is_pair i j (get_or r i false) (get_or r j false)) → (i j : ℕ) → i < 64 → j < 64
      → flag (rows_thinned d h 64) i j ≡ is_held (links p) i j
  held_links h s e i j hi hj =
      ap (λ (t : List Bool). flag t i j) (rows_places d h 64) ∙ (after h (proper_pairs p) (starts h s e) 4096 (omega arith)).each i j hi hj
      ∙ ap (λ (ls : List Link). is_held ls i j) (sym all_places)
