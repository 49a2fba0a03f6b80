-- The legs of an Eulerian graph make a circuit. Along the run these stay true: no leg is in the lists twice; the walk leads from leg
-- 0's tail to where it stands, and what is placed leads from some vertex back to leg 0's tail; all legs out of a placed leg's head are
-- in the lists. A walk that cannot go on stands, by balance, where the placed legs begin. At the end all is placed: else the heads of
-- the placed legs were a set that no leg leaves.
use Rattle.std.specs.Prelude.{◌≡◌, ltb}
use Rattle.std.proofs.Math.Path.{refl, sym, ap, subst⁻¹}
use Rattle.std.proofs.Common.{◌∙◌, eqb→eq, ltb→lt, nltb→le}
use Rattle.std.proofs.Math.Logic.{inl, inr}
use Rattle.std.proofs.Math.Bool.{Bool}
use mathlib.Core.List.Memᴰ
use mathlib.Core.List.{List, [], ◌∷◌, ◌++◌, map, Memᴰ, map-append}
use Prim.Native.Nat.{ℕ, zero, suc, ◌+◌, ◌-◌, ◌*◌, ◌≤◌, ◌<◌}
use Rattle.std.proofs.Math.Decide.{dec_le}
use native.Mathlib.Omega.{arith}
use Rattle.std.proofs.Math.ListN.{length, get_or}
use Rattle.std.proofs.Math.Dec.{T, eqb}
use Rattle.postman.specs.Lists.{below, any_of, delta, occurrences}
use Rattle.postman.specs.Laws.Tests.{cond_ind, eqb_same}
use Rattle.postman.specs.Laws.Membership.{any_of_mem, any_of_at, get_d_mem, below_mem, length_below}
use Rattle.postman_laws.specs.Laws.Occurrences.{delta_yes, delta_pos, occurrences_append, mem_of_occurrences, occurrences_of_mem}
use Rattle.postman_laws.specs.Laws.Lists.{by_place}
use Rattle.hierholzer.specs.Circuit.{CircuitState, next_leg, step, run, circuit}
use Rattle.hierholzer.specs.Eulerian.{Eulerian, Joined, IsCircuit}
use Rattle.hierholzer.specs.Laws.Counting.{map_le, permutation, permutation_length, mem_of_permutation, below_once, below_none, below_lt}
use Rattle.hierholzer.specs.Laws.Unused.{Tidy, tidy_length, tidy_more, Free, next_free, Spent, next_none}

-- a walk that is used up stays so
pub run_done : (tails heads : List ℕ) (n : ℕ) (d : List ℕ) → run tails heads n [] d ≡ d
unfolding run step
run_done tails heads zero d = refl
run_done tails heads (suc n) d = run_done tails heads n d

module _ (tails heads : List ℕ) where
  abbrev tail : ℕ → ℕ
  tail e = get_or tails e 0

  abbrev head : ℕ → ℕ
  head e = get_or heads e 0

  abbrev legs : List ℕ
  legs = below (length tails)

  -- ---- walks, from their last leg back

  abbrev Trail : ℕ → List ℕ → ℕ → Type 0
  Trail r [] v = r ≡ v
  Trail r (k ∷ w) v = (head k ≡ v) × Trail r w (tail k)

  trail_balance : (x r : ℕ) (w : List ℕ) (v : ℕ) → Trail r w v
      → occurrences x (map tail w) + delta x v ≡ occurrences x (map head w) + delta x r
  unfolding occurrences
  trail_balance x r [] v h = let e = ap (delta x) h in omega arith
  trail_balance x r (k ∷ w) v h = let a = trail_balance x r w (tail k) h.1 in let e = ap (delta x) h.0 in omega arith

  joined_balance : (x i : ℕ) (w : List ℕ) (j : ℕ) → Joined tails heads i w j
      → occurrences x (map tail w) + delta x j ≡ occurrences x (map head w) + delta x i
  unfolding occurrences
  joined_balance x i [] j h = let e = ap (delta x) h in omega arith
  joined_balance x i (k ∷ w) j h = let a = joined_balance x (head k) w j h.1 in let e = ap (delta x) h.0 in omega arith

  -- a walk that is not empty has a leg into its end
  last_leg : (i k : ℕ) (w : List ℕ) (j : ℕ) → Joined tails heads i (k ∷ w) j → (e : ℕ) × Memᴰ e (k ∷ w) × (head e ≡ j)
  last_leg i k [] j h = (k, Memᴰ.head refl, h.1)
  last_leg i k (l ∷ w) j h = let r = last_leg (head k) l w j h.1 in (r.0, Memᴰ.tail r.1, r.2)

  module _ (balanced : (v : ℕ) → occurrences v tails ≡ occurrences v heads) (ends : length heads ≡ length tails) where
    -- a walk that cannot go on stands where the placed legs begin
    stuck : (r b v : ℕ) (w d : List ℕ) → Tidy tails w d → Trail r w v → Joined tails heads b d r → Spent tails w d v → v ≡ b
    stuck r b v w d t h j s =
        let ts = ap (occurrences v) (map-append tail w d) ∙ occurrences_append v (map tail w) (map tail d) in
        let hs = ap (occurrences v) (map-append head w d) ∙ occurrences_append v (map head w) (map head d) in
        let out = map_le tail v legs (w ++ d) (λ k e. elim (dec_le 1 (occurrences k legs)) [
          | yes g ↦ (let l = below_lt (length tails) k g in let a = below_once (length tails) k l in let c = s k l e in
              let o = occurrences_append k w d in omega arith)
          | no g ↦ omega arith
        ]) in
        let into = map_le head v (w ++ d) legs (λ k e. let a = t k in let o = occurrences_append k w d in omega arith) in
        let a = trail_balance v r w v h in
        let c = joined_balance v b d r j in
        let one = delta_yes {i = v} refl in
        let outs = ap (occurrences v) (by_place 0 tails) in
        let ins = ap (λ n. occurrences v (map head (below n))) (sym ends) ∙ ap (occurrences v) (by_place 0 heads) in
        let e = balanced v in
        delta_pos v b (omega arith)

    module _ (r : ℕ) where
      -- the walk leads from r to where it stands, and what is placed leads from somewhere to r; if the walk is used up, from r
      abbrev Chained : List ℕ → List ℕ → Type 0
      Chained [] d = Joined tails heads r d r
      Chained (k ∷ w) d = Trail r w (tail k) × ((b : ℕ) × Joined tails heads b d r)

      -- the lowest leg of the walk, or else the first one placed
      abbrev bottom : List ℕ → List ℕ → ℕ
      bottom [] d = get_or d 0 0
      bottom (k ∷ w) d = bottom w (k ∷ d)

      bottom_same : (w : List ℕ) (k : ℕ) (c d : List ℕ) → bottom w (k ∷ c) ≡ bottom w (k ∷ d)
      bottom_same [] k c d = refl
      bottom_same (j ∷ w) k c d = bottom_same w j (k ∷ c) (k ∷ d)

      record Sound (w d : List ℕ) : Type 0 where
        tidy : Tidy tails w d
        chained : Chained w d
        spent : (k : ℕ) → Memᴰ k d → Spent tails w d (head k)
        lowest : bottom w d ≡ 0
        begun : 0 < occurrences 0 w + occurrences 0 d

      -- one leg more
      pushed : (k e : ℕ) (w d : List ℕ) → Sound (k ∷ w) d → Free tails (k ∷ w) d (head k) e → Sound (e ∷ k ∷ w) d
      unfolding occurrences
      pushed k e w d s f = record {
        tidy = tidy_more tails (k ∷ w) d (head k) e s.tidy f;
        chained = ((sym f.leaves, s.chained.0), s.chained.1);
        spent = λ x m y l o. (let a = s.spent x m y l o in omega arith);
        lowest = bottom_same w k (e ∷ d) d ∙ s.lowest;
        begun = (let a = s.begun in omega arith);
      }

      popped_chain : (k : ℕ) (w d : List ℕ) → Trail r w (tail k) → Joined tails heads (head k) d r → Chained w (k ∷ d)
      popped_chain k [] d t j = (sym t, j)
      popped_chain k (l ∷ w) d t j = (t.1, (tail k, (refl, j)))

      -- one leg placed
      popped : (k : ℕ) (w d : List ℕ) → Sound (k ∷ w) d → Spent tails (k ∷ w) d (head k) → Sound w (k ∷ d)
      unfolding occurrences
      popped k w d s n =
          let c = s.chained in
          let e = stuck r c.1.0 (head k) (k ∷ w) d s.tidy (refl, c.0) c.1.1 n in
          record {
            tidy = λ x. (let a = s.tidy x in omega arith);
            chained = popped_chain k w d c.0 (subst⁻¹ (λ z. Joined tails heads z d r) e c.1.1);
            spent = λ x m y l o. elim (Memᴰ.cases_cons m) [
              | inl i ↦ (let a = n y l (o ∙ ap head i) in omega arith)
              | inr m' ↦ (let a = s.spent x m' y l o in omega arith)
            ];
            lowest = s.lowest;
            begun = (let a = s.begun in omega arith);
          }

      step_sound : (w d : List ℕ) → Sound w d → Sound (step tails heads w d).walk (step tails heads w d).placed
      unfolding step
      step_sound [] d s = s
      step_sound (k ∷ w) d s =
          let e = next_leg tails (k ∷ w) d (head k) in
          cond_ind (ltb e (length tails)) (record { walk = e ∷ k ∷ w; placed = d }) (record { walk = w; placed = k ∷ d })
          (λ (z : CircuitState). Sound z.walk z.placed)
          (λ t. pushed k e w d s (next_free tails (k ∷ w) d (head k) (ltb→lt e (length tails) t)))
          (λ t. popped k w d s (next_none tails (k ∷ w) d (head k) (nltb→le e (length tails) t)))

      -- what is left to do, 2 for each leg not walked and 1 for each not placed, falls by 1
      step_nearer : (n k : ℕ) (w d : List ℕ) → 2 * length tails ≤ suc n + length (k ∷ w) + 2 * length d
          → 2 * length tails ≤ n + length (step tails heads (k ∷ w) d).walk + 2 * length (step tails heads (k ∷ w) d).placed
      unfolding step
      step_nearer n k w d l =
          let e = next_leg tails (k ∷ w) d (head k) in
          cond_ind (ltb e (length tails)) (record { walk = e ∷ k ∷ w; placed = d }) (record { walk = w; placed = k ∷ d })
          (λ (z : CircuitState). 2 * length tails ≤ n + length z.walk + 2 * length z.placed) (λ t. omega arith) (λ t. omega arith)

      run_sound : (n : ℕ) (w d : List ℕ) → Sound w d → 2 * length tails ≤ n + length w + 2 * length d → Sound [] (run tails heads n w d)
      unfolding run
      run_sound zero [] d s l = s
      run_sound zero (k ∷ w) d s l = let h = tidy_length tails (k ∷ w) d s.tidy in absurd (omega arith)
      run_sound (suc n) [] d s l = subst⁻¹ (Sound []) (run_done tails heads (suc n) d) s
      run_sound (suc n) (k ∷ w) d s l =
          run_sound n (step tails heads (k ∷ w) d).walk (step tails heads (k ∷ w) d).placed (step_sound (k ∷ w) d s)
          (step_nearer n k w d l)

module _ (tails heads : List ℕ) (h : Eulerian tails heads) where
  abbrev root : ℕ
  root = get_or tails 0 0

  circuit_sound : Sound tails heads h.balanced h.ends root [] (circuit tails heads)
  unfolding circuit occurrences
  circuit_sound =
      let l = h.some in
      run_sound tails heads h.balanced h.ends root (2 * length tails - 1) (0 ∷ []) []
      record {
        tidy = λ e. elim (dec_le 1 (delta e 0)) [
          | yes g ↦ (let i = delta_pos e 0 g in let b = below_once (length tails) e (omega arith) in let o = delta_yes i in omega arith)
          | no g ↦ omega arith
        ];
        chained = (refl, (root, refl));
        spent = λ k m. absurd (Memᴰ.not-nil m);
        lowest = refl;
        begun = (let o = delta_yes {i = 0} refl in omega arith);
      }
      (omega arith)

  -- every leg is placed
  circuit_whole : (e : ℕ) → e < length tails → Memᴰ e (circuit tails heads)
  unfolding occurrences
  circuit_whole e l = whole (circuit tails heads) circuit_sound e l
    where
      whole : (d : List ℕ) → Sound tails heads h.balanced h.ends root [] d → (e : ℕ) → e < length tails → Memᴰ e d
      whole [] s e l = absurd (let b = s.begun in omega arith)
      whole (k ∷ d) s e l =
          let X : ℕ → Bool = λ v. any_of (λ j. eqb (get_or heads j 0) v) (k ∷ d) in
          let z = last_leg tails heads root k d root s.chained in
          let placed : (v : ℕ) → T (X v) → (y : ℕ) → y < length tails → get_or tails y 0 ≡ v → Memᴰ y (k ∷ d)
          = λ v t y m o. (
          let x = any_of_at (λ j. eqb (get_or heads j 0) v) (k ∷ d) t in
          let n = s.spent x.0 x.1 y m (o ∙ sym (eqb→eq (get_or heads x.0 0) v x.2)) in
          mem_of_occurrences y (k ∷ d) (omega arith)) in
          let all = h.connected X (any_of_mem (λ j. eqb (get_or heads j 0) root) z.1 (eqb_same z.2))
          (λ y m t. any_of_mem (λ j. eqb (get_or heads j 0) (get_or heads y 0)) (placed (get_or tails y 0) t y m refl)
          (eqb_same {i = get_or heads y 0} refl)) in
          placed (get_or tails e 0) (all e l) e l refl

  pub is_circuit : IsCircuit tails heads (circuit tails heads)
  unfolding occurrences
  is_circuit = record {
    each_once = permutation (circuit tails heads) (below (length tails))
        (λ k. let a = circuit_sound.tidy k in elim (dec_le (length tails) k) [
          | yes g ↦ (let b = below_none (length tails) k g in omega arith)
          | no g ↦ (let b = below_once (length tails) k (omega arith) in let c = occurrences_of_mem (circuit_whole k (omega arith)) in
              omega arith)
        ]);
    closed = circuit_sound.chained;
    first = circuit_sound.lowest;
  }

  pub circuit_length : length (circuit tails heads) ≡ length tails
  circuit_length = permutation_length is_circuit.each_once ∙ length_below (length tails)

  pub circuit_below : (x : ℕ) → x < length (circuit tails heads) → get_or (circuit tails heads) x 0 < length tails
  circuit_below x l = below_mem (mem_of_permutation is_circuit.each_once (get_d_mem (circuit tails heads) 0 x l))
