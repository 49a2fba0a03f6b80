-- All components are reached exactly when one source can be chosen for each so that going back arrives at component 0. A component q that
-- arrives in r steps is reached by r sweeps. Conversely each component that is reached takes the source over which it was reached first.
use Rattle.std.specs.Prelude.{◌≡◌, ◌⊎◌, ◌≢◌, cond, T}
use Rattle.std.proofs.Math.Path.{refl, ap, ap₂, subst, subst⁻¹}
use Rattle.std.proofs.Common.{sym, ◌∙◌, T_not}
use Rattle.std.proofs.Math.Logic.{inl, inr}
use Prim.Native.Nat.{ℕ, zero, suc, ◌-◌, ◌^◌, ◌≤◌, ◌<◌}
use Rattle.std.proofs.Math.Nat.{pow-suc}
use Rattle.std.proofs.Math.Decide.{ℕ_discrete, dec_le}
use native.Mathlib.Omega.{arith}
use Rattle.std.specs.Int.Bits.{bit_and, bit_or}
use Rattle.std.proofs.lemmas.Nat.{or_lt}
use Rattle.std.proofs.Math.Pow.{pow_pos, pow-lt}
use Rattle.std.proofs.Math.Dec.{eqb, eqb→eq, eqb_refl}
use Rattle.postman.specs.Lists.{iterate}
use Rattle.postman.specs.Laws.Tests.{cond_ind, eqb_same, eqb_other}
use Rattle.arborescence.specs.BitSet.{bit, Has, bit_le, has?, bit_or_lem, has_single, single_has, meet, meet_of, has_lt, all_has, has_all}
use Rattle.arborescence.specs.Reach.{enter, sweep, sweeps, reaches_all}

-- ---- what entering does

pub or_left : (a b x : ℕ) → Has a x → Has (bit_or a b) x
or_left a b x h = let e = bit_or_lem a b x in let l = bit_le b x in omega arith

pub or_right : (a b x : ℕ) → Has b x → Has (bit_or a b) x
or_right a b x h = let e = bit_or_lem a b x in let l = bit_le a x in omega arith

pub or_has : (a b x : ℕ) → Has (bit_or a b) x → Has a x ⊎ Has b x
or_has a b x h = elim (has? a x) [
  | inl y ↦ inl y
  | inr n ↦ let e = bit_or_lem a b x in let l = bit_le b x in inr (omega arith)
]

enter_keeps : (m i s x : ℕ) → Has s x → Has (enter m i s) x
unfolding enter
enter_keeps m i s x h = cond_ind (eqb (bit_and s m) 0) s (bit_or s (2 ^ i)) (λ r. Has r x) (λ t. h) (λ t. or_left s (2 ^ i) x h)

enter_at : (m i s y : ℕ) → Has s y → Has m y → Has (enter m i s) i
unfolding enter
enter_at m i s y hs hm =
    cond_ind (eqb (bit_and s m) 0) s (bit_or s (2 ^ i)) (λ r. Has r i) (λ t. absurd (meet_of s m y hs hm (eqb→eq (bit_and s m) 0 t)))
    (λ t. or_right s (2 ^ i) i (has_single i))

-- what is in it was there, or is i, with a source that was there
enter_has : (m i s x : ℕ) → Has (enter m i s) x → Has s x ⊎ ((x ≡ i) × ((y : ℕ) × Has s y × Has m y))
unfolding enter
enter_has m i s x =
    cond_ind (eqb (bit_and s m) 0) s (bit_or s (2 ^ i)) (λ r. Has r x → Has s x ⊎ ((x ≡ i) × ((y : ℕ) × Has s y × Has m y))) (λ t h. inl h)
    (λ t h. elim (or_has s (2 ^ i) x h) [ inl a ↦ inl a | inr b ↦ inr (single_has i x b, meet s m (eqb_other t)) ])

enter_lt : (k m i s : ℕ) → s < 2 ^ k → i < k → enter m i s < 2 ^ k
unfolding enter
enter_lt k m i s l h = cond_ind (eqb (bit_and s m) 0) s (bit_or s (2 ^ i)) (λ r. r < 2 ^ k) (λ t. l) (λ t. or_lt k s (2 ^ i) l (pow-lt h))

-- two step functions that agree where the steps stay
pub same_steps : (P : ℕ → Type 0) (f f' : ℕ → ℕ) → ((x : ℕ) → P x → P (f x)) → ((x : ℕ) → P x → f' x ≡ f x) → (m x : ℕ) → P x
    → iterate m f' x ≡ iterate m f x
unfolding iterate
same_steps P f f' i e zero x h = refl
same_steps P f f' i e (suc m) x h = ap (iterate m f') (e x h) ∙ same_steps P f f' i e m (f x) (i x h)

module _ (g : ℕ → ℕ) where
  pub sweep_keeps : (n s x : ℕ) → Has s x → Has (sweep g n s) x
  unfolding sweep
  sweep_keeps zero s x h = h
  sweep_keeps (suc n) s x h = enter_keeps (g (suc n)) (suc n) (sweep g n s) x (sweep_keeps n s x h)

  sweep_at : (n s q y : ℕ) → 1 ≤ q → q ≤ n → Has s y → Has (g q) y → Has (sweep g n s) q
  unfolding sweep
  sweep_at zero s q y l h hs hg = absurd (omega arith)
  sweep_at (suc n) s q y l h hs hg = elim (dec_le q n) [
    | yes b ↦ enter_keeps (g (suc n)) (suc n) (sweep g n s) q (sweep_at n s q y l b hs hg)
    | no b ↦
        let e : suc n ≡ q = omega arith in
        subst (Has (sweep g (suc n) s)) e
        (enter_at (g (suc n)) (suc n) (sweep g n s) y (sweep_keeps n s y hs) (subst⁻¹ (λ z. Has (g z) y) e hg))
  ]

  pub sweep_lt : (k n s : ℕ) → n < k → s < 2 ^ k → sweep g n s < 2 ^ k
  unfolding sweep
  sweep_lt k zero s h l = l
  sweep_lt k (suc n) s h l = enter_lt k (g (suc n)) (suc n) (sweep g n s) (sweep_lt k n s (omega arith) l) h

  sweeps_lt : (k n r : ℕ) → n < k → sweeps g n r < 2 ^ k
  unfolding sweeps
  sweeps_lt zero n r h = absurd (omega arith)
  sweeps_lt (suc k) n zero h = let e = pow-suc 2 k in let p = pow_pos k in omega arith
  sweeps_lt (suc k) n (suc r) h = sweep_lt (suc k) n (sweeps g n r) h (sweeps_lt (suc k) n r h)

  -- ---- what arrives is reached

  module _ (n : ℕ) (f : ℕ → ℕ) (inside : (q : ℕ) → q ≤ n → f q ≤ n) (source : (q : ℕ) → 1 ≤ q → q ≤ n → Has (g q) (f q)) where
    pub arrives_reached : (r q : ℕ) → q ≤ n → iterate r f q ≡ 0 → Has (sweeps g n r) q
    unfolding iterate sweeps bit
    arrives_reached zero q l h = rw h
    arrives_reached (suc r) zero l h = sweep_keeps n (sweeps g n r) 0 (start r)
      where
        start : (r : ℕ) → Has (sweeps g n r) 0
        start zero = refl
        start (suc r) = sweep_keeps n (sweeps g n r) 0 (start r)
    arrives_reached (suc r) (suc q) l h =
        sweep_at n (sweeps g n r) (suc q) (f (suc q)) (omega arith) l (arrives_reached r (f (suc q)) (inside (suc q) l) h)
        (source (suc q) (omega arith) l)

  -- ---- what is reached arrives

  pub record Grown (s : ℕ) (f : ℕ → ℕ) : Type 0 where
    pub root : f 0 ≡ 0
    pub source : (x : ℕ) → Has s x → x ≢ 0 → Has (g x) (f x)
    pub inside : (x : ℕ) → Has s x → Has s (f x)
    pub back : (x : ℕ) → Has s x → (m : ℕ) × (iterate m f x ≡ 0)

  update : (ℕ → ℕ) → ℕ → ℕ → ℕ → ℕ
  update f i y x = cond (eqb x i) y (f x)

  update_at : (f : ℕ → ℕ) (i y : ℕ) → update f i y i ≡ y
  unfolding update
  update_at f i y = cond_ind (eqb i i) y (f i) (λ z. z ≡ y) (λ t. refl) (λ t. absurd (T_not (eqb i i) t (eqb_refl i)))

  update_other : (f : ℕ → ℕ) (i y x : ℕ) → x ≢ i → update f i y x ≡ f x
  unfolding update
  update_other f i y x n = cond_ind (eqb x i) y (f x) (λ z. z ≡ f x) (λ t. absurd (n (eqb→eq x i t))) (λ t. refl)

  module _ (i : ℕ) (positive : i ≢ 0) (s : ℕ) (f : ℕ → ℕ) (b : Grown s f) where
    -- i is new: it takes the source y
    with_source : (y : ℕ) → bit s i ≡ 0 → Has s y → Has (g i) y → Grown (enter (g i) i s) (update f i y)
    unfolding iterate
    with_source y new hs hg = record {
      root = update_other f i y 0 (λ e. positive (sym e)) ∙ b.root;
      source = λ x h n. elim (enter_has (g i) i s x h) [
        | inl o ↦ subst⁻¹ (Has (g x)) (old x o) (b.source x o n)
        | inr e ↦ subst⁻¹ (λ z. Has (g z) (update f i y z)) e.0 (subst⁻¹ (Has (g i)) (update_at f i y) hg)
      ];
      inside = λ x h. elim (enter_has (g i) i s x h) [
        | inl o ↦ enter_keeps (g i) i s (update f i y x) (subst⁻¹ (Has s) (old x o) (b.inside x o))
        | inr e ↦ subst⁻¹ (λ z. Has (enter (g i) i s) (update f i y z)) e.0
            (enter_keeps (g i) i s (update f i y i) (subst⁻¹ (Has s) (update_at f i y) hs))
      ];
      back = λ x h. elim (enter_has (g i) i s x h) [
        | inl o ↦ let r = b.back x o in (r.0, steps r.0 x o ∙ r.1)
        | inr e ↦ let r = b.back y hs in (
          suc r.0,
          ap (λ z. iterate r.0 (update f i y) (update f i y z)) e.0
              ∙ ap (iterate r.0 (update f i y)) (update_at f i y) ∙ steps r.0 y hs ∙ r.1,
        )
      ];
    }
      where
        old : (x : ℕ) → Has s x → update f i y x ≡ f x
        old x o = update_other f i y x (λ e. (let z : bit s x ≡ 0 = ap (bit s) e ∙ new in omega arith))

        steps : (m x : ℕ) → Has s x → iterate m (update f i y) x ≡ iterate m f x
        steps m x o = same_steps (Has s) f (update f i y) b.inside old m x o

    -- i was there: nothing new
    no_new : Has s i → (x : ℕ) → Has (enter (g i) i s) x → Has s x
    no_new h x k = elim (enter_has (g i) i s x k) [ inl o ↦ o | inr e ↦ subst⁻¹ (Has s) e.0 h ]

    grown_enter : (f' : ℕ → ℕ) × Grown (enter (g i) i s) f'
    unfolding enter
    grown_enter = elim (has? s i) [
      | inl h ↦ (
        f,
        record {
          root = b.root;
          source = λ x k. b.source x (no_new h x k);
          inside = λ x k. enter_keeps (g i) i s (f x) (b.inside x (no_new h x k));
          back = λ x k. b.back x (no_new h x k);
        },
      )
      | inr o ↦ elim (ℕ_discrete (bit_and s (g i)) 0) [
        | yes e ↦ (
          f,
          subst⁻¹ (λ z. Grown z f)
              (cond_ind (eqb (bit_and s (g i)) 0) s (bit_or s (2 ^ i)) (λ z. z ≡ s) (λ t. refl) (λ t. absurd (eqb_other t e))) b,
        )
        | no e ↦ let r = meet s (g i) e in (update f i r.0, with_source r.0 o r.1 r.2)
      ]
    ]

  grown_sweep : (n s : ℕ) (f : ℕ → ℕ) → Grown s f → (f' : ℕ → ℕ) × Grown (sweep g n s) f'
  unfolding sweep
  grown_sweep zero s f b = (f, b)
  grown_sweep (suc n) s f b = let r = grown_sweep n s f b in grown_enter (suc n) (λ e. (omega arith)) (sweep g n s) r.0 r.1

  pub grown_sweeps : (n r : ℕ) → (f : ℕ → ℕ) × Grown (sweeps g n r) f
  unfolding sweeps iterate
  grown_sweeps n zero = (
    (λ x. 0),
    record {
      root = refl;
      source = λ x h n. absurd (n (single_has 0 x h));
      inside = λ x h. has_single 0;
      back = λ x h. (1, refl);
    },
  )
  grown_sweeps n (suc r) = let b = grown_sweeps n r in grown_sweep n (sweeps g n r) b.0 b.1

  -- ---- both ways

  -- every component is entered from one of its sources, and going back arrives at component 0
  pub record Arrives (k : ℕ) (f : ℕ → ℕ) : Type 0 where
    pub root : f 0 ≡ 0
    pub inside : (q : ℕ) → q < k → f q < k
    pub source : (q : ℕ) → 1 ≤ q → q < k → Has (g q) (f q)
    pub back : (q : ℕ) → q < k → (m : ℕ) × (iterate m f q ≡ 0)

  pub reached_arrives : (k : ℕ) → 1 ≤ k → T (reaches_all g k) → (f : ℕ → ℕ) × Arrives k f
  unfolding reaches_all
  reached_arrives k l t =
      let e = eqb→eq (sweeps g (k - 1) k) (2 ^ k - 1) t in
      let r = grown_sweeps (k - 1) k in
      let all : (x : ℕ) → x < k → Has (sweeps g (k - 1) k) x = λ x h. subst⁻¹ (λ s. Has s x) e (has_all k x h) in (
        r.0,
        record {
          root = r.1.root;
          inside = λ q h. has_lt k (sweeps g (k - 1) k) (r.0 q) (sweeps_lt k (k - 1) k (omega arith)) (r.1.inside q (all q h));
          source = λ q h h'. r.1.source q (all q h') (λ z. (omega arith));
          back = λ q h. r.1.back q (all q h);
        },
      )

  pub arrives_reaches : (k : ℕ) → 1 ≤ k → (f : ℕ → ℕ) → Arrives k f → ((q : ℕ) → q < k → iterate k f q ≡ 0) → T (reaches_all g k)
  unfolding reaches_all
  arrives_reaches k l f b h =
      eqb_same (all_has k (sweeps g (k - 1) k) (sweeps_lt k (k - 1) k (omega arith)) (λ x m.
      arrives_reached (k - 1) f (λ q c. (let i = b.inside q (omega arith) in omega arith)) (λ q c d. b.source q c (omega arith)) k x
      (omega arith) (h x m)))

-- ---- as the code has it

pub sweep_step : (g : ℕ → ℕ) (n s : ℕ) → 1 ≤ n → sweep g n s ≡ enter (g n) n (sweep g (n - 1) s)
unfolding sweep
sweep_step g zero s l = absurd (omega arith)
sweep_step g (suc n) s l = let e : suc n - 1 ≡ n = omega arith in rw e

-- only the sets of components 1 to k − 1 matter
module _ (g h : ℕ → ℕ) where
  sweep_cong : (n s : ℕ) → ((q : ℕ) → 1 ≤ q → q ≤ n → g q ≡ h q) → sweep g n s ≡ sweep h n s
  unfolding sweep
  sweep_cong zero s e = refl
  sweep_cong (suc n) s e =
      ap₂ (λ m r. enter m (suc n) r) (e (suc n) (omega arith) (omega arith)) (sweep_cong n s (λ q a b. e q a (omega arith)))

  sweeps_cong : (n r : ℕ) → ((q : ℕ) → 1 ≤ q → q ≤ n → g q ≡ h q) → sweeps g n r ≡ sweeps h n r
  unfolding sweeps
  sweeps_cong n zero e = refl
  sweeps_cong n (suc r) e = sweep_cong n (sweeps g n r) e ∙ ap (sweep h n) (sweeps_cong n r e)

  pub reaches_cong : (k : ℕ) → ((q : ℕ) → 1 ≤ q → q < k → g q ≡ h q) → reaches_all g k ≡ reaches_all h k
  unfolding reaches_all
  reaches_cong k e = ap (λ s. eqb s (2 ^ k - 1)) (sweeps_cong (k - 1) k (λ q a b. e q a (omega arith)))
