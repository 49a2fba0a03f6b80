-- What the search finds. A vertex that is settled keeps its distance, since every other that is settled after it is no nearer; so at the
-- end no length can be relaxed, the way on from each vertex has just its distance, and it goes by vertices settled earlier.
use Rattle.std.specs.Prelude.{◌≡◌, ◌⊎◌, ◌≢◌, Bool, not, ◌&&◌, get_or, T}
use Rattle.std.proofs.Math.Path.{refl, ap, subst⁻¹}
use Rattle.std.proofs.Common.{sym, ◌∙◌, ltb→lt, T_not, eq-eqb, ne_eqb, lt-ltb, le-ltb}
use Rattle.std.proofs.Math.Logic.{inl, inr}
use Rattle.std.proofs.Math.Bool.{cond}
use mathlib.Core.List.{List, [], ◌∷◌, Memᴰ}
use Prim.Native.Nat.{ℕ, zero, suc, ◌+◌, ◌-◌, ◌≤◌, ◌<◌, min}
use Rattle.std.proofs.Math.Decide.{ℕ_discrete, dec_le}
use native.Mathlib.Omega.{arith}
use Rattle.std.proofs.Math.ListN.{length, replicate, length-set, length-replicate}
use Rattle.std.proofs.lemmas.List.{get_or-replicate}
use Rattle.std.proofs.Math.Seq.{get_or-set_same, get_or-set_other}
use Rattle.std.proofs.Math.Dec.{ltb}
use Rattle.postman.specs.Lists.{occurrences}
use Rattle.postman.specs.Balancing.{sum_over}
use Rattle.postman.specs.Laws.Tests.{cond_ind, and_parts}
use Rattle.postman.specs.Laws.Membership.{mem_get_d}
use Rattle.postman_laws.specs.Laws.Sum.{sum_change_once, term_le, once}
use Rattle.residual_search.specs.Bounds.{AtMost}
use Rattle.residual_search.specs.Fold.{fold}
use Rattle.residual_search.specs.Search.{Found, beyond, relaxed, relax, open_distance, nearer, nearest, start, settle, round, rounds, search}
use Rattle.residual_search.specs.Laws.Fill.{zero_at}

abbrev at : List ℕ → ℕ → ℕ
at l v = get_or l v 0

-- ---- relaxation

module _ (len : ℕ → ℕ) (w base : ℕ) where
  -- r is s, relaxed at the vertices us
  pub record Relaxed (us : List ℕ) (s r : List ℕ × List ℕ) : Type 0 where
    pub long_distance : length r.0 ≡ length s.0
    pub long_next : length r.1 ≡ length s.1
    pub down : (v : ℕ) → at r.0 v ≤ at s.0 v
    pub near : (v : ℕ) → Memᴰ v us → at r.0 v ≤ base + len v
    pub from : (v : ℕ)
        → ((at r.0 v ≡ at s.0 v) × (at r.1 v ≡ at s.1 v))
        ⊎ ((at r.0 v ≡ base + len v) × (at r.1 v ≡ w) × (at r.0 v < at s.0 v))

  relaxed_one : (s : List ℕ × List ℕ) (v : ℕ) → v < length s.0 → v < length s.1 → Relaxed (v ∷ []) s (relaxed len w base s v)
  relaxed_one s v h g =
      let same-0 = get_or-set_same s.0 v (min (base + len v) (at s.0 v)) 0 h in
      let same-1 = get_or-set_same s.1 v (cond (ltb (base + len v) (at s.0 v)) w (at s.1 v)) 0 g in
      let other_0 : (i : ℕ) → i ≢ v → at (relaxed len w base s v).0 i ≡ at s.0 i =
      λ i n. get_or-set_other s.0 v i (min (base + len v) (at s.0 v)) 0 n in
      let other_1 : (i : ℕ) → i ≢ v → at (relaxed len w base s v).1 i ≡ at s.1 i =
      λ i n. get_or-set_other s.1 v i (cond (ltb (base + len v) (at s.0 v)) w (at s.1 v)) 0 n in
      record {
        long_distance = length-set s.0 v _;
        long_next = length-set s.1 v _;
        down = λ i. elim (ℕ_discrete i v) [
          | yes e ↦ let p = ap (at (relaxed len w base s v).0) e in let q = ap (at s.0) e in omega arith
          | no n ↦ let o = other_0 i n in omega arith
        ];
        near = λ i m. elim (mathlib.Core.List.Memᴰ.cases_cons m) [
          | inl e ↦ let p = ap (at (relaxed len w base s v).0) e in let q = ap len e in omega arith
          | inr k ↦ absurd (mathlib.Core.List.Memᴰ.not-nil k)
        ];
        from = λ i. elim (ℕ_discrete i v) [
          | yes e ↦ subst⁻¹
              (λ k. ((at (relaxed len w base s v).0 k ≡ at s.0 k) × (at (relaxed len w base s v).1 k ≡ at s.1 k))
              ⊎ ((at (relaxed len w base s v).0 k ≡ base + len k) × (at (relaxed len w base s v).1 k ≡ w)
              × (at (relaxed len w base s v).0 k < at s.0 k))) e
              (elim (dec_le (at s.0 v) (base + len v)) [
                | yes l ↦ inl (omega arith, same-1 ∙ ap (λ (b : Bool). cond b w (at s.1 v)) (le-ltb (base + len v) (at s.0 v) l))
                | no l ↦ inr (
                  omega arith,
                  same-1
                      ∙ ap (λ (b : Bool). cond b w (at s.1 v)) (lt-ltb (base + len v) (at s.0 v) (omega arith)),
                  omega arith,
                )
              ])
          | no n ↦ inl (other_0 i n, other_1 i n)
        ];
      }

  relaxed_all : (us : List ℕ) (s : List ℕ × List ℕ) → ((v : ℕ) → Memᴰ v us → (v < length s.0) × (v < length s.1))
      → Relaxed us s (fold (relaxed len w base) s us)
  unfolding fold
  relaxed_all [] s h = record {
    long_distance = refl;
    long_next = refl;
    down = λ v. omega arith;
    near = λ v m. absurd (mathlib.Core.List.Memᴰ.not-nil m);
    from = λ v. inl (refl, refl);
  }
  relaxed_all (u ∷ us) s h =
      let one = relaxed_one s u (h u (mathlib.Core.List.Memᴰ.head refl)).0 (h u (mathlib.Core.List.Memᴰ.head refl)).1 in
      let rest = relaxed_all us (relaxed len w base s u)
      (λ v m. let k = h v (mathlib.Core.List.Memᴰ.tail m) in let a = one.long_distance in let b = one.long_next in
      (omega (arith, k.0), omega (arith, k.1))) in
      record {
        long_distance = rest.long_distance ∙ one.long_distance;
        long_next = rest.long_next ∙ one.long_next;
        down = λ v. let a = rest.down v in let b = one.down v in omega arith;
        near = λ v m. elim (mathlib.Core.List.Memᴰ.cases_cons m) [
          | inl e ↦ let a = rest.down v in let b = one.near v (mathlib.Core.List.Memᴰ.head e) in omega arith
          | inr n ↦ rest.near v n
        ];
        from = λ v. elim (rest.from v) [
          | inl p ↦ elim (one.from v) [
            | inl q ↦ inl (p.0 ∙ q.0, p.1 ∙ q.1)
            | inr q ↦ let l = q.2 in let e = p.0 in inr (p.0 ∙ q.0, p.1 ∙ q.1, omega arith)
          ]
          | inr p ↦ let a = one.down v in let l = p.2 in inr (p.0, p.1, omega arith)
        ];
      }

-- ---- the nearest vertex that is not settled

module _ (distance rank : List ℕ) where
  abbrev key : ℕ → ℕ
  key v = open_distance distance rank v

  nearest_low : (us : List ℕ) (s : ℕ × ℕ)
      → ((fold (nearer distance rank) s us).1 ≤ s.1) × ((v : ℕ) → Memᴰ v us → (fold (nearer distance rank) s us).1 ≤ key v)
  unfolding fold
  nearest_low [] s = (omega arith, λ v m. absurd (mathlib.Core.List.Memᴰ.not-nil m))
  nearest_low (u ∷ us) s =
      let r = nearest_low us (nearer distance rank s u) in
      let a = r.0 in (
        omega arith,
        λ v m. elim (mathlib.Core.List.Memᴰ.cases_cons m) [
          | inl e ↦ let q = ap key e in omega arith
          | inr n ↦ r.1 v n
        ],
      )

  -- what the search for the nearest comes to: the vertex that it started with, or one of the list, with its distance
  abbrev Comes : List ℕ → ℕ → ℕ × ℕ → Type 0
  Comes us g r = ((r.0 ≡ g) ⊎ Memᴰ r.0 us) × (key r.0 ≡ r.1)

  nearest_at : (us : List ℕ) (g low : ℕ) → key g ≡ low → Comes us g (fold (nearer distance rank) (g, low) us)
  unfolding fold
  nearest_at [] g low e = (inl refl, e)
  nearest_at (u ∷ us) g low e = elim (dec_le low (key u)) [
    | yes l ↦
        let c = ap (λ (b : Bool). cond b u g) (le-ltb (key u) low l) in
        let r = nearest_at us (cond (ltb (key u) low) u g) (min (key u) low) (let k = ap key c in omega arith) in (
          elim r.0 [ inl p ↦ inl (p ∙ c) | inr m ↦ inr (mathlib.Core.List.Memᴰ.tail m) ],
          r.1,
        )
    | no l ↦
        let c = ap (λ (b : Bool). cond b u g) (lt-ltb (key u) low (omega arith)) in
        let r = nearest_at us (cond (ltb (key u) low) u g) (min (key u) low) (let k = ap key c in omega arith) in (
          elim r.0 [ inl p ↦ inr (mathlib.Core.List.Memᴰ.head (p ∙ c)) | inr m ↦ inr (mathlib.Core.List.Memᴰ.tail m) ],
          r.1,
        )
  ]

pub nearest_small : (vs : List ℕ) (goal : ℕ) (distance rank : List ℕ) → goal < 64 → AtMost 63 vs → nearest vs goal distance rank < 64
unfolding nearest
nearest_small vs goal distance rank h b = elim (nearest_at distance rank vs goal (open_distance distance rank goal) refl).0 [
  | inl e ↦ omega arith
  | inr m ↦ let r = mem_get_d 0 m in let a = b r.0 in let e = r.2 in omega arith
]

-- ---- what holds after each round

-- what the search asks of its lengths and vertices
pub record Ground (ℓ : ℕ → ℕ → ℕ) (vs : List ℕ) (t : ℕ) : Type 0 where
  pub once : (i : ℕ) → occurrences i vs ≤ 1
  pub small : (i : ℕ) → Memᴰ i vs → i < 64
  pub target : Memᴰ t vs
  pub short : (i j : ℕ) → Memᴰ i vs → Memᴰ j vs → ℓ i j < beyond
  pub still : ℓ t t ≡ 0

-- k vertices are settled
pub record Searching (ℓ : ℕ → ℕ → ℕ) (vs : List ℕ) (t k : ℕ) (s : Found) : Type 0 where
  pub long_distance : length s.distance ≡ 64
  pub long_next : length s.next ≡ 64
  pub long_rank : length s.rank ≡ 64
  pub zero : at s.distance t ≡ 0
  pub first : 0 < at s.rank t
  pub near : (i j : ℕ) → Memᴰ i vs → Memᴰ j vs → 0 < at s.rank i → at s.distance j ≤ at s.distance i + ℓ j i
  pub ahead : (i j : ℕ) → Memᴰ i vs → Memᴰ j vs → 0 < at s.rank i → at s.rank j ≡ 0
      → at s.distance i ≤ at s.distance j
  pub sorted : (i j : ℕ) → Memᴰ i vs → Memᴰ j vs → 0 < at s.rank i → at s.rank i ≤ at s.rank j
      → at s.distance i ≤ at s.distance j
  pub onward : (v : ℕ) → Memᴰ v vs → Memᴰ (at s.next v) vs
  pub inside : (v : ℕ) → at s.next v ≤ 63
  pub reached : (v : ℕ) → Memᴰ v vs → 0 < at s.rank (at s.next v)
  pub edge : (v : ℕ) → Memᴰ v vs → at s.distance v ≡ at s.distance (at s.next v) + ℓ v (at s.next v)
  pub order : (v : ℕ) → Memᴰ v vs → 0 < at s.rank v → v ≢ t → at s.rank (at s.next v) < at s.rank v
  pub recent : (v : ℕ) → at s.rank v ≤ k
  pub low : (v : ℕ) → Memᴰ v vs → at s.distance v < beyond
  pub left : sum_over vs (λ v. 1 - at s.rank v) + k ≡ length vs

module _ (ℓ : ℕ → ℕ → ℕ) (vs : List ℕ) (t : ℕ) (ground : Ground ℓ vs t) where
  module _ (k w : ℕ) (s : Found) (before : Searching ℓ vs t k s) (member : Memᴰ w vs) (fresh : at s.rank w ≡ 0)
      (least : (v : ℕ) → Memᴰ v vs → at s.rank v ≡ 0 → at s.distance w ≤ at s.distance v) where
    abbrev after : Found
    after = settle ℓ vs t (k + 1) w s

    pub change : Relaxed (λ v. ℓ v w) w (at s.distance w) vs (s.distance, s.next) (after.distance, after.next)
    unfolding settle relax
    change = relaxed_all (λ v. ℓ v w) w (at s.distance w) vs (s.distance, s.next)
        (λ v m. let a = ground.small v m in let b = before.long_distance in let c = before.long_next in (omega arith, omega arith))

    pub rank_here : at after.rank w ≡ k + 1
    unfolding settle
    rank_here = get_or-set_same s.rank w (k + 1) 0 (let a = ground.small w member in let b = before.long_rank in omega arith)

    pub rank_other : (i : ℕ) → i ≢ w → at after.rank i ≡ at s.rank i
    unfolding settle
    rank_other i n = get_or-set_other s.rank w i (k + 1) 0 n

    rank_long : length after.rank ≡ 64
    unfolding settle
    rank_long = length-set s.rank w (k + 1) ∙ before.long_rank

    -- what is settled stays as it is
    pub keep : (i : ℕ) → Memᴰ i vs → 0 < at after.rank i
        → (at after.distance i ≡ at s.distance i) × (at after.next i ≡ at s.next i)
    keep i m h = elim (change.from i) [
      | inl p ↦ p
      | inr p ↦
          let e = p.0 in
          let l = p.2 in
          elim (ℕ_discrete i w) [
            | yes q ↦ let a = ap (at s.distance) q in absurd (omega arith)
            | no q ↦ let r = rank_other i q in let a = before.ahead i w m member (omega arith) fresh in absurd (omega arith)
          ]
    ]

    -- a vertex settled now is w, or was settled before
    was : (i : ℕ) → 0 < at after.rank i → (i ≡ w) ⊎ ((i ≢ w) × (0 < at s.rank i))
    was i h = elim (ℕ_discrete i w) [ yes e ↦ inl e | no n ↦ let r = rank_other i n in inr (n, omega arith) ]

    still : (i : ℕ) → 0 < at s.rank i → (i ≢ w) × (at after.rank i ≡ at s.rank i)
    still i h =
        let n : i ≢ w = λ e. let r = ap (at s.rank) e in omega arith in
        (n, rank_other i n)

    settled_next : (v : ℕ) → Memᴰ v vs
        → (Memᴰ (at after.next v) vs) × (0 < at after.rank (at after.next v))
        × (at after.distance v ≡ at after.distance (at after.next v) + ℓ v (at after.next v))
    settled_next v m = elim (change.from v) [
      | inl p ↦
          let n = at s.next v in
          let mn : Memᴰ (at s.next v) vs = before.onward v m in
          let h = before.reached v m in
          let q = still (at s.next v) h in
          let r = q.1 in
          let l : 0 < at after.rank (at s.next v) = omega arith in
          let e = before.edge v m in
          let a = p.0 in
          let b = (keep (at s.next v) mn l).0 in
          subst⁻¹ (λ n. (Memᴰ n vs) × (0 < at after.rank n) × (at after.distance v ≡ at after.distance n + ℓ v n)) p.1
          (mn, l, omega arith)
      | inr p ↦
          let r = rank_here in
          let a = p.0 in
          let l : 0 < at after.rank w = omega arith in
          let b = (keep w member l).0 in
          subst⁻¹ (λ n. (Memᴰ n vs) × (0 < at after.rank n) × (at after.distance v ≡ at after.distance n + ℓ v n)) p.1
          (member, l, omega arith)
    ]

    pub settle_step : Searching ℓ vs t (k + 1) after
    settle_step = record {
      long_distance = change.long_distance ∙ before.long_distance;
      long_next = change.long_next ∙ before.long_next;
      long_rank = rank_long;
      zero = let r = (still t before.first).1 in let f = before.first in (keep t ground.target (omega arith)).0 ∙ before.zero;
      first = let r = (still t before.first).1 in let f = before.first in omega arith;
      near = near';
      ahead = ahead';
      sorted = sorted';
      onward = λ v m. (settled_next v m).0;
      inside = λ v. elim (change.from v) [
        | inl p ↦ (let e = p.1 in let a = before.inside v in omega arith)
        | inr p ↦ (let e = p.1 in let a = ground.small w member in omega arith)
      ];
      reached = λ v m. (settled_next v m).1;
      edge = λ v m. (settled_next v m).2;
      order = order';
      recent = λ v. elim (ℕ_discrete v w) [
        | yes e ↦ let a = ap (at after.rank) e in let r = rank_here in omega arith
        | no n ↦ let a = rank_other v n in let b = before.recent v in omega arith
      ];
      low = λ v m. let a = change.down v in let b = before.low v m in omega arith;
      left = left';
    }
      where
        near' : (i j : ℕ) → Memᴰ i vs → Memᴰ j vs → 0 < at after.rank i
            → at after.distance j ≤ at after.distance i + ℓ j i
        near' i j m n h =
            let a = (keep i m h).0 in
            let c = change.near j n in
            let e = change.down j in
            elim (was i h) [
              | inl q ↦ let b = ap (at s.distance) q in let l = ap (ℓ j) q in omega arith
              | inr q ↦ let b = before.near i j m n q.1 in omega arith
            ]

        ahead' : (i j : ℕ) → Memᴰ i vs → Memᴰ j vs → 0 < at after.rank i → at after.rank j ≡ 0
            → at after.distance i ≤ at after.distance j
        ahead' i j m n h g =
            let a = (keep i m h).0 in
            let other : j ≢ w = λ e. let r = ap (at after.rank) e in let r' = rank_here in omega arith in
            let o = rank_other j other in
            let lj = least j n (omega arith) in
            let z : at s.distance i ≤ at s.distance w = elim (was i h) [
              | inl q ↦ (let b = ap (at s.distance) q in omega arith)
              | inr q ↦ before.ahead i w m member q.1 fresh
            ] in
            elim (change.from j) [
              | inl p ↦ let e = p.0 in omega arith
              | inr p ↦ let e = p.0 in omega arith
            ]

        sorted' : (i j : ℕ) → Memᴰ i vs → Memᴰ j vs → 0 < at after.rank i → at after.rank i ≤ at after.rank j
            → at after.distance i ≤ at after.distance j
        sorted' i j m n h l =
            let a = (keep i m h).0 in
            let b = (keep j n (omega arith)).0 in
            let here = rank_here in
            elim (was i h) [
              | inl q ↦ elim (was j (omega arith)) [
                | inl q' ↦ let e = ap (at s.distance) (q ∙ sym q') in omega arith
                | inr q' ↦ let e = ap (at after.rank) q in let o = rank_other j q'.0 in let z = before.recent j in
                    absurd (omega arith)
              ]
              | inr q ↦ elim (was j (omega arith)) [
                | inl q' ↦ let e = ap (at s.distance) q' in let z = before.ahead i w m member q.1 fresh in omega arith
                | inr q' ↦ let e = rank_other i q.0 in let o = rank_other j q'.0 in
                    let z = before.sorted i j m n q.1 (omega arith) in omega arith
              ]
            ]

        order' : (v : ℕ) → Memᴰ v vs → 0 < at after.rank v → v ≢ t → at after.rank (at after.next v) < at after.rank v
        order' v m h n =
            let e = (keep v m h).1 in
            let g = before.reached v m in
            let o = (still (at s.next v) g).1 in
            let b = before.recent (at s.next v) in
            let c = ap (at after.rank) e in
            elim (was v h) [
              | inl q ↦ let r = rank_here in let d = ap (at after.rank) q in omega arith
              | inr q ↦ let r = rank_other v q.0 in let d = before.order v m q.1 n in omega arith
            ]

        left' : sum_over vs (λ v. 1 - at after.rank v) + (k + 1) ≡ length vs
        left' =
            let c = sum_change_once vs (λ v. 1 - at s.rank v) (λ v. 1 - at after.rank v) w (once ground.once member)
            (λ i m n. ap (λ r. 1 - r) (rank_other i n)) in
            let l = before.left in
            let r = rank_here in
            omega arith

  -- ---- a round

  -- some vertex is not settled
  open_one : (us : List ℕ) (r : ℕ → ℕ) → 0 < sum_over us (λ v. 1 - r v) → (v : ℕ) × Memᴰ v us × (r v ≡ 0)
  unfolding sum_over
  open_one [] r h = absurd (omega arith)
  open_one (u ∷ us) r h = elim (dec_le 1 (r u)) [
    | yes l ↦ let q = open_one us r (omega arith) in (q.0, mathlib.Core.List.Memᴰ.tail q.1, q.2)
    | no l ↦ (u, mathlib.Core.List.Memᴰ.head refl, omega arith)
  ]

  key_open : (distance rank : List ℕ) (v : ℕ) → at rank v ≡ 0 → open_distance distance rank v ≡ at distance v
  key_open distance rank v e = ap (λ (b : Bool). cond b (at distance v) beyond) (eq-eqb (at rank v) 0 e)

  key_shut : (distance rank : List ℕ) (v : ℕ) → 0 < at rank v → open_distance distance rank v ≡ beyond
  key_shut distance rank v h = ap (λ (b : Bool). cond b (at distance v) beyond) (ne_eqb (at rank v) 0 (λ e. omega arith))

  -- the nearest vertex is not settled, and no other such is nearer
  pub nearest_holds : (goal k : ℕ) (s : Found) → Memᴰ goal vs → Searching ℓ vs t k s → k < length vs
      → Memᴰ (nearest vs goal s.distance s.rank) vs × (at s.rank (nearest vs goal s.distance s.rank) ≡ 0)
      × ((v : ℕ) → Memᴰ v vs → at s.rank v ≡ 0 → at s.distance (nearest vs goal s.distance s.rank) ≤ at s.distance v)
  unfolding nearest
  nearest_holds goal k s aim h l =
      let o = open_one vs (at s.rank) (let e = h.left in omega arith) in
      let r = fold (nearer s.distance s.rank) (goal, open_distance s.distance s.rank goal) vs in
      let low = (nearest_low s.distance s.rank vs (goal, open_distance s.distance s.rank goal)).1 in
      let a = low o.0 o.1 in
      let b = key_open s.distance s.rank o.0 o.2 in
      let c = h.low o.0 o.1 in
      let p = nearest_at s.distance s.rank vs goal (open_distance s.distance s.rank goal) refl in
      let q = p.1 in
      elim (dec_le 1 (at s.rank r.0)) [
        | yes g ↦ let e = key_shut s.distance s.rank r.0 g in absurd (omega arith)
        | no g ↦
            let z : at s.rank r.0 ≡ 0 = omega arith in
            let e = key_open s.distance s.rank r.0 z in (
              elim p.0 [ inl e ↦ subst⁻¹ (λ v. Memᴰ v vs) e aim | inr m ↦ m ],
              z,
              λ v m n. let x = low v m in let y = key_open s.distance s.rank v n in omega arith,
            )
      ]

  pub round_step : (goal k : ℕ) (s : Found) → Memᴰ goal vs → Searching ℓ vs t k s → k < length vs
      → Searching ℓ vs t (k + 1) (round ℓ vs t goal k s)
  unfolding round
  round_step goal k s aim h l = let n = nearest_holds goal k s aim h l in
      settle_step k (nearest vs goal s.distance s.rank) s h n.0 n.1 n.2

  -- ---- the start

  pub some_vertex : {us : List ℕ} → Memᴰ t us → 0 < length us
  some_vertex (mathlib.Core.List.Memᴰ.head e) = omega arith
  some_vertex (mathlib.Core.List.Memᴰ.tail m) = omega arith

  all_open : (us : List ℕ) (r : ℕ → ℕ) → ((v : ℕ) → r v ≡ 0) → sum_over us (λ v. 1 - r v) ≡ length us
  unfolding sum_over
  all_open [] r h = refl
  all_open (u ∷ us) r h = let a = all_open us r h in let b = h u in omega arith

  start_change : Relaxed (λ v. ℓ v t) t 0 vs (replicate 64 beyond, replicate 64 t) ((start ℓ vs t).distance, (start ℓ vs t).next)
  unfolding start relax
  start_change = relaxed_all (λ v. ℓ v t) t 0 vs (replicate 64 beyond, replicate 64 t)
      (λ v m. let a = ground.small v m in let b = length-replicate 64 beyond in let c = length-replicate 64 t in
      (omega arith, omega arith))

  start_at : (v : ℕ) → Memᴰ v vs → (at (start ℓ vs t).distance v ≡ ℓ v t) × (at (start ℓ vs t).next v ≡ t)
  start_at v m = elim (start_change.from v) [
    | inl p ↦
        let a = get_or-replicate 64 v beyond 0 (ground.small v m) in
        let b = p.0 in
        let c = start_change.near v m in
        let d = ground.short v t m ground.target in
        absurd (omega arith)
    | inr p ↦ let a = p.0 in (omega arith, p.1)
  ]

  pub start_here : at (start ℓ vs t).rank t ≡ 1
  unfolding start
  start_here =
      get_or-set_same (replicate 64 0) t 1 0
      (let a = ground.small t ground.target in let b = length-replicate {A = ℕ} 64 0 in omega arith)

  pub start_other : (v : ℕ) → v ≢ t → at (start ℓ vs t).rank v ≡ 0
  unfolding start
  start_other v n = get_or-set_other (replicate 64 0) t v 1 0 n ∙ zero_at 64 v 0

  only : (v : ℕ) → 0 < at (start ℓ vs t).rank v → v ≡ t
  only v h = elim (ℕ_discrete v t) [ yes e ↦ e | no n ↦ let a = start_other v n in absurd (omega arith) ]

  start_long : length (start ℓ vs t).rank ≡ 64
  unfolding start
  start_long = length-set (replicate 64 0) t 1 ∙ length-replicate {A = ℕ} 64 0

  start_zero : at (start ℓ vs t).distance t ≡ 0
  start_zero = (start_at t ground.target).0 ∙ ground.still

  start_small : (n v : ℕ) → at (replicate n t) v ≤ 63
  start_small zero v = omega arith
  start_small (suc n) zero = let a = ground.small t ground.target in omega arith
  start_small (suc n) (suc v) = start_small n v

  pub start_holds : Searching ℓ vs t 1 (start ℓ vs t)
  start_holds = record {
    long_distance = start_change.long_distance ∙ length-replicate 64 beyond;
    long_next = start_change.long_next ∙ length-replicate 64 t;
    long_rank = start_long;
    zero = start_zero;
    first = let a = start_here in omega arith;
    near = λ i j m n h. (let e = only i h in let a = (start_at j n).0 in let b = ap (ℓ j) e in omega arith);
    ahead = λ i j m n h g. (let e = ap (at (start ℓ vs t).distance) (only i h) in let z = start_zero in omega arith);
    sorted = λ i j m n h g. (let e = ap (at (start ℓ vs t).distance) (only i h) in let z = start_zero in omega arith);
    onward = λ v m. subst⁻¹ (λ x. Memᴰ x vs) (start_at v m).1 ground.target;
    inside = λ v. elim (start_change.from v) [
      | inl p ↦ (let e = p.1 in let a = start_small 64 v in omega arith)
      | inr p ↦ (let e = p.1 in let a = ground.small t ground.target in omega arith)
    ];
    reached = λ v m. (let e = ap (at (start ℓ vs t).rank) (start_at v m).1 in let a = start_here in omega arith);
    edge = λ v m. (
        let n = (start_at v m).1 in
        let a = (start_at v m).0 in
        let b = ap (at (start ℓ vs t).distance) n in
        let c = ap (ℓ v) n in
        let z = start_zero in
        omega arith);
    order = λ v m h n. absurd (n (only v h));
    recent = λ v. elim (ℕ_discrete v t) [
      | yes e ↦ let a = ap (at (start ℓ vs t).rank) e in let b = start_here in omega arith
      | no n ↦ let a = start_other v n in omega arith
    ];
    low = λ v m. (let a = (start_at v m).0 in let b = ground.short v t m ground.target in omega arith);
    left =
        let a = all_open vs (at (replicate 64 0)) (λ v. zero_at 64 v 0) in
        let c = sum_change_once vs (λ v. 1 - at (replicate 64 0) v) (λ v. 1 - at (start ℓ vs t).rank v) t
        (once ground.once ground.target)
        (λ i m n. ap (λ r. 1 - r) (start_other i n ∙ sym (zero_at 64 i 0))) in
        let h = start_here in
        let z = zero_at {A = ℕ} 64 t 0 in
        omega arith;
  }

  -- ---- the search

  module _ (whole : Bool) (goal : ℕ) (aim : Memᴰ goal vs) where
    -- the goal is settled, unless the search is to be whole
    abbrev Done : Found → Type 0
    Done s = T (not whole && ltb 0 (at s.rank goal))

    rounds_hold : (n k : ℕ) (s : Found) → n + k ≡ length vs → Searching ℓ vs t k s
        → (k' : ℕ) × Searching ℓ vs t k' (rounds ℓ vs t whole goal n k s) × (Done (rounds ℓ vs t whole goal n k s) ⊎ (k' ≡ length vs))
    unfolding rounds
    rounds_hold zero k s e h = (k, h, inr (omega arith))
    rounds_hold (suc n) k s e h =
        cond_ind (not whole && ltb 0 (at s.rank goal)) s (rounds ℓ vs t whole goal n (k + 1) (round ℓ vs t goal k s))
        (λ r. (k' : ℕ) × Searching ℓ vs t k' r × (Done r ⊎ (k' ≡ length vs)))
        (λ y. (k, h, inl y))
        (λ y. rounds_hold n (k + 1) (round ℓ vs t goal k s) (omega arith) (round_step goal k s aim h (omega arith)))

    abbrev result : Found
    result = search ℓ vs t whole goal

    search_rounds : (k : ℕ) × Searching ℓ vs t k result × (Done result ⊎ (k ≡ length vs))
    unfolding search
    search_rounds = rounds_hold (length vs - 1) 1 (start ℓ vs t) (let h = some_vertex ground.target in omega arith) start_holds

    -- what the search comes to
    pub searched : (k : ℕ) × Searching ℓ vs t k (search ℓ vs t whole goal)
    searched = (search_rounds.0, search_rounds.1)

    all_settled : search_rounds.0 ≡ length vs → (v : ℕ) → Memᴰ v vs → 0 < at result.rank v
    all_settled e v m =
        let l = search_rounds.1.left in
        let a = term_le (λ v. 1 - at result.rank v) m in
        omega arith

    -- the goal is settled
    pub goal_settled : 0 < at (search ℓ vs t whole goal).rank goal
    goal_settled = elim search_rounds.2 [
      | inl y ↦ ltb→lt 0 (at result.rank goal) (and_parts (not whole) (ltb 0 (at result.rank goal)) y).1
      | inr e ↦ all_settled e goal aim
    ]

    -- and every vertex is, where the search is whole
    pub whole_settled : T whole → (v : ℕ) → Memᴰ v vs → 0 < at (search ℓ vs t whole goal).rank v
    whole_settled w v m = elim search_rounds.2 [
      | inl y ↦ absurd (T_not whole (and_parts (not whole) (ltb 0 (at result.rank goal)) y).0 w)
      | inr e ↦ all_settled e v m
    ]
