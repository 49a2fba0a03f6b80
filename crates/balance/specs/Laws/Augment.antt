-- One unit more along a path. Each step adds one to what its first vertex sends on, and takes one from what its second does, so that along
-- the path only the ends are left. The path visits a vertex once, so a step finds the amounts of its pair as they were.
use Rattle.std.specs.Prelude.{◌≡◌, ◌⊎◌, ◌≢◌, Bool, cond, length, get_or, set, eqb}
use Rattle.std.proofs.Math.Path.{ap, subst⁻¹}
use Rattle.std.proofs.Common.{ap₂, ◌∙◌, inl, inr, mul-zero, mul-one, length-set, get_or-set_same, get_or-set_other, eqb→eq, lt-ltb, le-ltb}
use mathlib.Core.List.{List, Memᴰ}
use Prim.Native.Nat.{ℕ, zero, suc, ◌+◌, ◌*◌, ◌-◌, ◌≤◌, ◌<◌}
use Rattle.std.proofs.Math.Decide.{ℕ_discrete, dec_le}
use native.Mathlib.Omega.{arith}
use Rattle.postman.specs.Lists.{delta, occurrences}
use Rattle.postman.specs.Laws.Tests.{cond_ind, eqb_other}
use Rattle.postman_laws.specs.Laws.Occurrences.{delta_yes, delta_no}
use Rattle.postman_laws.specs.Laws.Sum.{sum_cong_mem, sum_change_once, once}
use Rattle.balance.specs.Optimality.{Tight, sent, received}
use Rattle.postman.specs.Steps.{amount}
use Rattle.residual_search.specs.Step.{push, augment}
use Rattle.balance.specs.Invariant.{Loopless}

module _ (vs : List ℕ) (unique : (i : ℕ) → occurrences i vs ≤ 1) (small : (i : ℕ) → Memᴰ i vs → i < 64) where
  -- ---- one amount stored

  module _ (f : List ℕ) (long : length f ≡ 4096) (a b : ℕ) (ma : Memᴰ a vs) (mb : Memᴰ b vs) (x : ℕ) where
    pub stored : amount (set f (a * 64 + b) x) a b ≡ x
    stored = get_or-set_same f (a * 64 + b) x 0 (let h = small a ma in let g = small b mb in omega arith)

    pub kept : (i j : ℕ) → Memᴰ i vs → Memᴰ j vs → ((i ≡ a) → (j ≡ b) → ⊥) → amount (set f (a * 64 + b) x) i j ≡ amount f i j
    kept i j mi mj n =
        get_or-set_other f (a * 64 + b) (i * 64 + j) x 0
        (λ e. let h = small i mi in let g = small j mj in let p = small a ma in let q = small b mb in n (omega arith) (omega arith))

    -- no amount rises where what is stored is no more than what stood there
    pub lowered : x ≤ amount f a b → (i j : ℕ) → Memᴰ i vs → Memᴰ j vs → amount (set f (a * 64 + b) x) i j ≤ amount f i j
    lowered l i j mi mj = elim (ℕ_discrete i a) [
      | yes p ↦ elim (ℕ_discrete j b) [
        | yes q ↦ let s = stored in let g = ap₂ (amount (set f (a * 64 + b) x)) p q in let h = ap₂ (amount f) p q in omega arith
        | no q ↦ let s = kept i j mi mj (λ e g. q g) in omega arith
      ]
      | no p ↦ let s = kept i j mi mj (λ e g. p e) in omega arith
    ]

    pub sent_other : (i : ℕ) → Memᴰ i vs → i ≢ a → sent vs (amount (set f (a * 64 + b) x)) i ≡ sent vs (amount f) i
    unfolding sent
    sent_other i mi n = sum_cong_mem vs _ _ (λ j mj. kept i j mi mj (λ e g. n e))

    pub received_other : (j : ℕ) → Memᴰ j vs → j ≢ b → received vs (amount (set f (a * 64 + b) x)) j ≡ received vs (amount f) j
    unfolding received
    received_other j mj n = sum_cong_mem vs _ _ (λ i mi. kept i j mi mj (λ e g. n g))

    pub sent_here : sent vs (amount (set f (a * 64 + b) x)) a + amount f a b ≡ sent vs (amount f) a + x
    unfolding sent
    sent_here =
        let r = sum_change_once vs (λ j. amount f a j) (λ j. amount (set f (a * 64 + b) x) a j) b (once unique mb)
        (λ j mj n. kept a j ma mj (λ e g. n g)) in
        let s = stored in
        omega arith

    pub received_here : received vs (amount (set f (a * 64 + b) x)) b + amount f a b ≡ received vs (amount f) b + x
    unfolding received
    received_here =
        let r = sum_change_once vs (λ i. amount f i b) (λ i. amount (set f (a * 64 + b) x) i b) a (once unique ma)
        (λ i mi n. kept i b mi mb (λ e g. n e)) in
        let s = stored in
        omega arith

    -- p units more from a to b, or q less
    change : (p q : ℕ) → x + q ≡ amount f a b + p → (F G : ℕ → ℕ) (c i : ℕ) → G c + amount f a b ≡ F c + x → (i ≢ c → G i ≡ F i)
        → G i + q * delta i c ≡ F i + p * delta i c
    change p q e F G c i here other = elim (ℕ_discrete i c) [
      | yes k ↦
          let d = delta_yes k in
          let g = ap G k in
          let h = ap F k in
          let u = ap (λ z. p * z) d ∙ mul-one p in
          let v = ap (λ z. q * z) d ∙ mul-one q in
          omega arith
      | no k ↦
          let d = delta_no i c k in
          let g = other k in
          let u = ap (λ z. p * z) d ∙ mul-zero p in
          let v = ap (λ z. q * z) d ∙ mul-zero q in
          omega arith
    ]

    changed : (p q : ℕ) → x + q ≡ amount f a b + p → (i : ℕ) → Memᴰ i vs
        → (sent vs (amount (set f (a * 64 + b) x)) i + q * delta i a ≡ sent vs (amount f) i + p * delta i a)
        × (received vs (amount (set f (a * 64 + b) x)) i + q * delta i b ≡ received vs (amount f) i + p * delta i b)
    changed p q e i m = (
      change p q e (sent vs (amount f)) (sent vs (amount (set f (a * 64 + b) x))) a i sent_here (sent_other i m),
      change p q e (received vs (amount f)) (received vs (amount (set f (a * 64 + b) x))) b i received_here (received_other i m),
    )

  -- ---- one step

  module _ (f : List ℕ) (long : length f ≡ 4096) (v w : ℕ) (mv : Memᴰ v vs) (mw : Memᴰ w vs) where
    push_back : 0 < amount f w v → push f v w ≡ set f (w * 64 + v) (amount f w v - 1)
    push_back h =
        ap (λ (b : Bool). set f (cond b (w * 64 + v) (v * 64 + w)) (cond b (amount f w v - 1) (amount f v w + 1)))
        (lt-ltb 0 (amount f w v) h)

    push_ahead : amount f w v ≡ 0 → push f v w ≡ set f (v * 64 + w) (amount f v w + 1)
    push_ahead e =
        ap (λ (b : Bool). set f (cond b (w * 64 + v) (v * 64 + w)) (cond b (amount f w v - 1) (amount f v w + 1)))
        (le-ltb 0 (amount f w v) (omega arith))

    push_long : length (push f v w) ≡ 4096
    push_long = length-set f _ _ ∙ long

    -- one unit more leaves v, or one less enters it, and the other way round for w
    push_net : (i : ℕ) → Memᴰ i vs
        → sent vs (amount (push f v w)) i + received vs (amount f) i + delta i w
        ≡ sent vs (amount f) i + received vs (amount (push f v w)) i + delta i v
    push_net i m = elim (dec_le 1 (amount f w v)) [
      | yes h ↦
          let r = changed f long w v mw mv (amount f w v - 1) 0 1 (omega arith) i m in
          let s = r.0 in
          let q = r.1 in
          subst⁻¹ (λ (g : List ℕ). sent vs (amount g) i + received vs (amount f) i + delta i w
          ≡ sent vs (amount f) i + received vs (amount g) i + delta i v) (push_back h) (omega arith)
      | no h ↦
          let r = changed f long v w mv mw (amount f v w + 1) 1 0 (omega arith) i m in
          let s = r.0 in
          let q = r.1 in
          subst⁻¹ (λ (g : List ℕ). sent vs (amount g) i + received vs (amount f) i + delta i w
          ≡ sent vs (amount f) i + received vs (amount g) i + delta i v) (push_ahead (omega arith)) (omega arith)
    ]

    -- the amounts of other pairs stay
    push_other : (i j : ℕ) → Memᴰ i vs → Memᴰ j vs → ((i ≡ v) → (j ≡ w) → ⊥) → ((i ≡ w) → (j ≡ v) → ⊥)
        → amount (push f v w) i j ≡ amount f i j
    push_other i j mi mj n k = elim (dec_le 1 (amount f w v)) [
      | yes h ↦ subst⁻¹ (λ (g : List ℕ). amount g i j ≡ amount f i j) (push_back h) (kept f long w v mw mv (amount f w v - 1) i j mi mj k)
      | no h ↦ subst⁻¹ (λ (g : List ℕ). amount g i j ≡ amount f i j) (push_ahead (omega arith))
          (kept f long v w mv mw (amount f v w + 1) i j mi mj n)
    ]

    -- no amount grows but that from v to w, where nothing is sent back
    push_grows : (k : ℕ)
        → (get_or (push f v w) k 0 ≤ get_or f k 0) ⊎ ((k ≡ v * 64 + w) × (get_or (push f v w) k 0 ≡ amount f v w + 1) × (amount f w v ≡ 0))
    push_grows k = elim (dec_le 1 (amount f w v)) [
      | yes h ↦ inl (subst⁻¹ (λ (g : List ℕ). get_or g k 0 ≤ get_or f k 0) (push_back h) (elim (ℕ_discrete k (w * 64 + v)) [
        | yes e ↦ let s = stored f long w v mw mv (amount f w v - 1) in
            let p = ap (λ n. get_or (set f (w * 64 + v) (amount f w v - 1)) n 0) e in let q = ap (λ n. get_or f n 0) e in omega arith
        | no n ↦ let s = get_or-set_other f (w * 64 + v) k (amount f w v - 1) 0 n in omega arith
      ]))
      | no h ↦ elim (ℕ_discrete k (v * 64 + w)) [
        | yes e ↦ inr (
          e,
          subst⁻¹ (λ (g : List ℕ). get_or g k 0 ≡ amount f v w + 1) (push_ahead (omega arith))
              (ap (λ n. get_or (set f (v * 64 + w) (amount f v w + 1)) n 0) e ∙ stored f long v w mv mw (amount f v w + 1)),
          omega arith,
        )
        | no n ↦ inl
            (subst⁻¹ (λ (g : List ℕ). get_or g k 0 ≤ get_or f k 0) (push_ahead (omega arith))
            (let s = get_or-set_other f (v * 64 + w) k (amount f v w + 1) 0 n in omega arith))
      ]
    ]

  -- ---- a path

  module _ (t : ℕ) (next : List ℕ) (rank : ℕ → ℕ) (onward : (v : ℕ) → Memᴰ v vs → Memᴰ (get_or next v 0) vs)
      (reached : (v : ℕ) → Memᴰ v vs → 0 < rank (get_or next v 0))
      (order : (v : ℕ) → Memᴰ v vs → 0 < rank v → v ≢ t → rank (get_or next v 0) < rank v) where
    -- a vertex from which a path of rank at most n leads on
    pub record On (n z : ℕ) : Type 0 where
      pub member : Memᴰ z vs
      pub settled : 0 < rank z
      pub not_end : z ≢ t
      pub early : rank z ≤ n

    module _ (d : ℕ → ℕ → ℕ) (u : ℕ → ℕ) (c : ℕ) where
      -- what the steps of a path need of the amounts
      pub record Ready (n : ℕ) (f : List ℕ) : Type 0 where
        pub long : length f ≡ 4096
        pub tight : Tight d vs (amount f) u
        pub few : (k : ℕ) → get_or f k 0 ≤ c + 1
        pub loopless : Loopless vs f
        pub step : (z : ℕ) → On n z → (0 < amount f (get_or next z 0) z) ⊎ (u z ≡ d z (get_or next z 0) + u (get_or next z 0))
        pub room : (z : ℕ) → On n z → amount f z (get_or next z 0) ≤ c

      -- what a path leaves
      pub record Sent (v : ℕ) (f g : List ℕ) : Type 0 where
        pub long : length g ≡ 4096
        pub tight : Tight d vs (amount g) u
        pub few : (k : ℕ) → get_or g k 0 ≤ c + 1
        pub loopless : Loopless vs g
        pub net : (i : ℕ) → Memᴰ i vs
            → sent vs (amount g) i + received vs (amount f) i + delta i t ≡ sent vs (amount f) i + received vs (amount g) i + delta i v

      module _ (v : ℕ) (f : List ℕ) (mv : Memᴰ v vs) (hv : 0 < rank v) (nv : v ≢ t) (r : Ready (rank v) f) where
        abbrev w : ℕ
        w = get_or next v 0

        here : On (rank v) v
        here = record { member = mv; settled = hv; not_end = nv; early = omega arith }

        -- an earlier step's pair is another
        apart : (z : ℕ) → On (rank w) z → (z ≢ v) × ((z ≡ w) → (get_or next z 0 ≡ v) → ⊥)
        apart z on =
            let o = order v mv hv nv in
            let e = on.early in
            let p = order z on.member on.settled on.not_end in (
              (λ q. let a = ap rank q in omega arith),
              (λ q g. let a = ap rank q in let b = ap rank g in omega arith),
            )

        later : (z : ℕ) → On (rank w) z → On (rank v) z
        later z on =
            record {
              member = on.member;
              settled = on.settled;
              not_end = on.not_end;
              early = (let o = order v mv hv nv in let e = on.early in omega arith);
            }

        step_tight : Tight d vs (amount (push f v w)) u
        step_tight i j mi mj h = elim (push_grows f r.long v w mv (onward v mv) (i * 64 + j)) [
          | inl l ↦ r.tight i j mi mj (omega arith)
          | inr q ↦
              let k = q.0 in
              let z = q.2 in
              let a = small i mi in
              let b = small j mj in
              let e = small v mv in
              let g = small w (onward v mv) in
              let ei : i ≡ v = omega arith in
              let ej : j ≡ w = omega arith in
              elim (r.step v here) [
                | inl y ↦ absurd (omega arith)
                | inr y ↦ subst⁻¹ (λ i. u i ≡ d i j + u j) ei (subst⁻¹ (λ j. u v ≡ d v j + u j) ej y)
              ]
        ]

        step_loopless : Loopless vs (push f v w)
        step_loopless i m = elim (push_grows f r.long v w mv (onward v mv) (i * 64 + i)) [
          | inl l ↦ let a = r.loopless i m in omega arith
          | inr q ↦
              let k = q.0 in
              let o = order v mv hv nv in
              let a = small i m in
              let e = small v mv in
              let g = small w (onward v mv) in
              let same : v ≡ w = omega arith in
              let b = ap rank same in
              absurd (omega arith)
        ]

        step_ready : Ready (rank w) (push f v w)
        step_ready = record {
          long = push_long f r.long v w mv (onward v mv);
          tight = step_tight;
          few = λ k. elim (push_grows f r.long v w mv (onward v mv) k) [
            | inl l ↦ (let a = r.few k in omega arith)
            | inr q ↦ (let e = q.1 in let a = r.room v here in omega arith)
          ];
          loopless = step_loopless;
          step = λ z on. subst⁻¹ (λ n. (0 < n) ⊎ (u z ≡ d z (get_or next z 0) + u (get_or next z 0)))
              (push_other f r.long v w mv (onward v mv) (get_or next z 0) z (onward z on.member) on.member
              (λ e g. (apart z on).1 g e) (λ e g. (apart z on).0 g))
              (r.step z (later z on));
          room = λ z on. subst⁻¹ (λ n. n ≤ c)
              (push_other f r.long v w mv (onward v mv) z (get_or next z 0) on.member (onward z on.member) (λ e g. (apart z on).0 e)
              (λ e g. (apart z on).1 e g))
              (r.room z (later z on));
        }

      pub augment_sent : (n : ℕ) (f : List ℕ) (v : ℕ) → Memᴰ v vs → 0 < rank v → rank v ≤ n → Ready (rank v) f
          → Sent v f (augment next t n f v)
      unfolding augment
      augment_sent zero f v m h l r = absurd (omega arith)
      augment_sent (suc n) f v m h l r =
          cond_ind (eqb v t) f (augment next t n (push f v (get_or next v 0)) (get_or next v 0)) (Sent v f)
          (λ y. record {
            long = r.long;
            tight = r.tight;
            few = r.few;
            loopless = r.loopless;
            net = λ i mi. (let e = ap (delta i) (eqb→eq v t y) in omega arith);
          })
          (λ y.
          let nv = eqb_other y in
          let o = order v m h nv in
          let q = step_ready v f m h nv r in
          let s = augment_sent n (push f v (get_or next v 0)) (get_or next v 0) (onward v m) (reached v m) (omega arith) q in
          record {
            long = s.long;
            tight = s.tight;
            few = s.few;
            loopless = s.loopless;
            net = λ i mi. (let a = s.net i mi in let b = push_net f r.long v (get_or next v 0) m (onward v m) i mi in omega arith);
          })
