-- No vertex of the direct amounts both sends and receives. Passing by a vertex makes no other send or receive more, takes what it passes
-- from what it sends and from what it receives, and keeps the balance; reduced costs stay 0, by the triangle inequality.
use Rattle.std.specs.Prelude.{◌≡◌, refl, ◌⊎◌, ◌≢◌, Bool, true, false, cond, ℕ, ◌+◌, ◌*◌, ◌-◌, ◌≤◌, ◌<◌, length, set, eqb}
use Rattle.std.proofs.Common.{sym, ap, ap₂, ◌∙◌, mul_comm, mul-one, zero-mul, arith, length-set, eq-eqb, ne_eqb}
use Rattle.std.proofs.Math.Path.{subst⁻¹}
use Rattle.std.proofs.Math.Logic.{inl, inr}
use mathlib.Core.List.{List, Memᴰ}
use Rattle.std.proofs.Math.Decide.{ℕ_discrete, dec_le}
use Rattle.std.proofs.lemmas.List.{set-get_or}
use Rattle.postman.specs.Lists.{delta, occurrences}
use Rattle.postman_laws.specs.Laws.Occurrences.{delta_yes, delta_no}
use Rattle.balance.specs.Optimality.{sent, received}
use Rattle.postman.specs.Steps.{amount}
use Rattle.balance.specs.Invariant.{Loopless}
use Rattle.direct_amounts.specs.Direct.{passed, gained, bypass, bypass_from, bypass_vertex, direct}
use Rattle.residual_search.specs.Laws.Fold.{fold_all, fold_each}
use Rattle.postman_laws.specs.Laws.Sum.{sum_none}
use Rattle.balance.specs.Laws.Augment.{stored, kept, sent_other, received_other, sent_here, received_here, lowered}

module _ (vs : List ℕ) (unique : (i : ℕ) → occurrences i vs ≤ 1) (small : (i : ℕ) → Memᴰ i vs → i < 64) where
  -- what g keeps of f
  pub record Falls (f g : List ℕ) : Type 0 where
    pub long : length g ≡ 4096
    pub loopless : Loopless vs g
    pub net : (i : ℕ) → Memᴰ i vs → sent vs (amount g) i + received vs (amount f) i ≡ sent vs (amount f) i + received vs (amount g) i
    pub sends : (i : ℕ) → Memᴰ i vs → sent vs (amount g) i ≤ sent vs (amount f) i
    pub receives : (i : ℕ) → Memᴰ i vs → received vs (amount g) i ≤ received vs (amount f) i

  falls_same : (f : List ℕ) → length f ≡ 4096 → Loopless vs f → Falls f f
  falls_same f l o = record { long = l; loopless = o; net = λ i m. refl; sends = λ i m. omega arith; receives = λ i m. omega arith }

  falls_trans : {f g h : List ℕ} → Falls f g → Falls g h → Falls f h
  falls_trans p q = record {
    long = q.long;
    loopless = q.loopless;
    net = λ i m. (let a = p.net i m in let b = q.net i m in omega arith);
    sends = λ i m. (let a = p.sends i m in let b = q.sends i m in omega arith);
    receives = λ i m. (let a = p.receives i m in let b = q.receives i m in omega arith);
  }

  -- ---- one amount more, or less

  module _ (f : List ℕ) (long : length f ≡ 4096) (p q : ℕ) (mp : Memᴰ p vs) (mq : Memᴰ q vs) (x k : ℕ) where
    abbrev g : List ℕ
    g = set f (p * 64 + q) x

    times_yes : (i j : ℕ) → i ≡ j → delta i j * k ≡ k
    times_yes i j e = ap (λ n. n * k) (delta_yes e) ∙ mul_comm 1 k ∙ mul-one k

    times_no : (i j : ℕ) → i ≢ j → delta i j * k ≡ 0
    times_no i j e = ap (λ n. n * k) (delta_no i j e) ∙ zero-mul k

    sent_drop : x + k ≡ amount f p q → (i : ℕ) → Memᴰ i vs → sent vs (amount g) i + delta i p * k ≡ sent vs (amount f) i
    sent_drop e i mi = elim (ℕ_discrete i p) [
      | yes r ↦ let s = sent_here vs unique small f long p q mp mq x in let t = times_yes i p r in let a = ap (sent vs (amount g)) r in
          let b = ap (sent vs (amount f)) r in omega arith
      | no r ↦ let s = sent_other vs unique small f long p q mp mq x i mi r in let t = times_no i p r in omega arith
    ]

    received_drop : x + k ≡ amount f p q → (i : ℕ) → Memᴰ i vs → received vs (amount g) i + delta i q * k ≡ received vs (amount f) i
    received_drop e i mi = elim (ℕ_discrete i q) [
      | yes r ↦ let s = received_here vs unique small f long p q mp mq x in let t = times_yes i q r in
          let a = ap (received vs (amount g)) r in let b = ap (received vs (amount f)) r in omega arith
      | no r ↦ let s = received_other vs unique small f long p q mp mq x i mi r in let t = times_no i q r in omega arith
    ]

    sent_gain : amount f p q + k ≡ x → (i : ℕ) → Memᴰ i vs → sent vs (amount g) i ≡ sent vs (amount f) i + delta i p * k
    sent_gain e i mi = elim (ℕ_discrete i p) [
      | yes r ↦ let s = sent_here vs unique small f long p q mp mq x in let t = times_yes i p r in let a = ap (sent vs (amount g)) r in
          let b = ap (sent vs (amount f)) r in omega arith
      | no r ↦ let s = sent_other vs unique small f long p q mp mq x i mi r in let t = times_no i p r in omega arith
    ]

    received_gain : amount f p q + k ≡ x → (i : ℕ) → Memᴰ i vs → received vs (amount g) i ≡ received vs (amount f) i + delta i q * k
    received_gain e i mi = elim (ℕ_discrete i q) [
      | yes r ↦ let s = received_here vs unique small f long p q mp mq x in let t = times_yes i q r in
          let a = ap (received vs (amount g)) r in let b = ap (received vs (amount f)) r in omega arith
      | no r ↦ let s = received_other vs unique small f long p q mp mq x i mi r in let t = times_no i q r in omega arith
    ]

  -- ---- one way by b

  module _ (f : List ℕ) (long : length f ≡ 4096) (loopless : Loopless vs f) (a b c : ℕ) (ma : Memᴰ a vs) (mb : Memᴰ b vs)
      (mc : Memᴰ c vs) where
    abbrev m : ℕ
    m = passed f a b c

    -- f after one, two and three stores
    abbrev f₁ : List ℕ
    f₁ = set f (a * 64 + b) (amount f a b - m)

    abbrev f₂ : List ℕ
    f₂ = set f₁ (b * 64 + c) (amount f b c - m)

    abbrev f₃ : List ℕ
    f₃ = bypass f a b c

    -- nothing passed
    none : m ≡ 0 → f₃ ≡ f
    none e =
        let x : amount f a b - m ≡ amount f a b = omega arith in
        let y : amount f b c - m ≡ amount f b c = omega arith in
        let e₁ : f₁ ≡ f = ap (set f (a * 64 + b)) x ∙ set-get_or f (a * 64 + b) 0 in
        let e₂ : f₂ ≡ f = ap₂ (λ (g : List ℕ) (n : ℕ). set g (b * 64 + c) n) e₁ y ∙ set-get_or f (b * 64 + c) 0 in
        let z : gained a c (amount f a c) m ≡ amount f a c = ap (gained a c (amount f a c)) e ∙ same (eqb a c) in
        ap₂ (λ (g : List ℕ) (n : ℕ). set g (a * 64 + c) n) e₂ z ∙ set-get_or f (a * 64 + c) 0
      where
        same : (t : Bool) → cond t (amount f a c) (amount f a c + 0) ≡ amount f a c
        same true = refl
        same false = omega arith

    module _ (some : 0 < m) where
      a≢b : a ≢ b
      a≢b e = let l = loopless a ma in let q = ap (amount f a) e in omega arith

      b≢c : b ≢ c
      b≢c e = let l = loopless b mb in let q = ap (amount f b) e in omega arith

      l₁ : length f₁ ≡ 4096
      l₁ = length-set f _ _ ∙ long

      l₂ : length f₂ ≡ 4096
      l₂ = length-set f₁ _ _ ∙ l₁

      y₁ : amount f₁ b c ≡ amount f b c
      y₁ = kept vs unique small f long a b ma mb _ b c mb mc (λ e g. a≢b (sym e))

      z₁ : amount f₁ a c ≡ amount f a c
      z₁ = kept vs unique small f long a b ma mb _ a c ma mc (λ e g. b≢c (sym g))

      z₂ : amount f₂ a c ≡ amount f a c
      z₂ = kept vs unique small f₁ l₁ b c mb mc _ a c ma mc (λ e g. a≢b e) ∙ z₁

      -- what goes from a to c
      gain : ((a ≢ c) × (gained a c (amount f a c) m ≡ amount f a c + m)) ⊎ ((a ≡ c) × (gained a c (amount f a c) m ≡ amount f a c))
      gain = elim (ℕ_discrete a c) [
        | yes e ↦ inr (e, ap (λ (t : Bool). cond t (amount f a c) (amount f a c + m)) (eq-eqb a c e))
        | no n ↦ inl (n, ap (λ (t : Bool). cond t (amount f a c) (amount f a c + m)) (ne_eqb a c n))
      ]

      -- an entry of each
      one : (i j : ℕ) → Memᴰ i vs → Memᴰ j vs → amount f₁ i j ≤ amount f i j
      one = lowered vs unique small f long a b ma mb (amount f a b - m) (omega arith)

      two : (i j : ℕ) → Memᴰ i vs → Memᴰ j vs → amount f₂ i j ≤ amount f i j
      two i j mi mj =
          let o = one i j mi mj in
          let y = y₁ in
          let s = lowered vs unique small f₁ l₁ b c mb mc (amount f b c - m) (omega arith) i j mi mj in
          omega arith

      three : (i j : ℕ) → Memᴰ i vs → Memᴰ j vs → ((i ≡ a) → (j ≡ c) → ⊥) → amount f₃ i j ≤ amount f i j
      three i j mi mj n =
          let o = two i j mi mj in
          let s = kept vs unique small f₂ l₂ a c ma mc (gained a c (amount f a c) m) i j mi mj n in
          omega arith

      -- what is sent, and received
      sums : (i : ℕ) → Memᴰ i vs
          → (sent vs (amount f₃) i + received vs (amount f) i ≡ sent vs (amount f) i + received vs (amount f₃) i)
          × (sent vs (amount f₃) i ≤ sent vs (amount f) i)
          × (received vs (amount f₃) i ≤ received vs (amount f) i)
      sums i mi =
          let e₁ : (amount f a b - m) + m ≡ amount f a b = omega arith in
          let e₂ : (amount f b c - m) + m ≡ amount f₁ b c = (let y = y₁ in omega arith) in
          let d₁ = sent_drop f long a b ma mb (amount f a b - m) m e₁ i mi in
          let r₁ = received_drop f long a b ma mb (amount f a b - m) m e₁ i mi in
          let d₂ = sent_drop f₁ l₁ b c mb mc (amount f b c - m) m e₂ i mi in
          let r₂ = received_drop f₁ l₁ b c mb mc (amount f b c - m) m e₂ i mi in
          elim gain [
            | inl g ↦
                let e₃ : amount f₂ a c + m ≡ gained a c (amount f a c) m = (let z = z₂ in let q = g.1 in omega arith) in
                let d₃ = sent_gain f₂ l₂ a c ma mc (gained a c (amount f a c) m) m e₃ i mi in
                let r₃ = received_gain f₂ l₂ a c ma mc (gained a c (amount f a c) m) m e₃ i mi in
                (omega arith, omega arith, omega arith)
            | inr g ↦
                let z = z₂ in
                let q = g.1 in
                let e₃ : f₃ ≡ f₂ = ap (set f₂ (a * 64 + c)) (q ∙ sym z) ∙ set-get_or f₂ (a * 64 + c) 0 in
                let d₃ = ap (λ (h : List ℕ). sent vs (amount h) i) e₃ in
                let r₃ = ap (λ (h : List ℕ). received vs (amount h) i) e₃ in
                let k = ap (λ n. delta i n * m) g.0 in
                (omega arith, omega arith, omega arith)
          ]

      still_loopless : Loopless vs f₃
      still_loopless i mi = elim (ℕ_discrete i a) [
        | yes p ↦ elim (ℕ_discrete i c) [
          | yes q ↦ elim gain [
            | inl g ↦ absurd (g.0 (sym p ∙ q))
            | inr g ↦
                let s = stored vs unique small f₂ l₂ a c ma mc (gained a c (amount f a c) m) in
                let h = ap₂ (amount f₃) p q in
                let k = ap₂ (amount f) p q in
                let o = loopless i mi in
                let e = g.1 in
                omega arith
          ]
          | no q ↦ let t = three i i mi mi (λ e g. q g) in let o = loopless i mi in omega arith
        ]
        | no p ↦ let t = three i i mi mi (λ e g. p e) in let o = loopless i mi in omega arith
      ]

      all_passed : (amount f₃ a b ≡ 0) ⊎ (amount f₃ b c ≡ 0)
      all_passed =
          let p = kept vs unique small f₂ l₂ a c ma mc (gained a c (amount f a c) m) a b ma mb (λ e g. b≢c g) in
          let p' = kept vs unique small f₁ l₁ b c mb mc (amount f b c - m) a b ma mb (λ e g. a≢b e) in
          let p'' = stored vs unique small f long a b ma mb (amount f a b - m) in
          let q = kept vs unique small f₂ l₂ a c ma mc (gained a c (amount f a c) m) b c mb mc (λ e g. a≢b (sym e)) in
          let q' = stored vs unique small f₁ l₁ b c mb mc (amount f b c - m) in
          elim (dec_le (amount f a b) (amount f b c)) [ yes h ↦ inl (omega arith) | no h ↦ inr (omega arith) ]

    -- what passing b by does
    pub record Passes (g : List ℕ) : Type 0 where
      pub falls : Falls f g
      pub row : (j : ℕ) → Memᴰ j vs → amount g b j ≤ amount f b j
      pub column : (i : ℕ) → Memᴰ i vs → amount g i b ≤ amount f i b
      pub over : (amount g a b ≡ 0) ⊎ (amount g b c ≡ 0)
      pub from : (i j : ℕ) → Memᴰ i vs → Memᴰ j vs → 0 < amount g i j
          → (0 < amount f i j) ⊎ ((i ≡ a) × (j ≡ c) × (0 < amount f a b) × (0 < amount f b c))

    pub bypass_passes : Passes (bypass f a b c)
    bypass_passes = elim (dec_le 1 m) [
      | yes h ↦ record {
        falls = record {
          long = length-set f₂ _ _ ∙ l₂ h;
          loopless = still_loopless h;
          net = λ i mi. (sums h i mi).0;
          sends = λ i mi. (sums h i mi).1;
          receives = λ i mi. (sums h i mi).2;
        };
        row = λ j mj. three h b j mb mj (λ e g. a≢b h (sym e));
        column = λ i mi. three h i b mi mb (λ e g. b≢c h g);
        over = all_passed h;
        from = λ i j mi mj k. elim (ℕ_discrete i a) [
          | yes p ↦ elim (ℕ_discrete j c) [
            | yes q ↦ inr (p, q, omega arith, omega arith)
            | no q ↦ inl (let t = three h i j mi mj (λ e g. q g) in omega arith)
          ]
          | no p ↦ inl (let t = three h i j mi mj (λ e g. p e) in omega arith)
        ];
      }
      | no h ↦ subst⁻¹ Passes (none (omega arith)) (record {
        falls = falls_same f long loopless;
        row = λ j mj. omega arith;
        column = λ i mi. omega arith;
        over = elim (dec_le 1 (amount f a b)) [ yes k ↦ inr (omega arith) | no k ↦ inl (omega arith) ];
        from = λ i j mi mj k. inl k;
      })
    ]

  -- ---- all ways

  -- a property of amounts that passing by a vertex keeps
  module _ (Keep : List ℕ → Type 0)
      (keeps : (f : List ℕ) (a b c : ℕ) → Memᴰ a vs → Memᴰ b vs → Memᴰ c vs → length f ≡ 4096 → Loopless vs f → Keep f
      → Keep (bypass f a b c)) where
    -- what g, with some ways by b gone, keeps of f
    record Under (b : ℕ) (f g : List ℕ) : Type 0 where
      falls : Falls f g
      keep : Keep g
      row : (j : ℕ) → Memᴰ j vs → amount g b j ≤ amount f b j
      column : (i : ℕ) → Memᴰ i vs → amount g i b ≤ amount f i b

    under_same : (b : ℕ) (f : List ℕ) → length f ≡ 4096 → Loopless vs f → Keep f → Under b f f
    under_same b f l o k = record { falls = falls_same f l o; keep = k; row = λ j m. omega arith; column = λ i m. omega arith }

    under_trans : {b : ℕ} {f g h : List ℕ} → Under b f g → Under b g h → Under b f h
    under_trans p q = record {
      falls = falls_trans p.falls q.falls;
      keep = q.keep;
      row = λ j m. (let a = p.row j m in let b = q.row j m in omega arith);
      column = λ i m. (let a = p.column i m in let b = q.column i m in omega arith);
    }

    module _ (b : ℕ) (mb : Memᴰ b vs) where
      -- ---- from a

      module _ (a : ℕ) (ma : Memᴰ a vs) where
        once_under : (f g : List ℕ) (c : ℕ) → Memᴰ c vs → Under b f g → Under b g (bypass g a b c)
        once_under f g c mc u =
            let p = bypass_passes g u.falls.long u.falls.loopless a b c ma mb mc in
            record {
              falls = p.falls;
              keep = keeps g a b c ma mb mc u.falls.long u.falls.loopless u.keep;
              row = p.row;
              column = p.column;
            }

        abbrev Gone : ℕ → List ℕ → Type 0
        Gone c g = (amount g a b ≡ 0) ⊎ (amount g b c ≡ 0)

        from_under : (f : List ℕ) → length f ≡ 4096 → Loopless vs f → Keep f → Under b f (bypass_from vs b f a)
        unfolding bypass_from
        from_under f l o k =
            fold_all (λ g c. bypass g a b c) vs (Under b f) (λ g c mc u. under_trans u (once_under f g c mc u)) f (under_same b f l o k)

        from_gone : (f : List ℕ) → length f ≡ 4096 → Loopless vs f → Keep f → (c : ℕ) → Memᴰ c vs → Gone c (bypass_from vs b f a)
        unfolding bypass_from
        from_gone f l o k =
            fold_each (λ g c. bypass g a b c) vs (Under b f) (λ g c mc u. under_trans u (once_under f g c mc u)) Gone
            (λ g c mc u. (bypass_passes g u.falls.long u.falls.loopless a b c ma mb mc).over)
            (λ g c w mc mw u r. let p = bypass_passes g u.falls.long u.falls.loopless a b c ma mb mc in elim r [
              | inl e ↦ inl (let x = p.column a ma in omega arith)
              | inr e ↦ inr (let x = p.row w mw in omega arith)
            ])
            f (under_same b f l o k)

        from_over : (f : List ℕ) → length f ≡ 4096 → Loopless vs f → Keep f
            → (amount (bypass_from vs b f a) a b ≡ 0) ⊎ (sent vs (amount (bypass_from vs b f a)) b ≡ 0)
        unfolding sent
        from_over f l o k = elim (dec_le 1 (amount (bypass_from vs b f a) a b)) [
          | no h ↦ inl (omega arith)
          | yes h ↦ inr
              (sum_none vs (λ c. amount (bypass_from vs b f a) b c)
              (λ c mc. elim (from_gone f l o k c mc) [ inl e ↦ absurd (omega arith) | inr e ↦ e ]))
        ]

      -- ---- from all

      abbrev Over : ℕ → List ℕ → Type 0
      Over a g = (amount g a b ≡ 0) ⊎ (sent vs (amount g) b ≡ 0)

      turn_under : (f g : List ℕ) (a : ℕ) → Memᴰ a vs → Under b f g → Under b g (bypass_from vs b g a)
      turn_under f g a ma u = from_under a ma g u.falls.long u.falls.loopless u.keep

      vertex_under : (f : List ℕ) → length f ≡ 4096 → Loopless vs f → Keep f → Under b f (bypass_vertex vs f b)
      unfolding bypass_vertex
      vertex_under f l o k =
          fold_all (bypass_from vs b) vs (Under b f) (λ g a ma u. under_trans u (turn_under f g a ma u)) f (under_same b f l o k)

      vertex_gone : (f : List ℕ) → length f ≡ 4096 → Loopless vs f → Keep f → (a : ℕ) → Memᴰ a vs → Over a (bypass_vertex vs f b)
      unfolding bypass_vertex
      vertex_gone f l o k =
          fold_each (bypass_from vs b) vs (Under b f) (λ g a ma u. under_trans u (turn_under f g a ma u)) Over
          (λ g a ma u. from_over a ma g u.falls.long u.falls.loopless u.keep)
          (λ g a w ma mw u r. let p = turn_under f g a ma u in elim r [
            | inl e ↦ inl (let x = p.column w mw in omega arith)
            | inr e ↦ inr (let x = p.falls.sends b mb in omega arith)
          ])
          f (under_same b f l o k)

      vertex_over : (f : List ℕ) → length f ≡ 4096 → Loopless vs f → Keep f
          → (received vs (amount (bypass_vertex vs f b)) b ≡ 0) ⊎ (sent vs (amount (bypass_vertex vs f b)) b ≡ 0)
      unfolding received
      vertex_over f l o k = elim (dec_le 1 (sent vs (amount (bypass_vertex vs f b)) b)) [
        | no h ↦ inr (omega arith)
        | yes h ↦ inl
            (sum_none vs (λ a. amount (bypass_vertex vs f b) a b)
            (λ a ma. elim (vertex_gone f l o k a ma) [ inl e ↦ e | inr e ↦ absurd (omega arith) ]))
      ]

    -- ---- by all

    -- what direct amounts keep
    pub record Kept (f g : List ℕ) : Type 0 where
      pub falls : Falls f g
      pub keep : Keep g

    vertex_kept : (f g : List ℕ) (b : ℕ) → Memᴰ b vs → Kept f g → Kept g (bypass_vertex vs g b)
    vertex_kept f g b mb u = let p = vertex_under b mb g u.falls.long u.falls.loopless u.keep in
        record { falls = p.falls; keep = p.keep }

    kept_trans : {f g h : List ℕ} → Kept f g → Kept g h → Kept f h
    kept_trans p q = record { falls = falls_trans p.falls q.falls; keep = q.keep }

    module _ (f : List ℕ) (l : length f ≡ 4096) (o : Loopless vs f) (k : Keep f) where
      pub direct_kept : Kept f (direct vs f)
      unfolding direct
      direct_kept =
          fold_all (bypass_vertex vs) vs (Kept f) (λ g b mb u. kept_trans u (vertex_kept f g b mb u)) f
          (record { falls = falls_same f l o; keep = k })

      -- NO VERTEX BOTH SENDS AND RECEIVES
      pub direct_one_way : (b : ℕ) → Memᴰ b vs → (received vs (amount (direct vs f)) b ≡ 0) ⊎ (sent vs (amount (direct vs f)) b ≡ 0)
      unfolding direct
      direct_one_way =
          fold_each (bypass_vertex vs) vs (Kept f) (λ g b mb u. kept_trans u (vertex_kept f g b mb u))
          (λ b g. (received vs (amount g) b ≡ 0) ⊎ (sent vs (amount g) b ≡ 0))
          (λ g b mb u. vertex_over b mb g u.falls.long u.falls.loopless u.keep)
          (λ g b w mb mw u r. let p = (vertex_kept f g b mb u).falls in elim r [
            | inl e ↦ inl (let x = p.receives w mw in omega arith)
            | inr e ↦ inr (let x = p.sends w mw in omega arith)
          ])
          f (record { falls = falls_same f l o; keep = k })
