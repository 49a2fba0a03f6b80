-- Facts about ℤ, which `omega` does not read: every integer a is P a - N a, two naturals, and orders and equations of integers are orders
-- and equations of those. omega (arith, z)            the hypotheses in reach (fields of records too) and the goal are orders, equations
-- and tests of single terms simp zz (omega arith)       a goal over sums, differences, products, SFits, Within, nat_abs a ≤ m; hypotheses
-- left as arrows of the goal are turned too simp zz (omega (arith, z, simp zz at h))    the same, with a hypothesis h over sums in reach
-- The order of the entries in zl matters: `simp` takes the first that fits, so the rules for sums stand before those for a single term.
-- `omega` applies to a hypothesis the first rule of z that fits, and no other. Assumes nothing.
use Rattle.std.specs.Prelude.{◌≡◌, refl, ◌↔◌, List, [], ◌∷◌, Bool, true, false, not, cond, ℕ, zero, suc, ◌+◌, ◌*◌, ◌-◌, ◌^◌, ◌<◌, ◌≤◌, T, ltb, ℤ, pos, negsuc, neg_ℤ, nat_abs, ◌+ℤ◌, ◌-ℤ◌, ◌*ℤ◌, ◌≤ℤ◌, ◌<ℤ◌}
use Rattle.std.proofs.Common.{ap, arith, mul-le-mul, to_z-of_z, ltb→lt, nltb→le, le→leb, leb→le, lt→ltb}
use Rattle.std.proofs.Math.Path.{subst⁻¹}
use Rattle.std.specs.Int.{Width, w8, w16, w32, w64}
use mir.Val.{Fits, SFits, hbits, to_z, of_z}
use Rattle.std.proofs.Math.Facts.{to_z_pos}
use Rattle.std.proofs.Math.Dec.{nleb→lt}
use Rattle.std.proofs.Math.IntN.{sub_ℕ, +ℤ_assoc, neg_ℤ-+ℤ, neg_ℤ-neg_ℤ}
use Rattle.std.specs.Int.Signed.{non_neg, le_z, lt_z, mag, lt_z_yes, lt_z_no, le_z_yes, yes_non_neg, pos-nat_abs}

abbrev pub P : ℤ → ℕ
P (pos n) = n
P (negsuc n) = 0

abbrev pub N : ℤ → ℕ
N (pos n) = 0
N (negsuc n) = n + 1

cond_ind : (c : Bool) (x y : ℤ) (Q : ℤ → Type 0) → (T c → Q x) → (T (not c) → Q y) → Q (cond c x y)
cond_ind true x y Q f g = f tt
cond_ind false x y Q f g = g tt

sub_pn : (a b : ℕ) → P (sub_ℕ a b) + b ≡ N (sub_ℕ a b) + a
sub_pn a b =
    cond_ind (ltb a b) (negsuc (b - suc a)) (pos (a - b)) (λ z. P z + b ≡ N z + a) (λ t. omega (arith, ltb→lt))
    (λ t. omega (arith, nltb→le))

pub add_pn : (a b : ℤ) → P (a +ℤ b) + (N a + N b) ≡ N (a +ℤ b) + (P a + P b)
add_pn (pos a) (pos b) = omega arith
add_pn (pos a) (negsuc b) = omega (arith, sub_pn a (suc b))
add_pn (negsuc a) (pos b) = omega (arith, sub_pn b (suc a))
add_pn (negsuc a) (negsuc b) = omega arith

pub neg_p : (a : ℤ) → P (neg_ℤ a) ≡ N a
neg_p (pos zero) = refl
neg_p (pos (suc n)) = refl
neg_p (negsuc n) = omega arith

pub neg_n : (a : ℤ) → N (neg_ℤ a) ≡ P a
neg_n (pos zero) = refl
neg_n (pos (suc n)) = omega arith
neg_n (negsuc n) = refl

pub le_pn : (a b : ℤ) → a ≤ℤ b → P a + N b ≤ P b + N a
le_pn (pos a) (pos b) h = omega (arith, leb→le a b h.le)
le_pn (pos a) (negsuc b) h = absurd h.le
le_pn (negsuc a) (pos b) h = omega arith
le_pn (negsuc a) (negsuc b) h = omega (arith, leb→le b a h.le)

pub pn_le : (a b : ℤ) → P a + N b ≤ P b + N a → a ≤ℤ b
pn_le (pos a) (pos b) h = record { le = le→leb a b (omega arith) }
pn_le (pos a) (negsuc b) h = absurd (omega arith)
pn_le (negsuc a) (pos b) h = record { le = tt }
pn_le (negsuc a) (negsuc b) h = record { le = le→leb b a (omega arith) }

pub lt_pn : (a b : ℤ) → a <ℤ b → P a + N b < P b + N a
lt_pn (pos a) (pos b) h = omega (arith, ltb→lt a b h.lt)
lt_pn (pos a) (negsuc b) h = absurd h.lt
lt_pn (negsuc a) (pos b) h = omega arith
lt_pn (negsuc a) (negsuc b) h = omega (arith, ltb→lt b a h.lt)

pub pn_lt : (a b : ℤ) → P a + N b < P b + N a → a <ℤ b
pn_lt (pos a) (pos b) h = record { lt = lt→ltb a b (omega arith) }
pn_lt (pos a) (negsuc b) h = absurd (omega arith)
pn_lt (negsuc a) (pos b) h = record { lt = tt }
pn_lt (negsuc a) (negsuc b) h = record { lt = lt→ltb b a (omega arith) }

pub eq_pn : (a b : ℤ) → a ≡ b → P a + N b ≡ P b + N a
eq_pn a b e = rw e

pub pn_eq : (a b : ℤ) → P a + N b ≡ P b + N a → a ≡ b
pn_eq (pos a) (pos b) h = ap pos (omega arith)
pn_eq (pos a) (negsuc b) h = absurd (omega arith)
pn_eq (negsuc a) (pos b) h = absurd (omega arith)
pn_eq (negsuc a) (negsuc b) h = ap negsuc (omega arith)

pub pos_p : (n : ℕ) → P (pos n) ≡ n
pos_p n = refl

pub pos_n : (n : ℕ) → N (pos n) ≡ 0
pos_n n = refl

-- ---- what the machine reads back from bits
pub back : (w : Width) (a : ℤ) → SFits w a → P (to_z w (of_z w a)) + N a ≡ P a + N (to_z w (of_z w a))
back w a h = eq_pn (to_z w (of_z w a)) a (to_z-of_z h)

-- the same as an equation for `simp`, whose premise is listed: an element read, `c.v.given`; a parameter, `c.fits.x.sfits`
pub back64 : (a : ℤ) → mag a < 2 ^ 63 → to_z w64 (of_z w64 a) ≡ a
back64 a h = to_z-of_z {w = w64} (record { sfits = h })

-- a u64 or a usize below 2 ^ 63 cast to an i64, for `simp`: the premise is a `let` in scope, or is listed
pub plain64 : (n : ℕ) → n < 2 ^ 63 → to_z w64 n ≡ pos n
plain64 n h = to_z_pos w64 h

-- the number that a cast of a value that is not negative gives
pub pos_abs : {a : ℤ} → pos 0 ≤ℤ a → pos (nat_abs a) ≡ a
pos_abs {a} h = pos-nat_abs a (yes_non_neg h)

-- an unsigned number of 32, 16 or 8 bits cast to an i64
pub u32_z : (d : ℕ) → Fits w32 d → to_z w64 d ≡ pos d
u32_z d h = to_z_pos w64 (omega (arith, h.fits))

pub u16_z : (d : ℕ) → Fits w16 d → to_z w64 d ≡ pos d
u16_z d h = to_z_pos w64 (omega (arith, h.fits))

pub u8_z : (d : ℕ) → Fits w8 d → to_z w64 d ≡ pos d
u8_z d h = to_z_pos w64 (omega (arith, h.fits))

pub u32_b : (d : ℕ) → Fits w32 d → P (to_z w64 d) ≡ d + N (to_z w64 d)
u32_b d h = omega (arith, eq_pn (to_z w64 d) (pos d) (u32_z d h))

pub u16_b : (d : ℕ) → Fits w16 d → P (to_z w64 d) ≡ d + N (to_z w64 d)
u16_b d h = omega (arith, eq_pn (to_z w64 d) (pos d) (u16_z d h))

pub u8_b : (d : ℕ) → Fits w8 d → P (to_z w64 d) ≡ d + N (to_z w64 d)
u8_b d h = omega (arith, eq_pn (to_z w64 d) (pos d) (u8_z d h))

-- all that a signed value's fit tells, to list: `omega (arith, z, sf c.fits.a)`
pub record Sf (w : Width) (a : ℤ) : Type 0 where
  pub back_p : P (to_z w (of_z w a)) ≡ P a
  pub back_n : N (to_z w (of_z w a)) ≡ N a
  pub high : P a < 2 ^ hbits w
  pub low : N a ≤ 2 ^ hbits w

sf_high : (w : Width) (a : ℤ) → SFits w a → P a < 2 ^ hbits w
sf_high w (pos n) h = h.sfits
sf_high w (negsuc n) h = omega (arith, h.sfits)

sf_low : (w : Width) (a : ℤ) → SFits w a → N a ≤ 2 ^ hbits w
sf_low w (pos n) h = omega arith
sf_low w (negsuc n) h = omega (arith, h.sfits)

pub sf : {w : Width} {a : ℤ} → SFits w a → Sf w a
sf {w} {a} h = record { back_p = ap P (to_z-of_z h); back_n = ap N (to_z-of_z h); high = sf_high w a h; low = sf_low w a h }

-- ---- what a branch's test says
pub lt_yes : (a b : ℤ) → lt_z a b ≡ true → P a + N b < P b + N a
lt_yes a b e = lt_pn a b (lt_z_yes (rw e tt))

pub lt_no : (a b : ℤ) → lt_z a b ≡ false → P b + N a ≤ P a + N b
lt_no a b e = le_pn b a (lt_z_no (rw e tt))

pub le_yes : (a b : ℤ) → le_z a b ≡ true → P a + N b ≤ P b + N a
le_yes a b e = le_pn a b (le_z_yes (rw e tt))

nle : (a b : ℤ) → T (not (le_z a b)) → P b + N a < P a + N b
nle (pos a) (pos b) t = omega (arith, nleb→lt a b t)
nle (pos a) (negsuc b) t = omega arith
nle (negsuc a) (pos b) t = absurd t
nle (negsuc a) (negsuc b) t = omega (arith, nleb→lt b a t)

pub le_no : (a b : ℤ) → le_z a b ≡ false → P b + N a < P a + N b
le_no a b e = nle a b (rw e tt)

pub nonneg_n : (a : ℤ) → pos 0 ≤ℤ a → N a ≡ 0
nonneg_n (pos n) h = refl
nonneg_n (negsuc n) h = absurd h.le

pub nonneg_t : (a : ℤ) → N a ≤ P a → T (non_neg a)
nonneg_t (pos n) h = tt
nonneg_t (negsuc n) h = absurd (omega arith)

pub ruleset z = (nonneg_n, le_pn, pn_le, lt_pn, pn_lt, eq_pn, pn_eq, back, u32_b, u16_b, u8_b, lt_yes, lt_no, le_yes, le_no, nonneg_t)

-- ---- a linear fact, flattened: `Lk s k x y` says s + Σ k + x ≤ y, `Ek s k x y` says s + Σ k + x ≡ y
sum : List ℤ → ℤ
sum [] = pos 0
sum (a ∷ k) = a +ℤ sum k

pub Lk : ℤ → List ℤ → ℕ → ℕ → Type 0
Lk s k x y = P (s +ℤ sum k) + x ≤ N (s +ℤ sum k) + y

pub Ek : ℤ → List ℤ → ℕ → ℕ → Type 0
Ek s k x y = P (s +ℤ sum k) + x ≡ N (s +ℤ sum k) + y

pub le_k : (a b : ℤ) → (a ≤ℤ b) ↔ Lk a (neg_ℤ b ∷ []) 0 0
unfolding Lk sum
le_k a b = (
  (λ h. omega (arith, z, add_pn a (neg_ℤ b +ℤ pos 0), add_pn (neg_ℤ b) (pos 0), neg_p b, neg_n b)),
  (λ h. omega (arith, z, add_pn a (neg_ℤ b +ℤ pos 0), add_pn (neg_ℤ b) (pos 0), neg_p b, neg_n b)),
)

pub lt_k : (a b : ℤ) → (a <ℤ b) ↔ Lk a (neg_ℤ b ∷ []) 1 0
unfolding Lk sum
lt_k a b = (
  (λ h. omega (arith, z, add_pn a (neg_ℤ b +ℤ pos 0), add_pn (neg_ℤ b) (pos 0), neg_p b, neg_n b)),
  (λ h. omega (arith, z, add_pn a (neg_ℤ b +ℤ pos 0), add_pn (neg_ℤ b) (pos 0), neg_p b, neg_n b)),
)

pub eq_k : (a b : ℤ) → (a ≡ b) ↔ Ek a (neg_ℤ b ∷ []) 0 0
unfolding Ek sum
eq_k a b = (
  (λ h. omega (arith, z, add_pn a (neg_ℤ b +ℤ pos 0), add_pn (neg_ℤ b) (pos 0), neg_p b, neg_n b)),
  (λ h. omega (arith, z, add_pn a (neg_ℤ b +ℤ pos 0), add_pn (neg_ℤ b) (pos 0), neg_p b, neg_n b)),
)

module _ (a b : ℤ) (k : List ℤ) (x y : ℕ) where
  pub lk_add : Lk (a +ℤ b) k x y ↔ Lk a (b ∷ k) x y
  unfolding Lk sum
  lk_add = ((λ h. rw (← +ℤ_assoc a b (sum k)) h), (λ h. rw +ℤ_assoc h))

  pub ek_add : Ek (a +ℤ b) k x y ↔ Ek a (b ∷ k) x y
  unfolding Ek sum
  ek_add = ((λ h. rw (← +ℤ_assoc a b (sum k)) h), (λ h. rw +ℤ_assoc h))

  pub lk_sub : Lk (neg_ℤ (a +ℤ b)) k x y ↔ Lk (neg_ℤ a) (neg_ℤ b ∷ k) x y
  unfolding Lk sum
  lk_sub = ((λ h. rw (← +ℤ_assoc (neg_ℤ a) (neg_ℤ b) (sum k), ← neg_ℤ-+ℤ a b) h), (λ h. rw (neg_ℤ-+ℤ, +ℤ_assoc) h))

  pub ek_sub : Ek (neg_ℤ (a +ℤ b)) k x y ↔ Ek (neg_ℤ a) (neg_ℤ b ∷ k) x y
  unfolding Ek sum
  ek_sub = ((λ h. rw (← +ℤ_assoc (neg_ℤ a) (neg_ℤ b) (sum k), ← neg_ℤ-+ℤ a b) h), (λ h. rw (neg_ℤ-+ℤ, +ℤ_assoc) h))

  pub lk_next : Lk a (b ∷ k) x y ↔ Lk b k (x + P a) (y + N a)
  unfolding Lk sum
  lk_next = ((λ h. omega (arith, add_pn a (b +ℤ sum k))), (λ h. omega (arith, add_pn a (b +ℤ sum k))))

  pub ek_next : Ek a (b ∷ k) x y ↔ Ek b k (x + P a) (y + N a)
  unfolding Ek sum
  ek_next = ((λ h. omega (arith, add_pn a (b +ℤ sum k))), (λ h. omega (arith, add_pn a (b +ℤ sum k))))

module _ (a : ℤ) (k : List ℤ) (x y : ℕ) where
  pub lk_neg : Lk (neg_ℤ (neg_ℤ a)) k x y ↔ Lk a k x y
  lk_neg = ((λ h. rw neg_ℤ-neg_ℤ at h), (λ h. rw neg_ℤ-neg_ℤ h))

  pub ek_neg : Ek (neg_ℤ (neg_ℤ a)) k x y ↔ Ek a k x y
  ek_neg = ((λ h. rw neg_ℤ-neg_ℤ at h), (λ h. rw neg_ℤ-neg_ℤ h))

module _ (a : ℤ) (x y : ℕ) where
  pub lk_end : Lk a [] x y ↔ (x + P a ≤ y + N a)
  unfolding Lk sum
  lk_end = ((λ h. omega (arith, add_pn a (pos 0))), (λ h. omega (arith, add_pn a (pos 0))))

  pub ek_end : Ek a [] x y ↔ (x + P a ≡ y + N a)
  unfolding Ek sum
  ek_end = ((λ h. omega (arith, add_pn a (pos 0))), (λ h. omega (arith, add_pn a (pos 0))))

pub negsuc_p : (n : ℕ) → P (negsuc n) ≡ 0
negsuc_p n = refl

pub negsuc_n : (n : ℕ) → N (negsuc n) ≡ n + 1
negsuc_n n = refl

-- a multiple by a natural
pub lit_p : (m : ℕ) (a : ℤ) → P (pos m *ℤ a) ≡ m * P a
lit_p m (pos n) = refl
lit_p m (negsuc n) = omega (arith, neg_p (pos (m * suc n)))

pub lit_n : (m : ℕ) (a : ℤ) → N (pos m *ℤ a) ≡ m * N a
lit_n m (pos n) = omega arith
lit_n m (negsuc n) = omega (arith, neg_n (pos (m * suc n)))

pub p_lit : (a : ℤ) (m : ℕ) → P (a *ℤ pos m) ≡ P a * m
p_lit (pos n) m = refl
p_lit (negsuc n) m = omega (arith, neg_p (pos (suc n * m)))

pub n_lit : (a : ℤ) (m : ℕ) → N (a *ℤ pos m) ≡ N a * m
n_lit (pos n) m = omega arith
n_lit (negsuc n) m = omega (arith, neg_n (pos (suc n * m)))

-- linear facts: `simp zl (omega arith)`
pub ruleset zl = (
  lk_add,
  lk_sub,
  lk_neg,
  ek_add,
  ek_sub,
  ek_neg,
  lk_next,
  ek_next,
  lk_end,
  ek_end,
  le_k,
  lt_k,
  eq_k,
  neg_ℤ-neg_ℤ,
  neg_p,
  neg_n,
  pos_p,
  pos_n,
  negsuc_p,
  negsuc_n,
  lit_p,
  lit_n,
  p_lit,
  n_lit,
)

-- ---- products
pub mul_p : (a b : ℤ) → P (a *ℤ b) ≡ P a * P b + N a * N b
mul_p (pos a) (pos b) = omega arith
mul_p (pos a) (negsuc b) = omega (arith, neg_p (pos (a * suc b)))
mul_p (negsuc a) (pos b) = omega (arith, neg_p (pos (suc a * b)))
mul_p (negsuc a) (negsuc b) = omega arith

pub mul_n : (a b : ℤ) → N (a *ℤ b) ≡ P a * N b + N a * P b
mul_n (pos a) (pos b) = omega arith
mul_n (pos a) (negsuc b) = omega (arith, neg_n (pos (a * suc b)))
mul_n (negsuc a) (pos b) = omega (arith, neg_n (pos (suc a * b)))
mul_n (negsuc a) (negsuc b) = omega arith

-- an equation of naturals times a factor
times : (m : ℕ) {x y : ℕ} → x ≡ y → m * x ≡ m * y
times m e = ap (λ (n : ℕ). m * n) e

pub *ℤ-+ℤ : (a b c : ℤ) → a *ℤ (b +ℤ c) ≡ a *ℤ b +ℤ a *ℤ c
*ℤ-+ℤ a b c = simp (zl, mul_p, mul_n) (omega (arith, times (P a) (add_pn b c), times (N a) (add_pn b c)))

pub +ℤ-*ℤ : (a b c : ℤ) → (a +ℤ b) *ℤ c ≡ a *ℤ c +ℤ b *ℤ c
+ℤ-*ℤ a b c = simp (zl, mul_p, mul_n) (omega (arith, times (P c) (add_pn a b), times (N c) (add_pn a b)))

pub negℤ-*ℤ : (a b : ℤ) → neg_ℤ a *ℤ b ≡ neg_ℤ (a *ℤ b)
negℤ-*ℤ a b = simp (zl, mul_p, mul_n) (omega arith)

pub *ℤ-negℤ : (a b : ℤ) → a *ℤ neg_ℤ b ≡ neg_ℤ (a *ℤ b)
*ℤ-negℤ a b = simp (zl, mul_p, mul_n) (omega arith)

-- ---- ranges: that a value fits a signed width is two orders, and so is a bound on its size
pub sfits_k : (w : Width) (a : ℤ) → SFits w a ↔ ((a <ℤ pos (2 ^ hbits w)) × (neg_ℤ (pos (2 ^ hbits w)) ≤ℤ a))
sfits_k w (pos n) = simp zl ((λ h. omega (arith, h.sfits)), (λ h. record { sfits = omega arith }))
sfits_k w (negsuc n) = simp zl ((λ h. omega (arith, h.sfits)), (λ h. record { sfits = omega arith }))

pub abs_pn : (a : ℤ) → nat_abs a ≡ P a + N a
abs_pn (pos n) = omega arith
abs_pn (negsuc n) = omega arith

pub abs_neg : (n : ℕ) → nat_abs (neg_ℤ (pos n)) ≡ n
abs_neg zero = refl
abs_neg (suc n) = refl

pub abs_k : (a : ℤ) (m : ℕ) → (nat_abs a ≤ m) ↔ ((a ≤ℤ pos m) × (neg_ℤ (pos m) ≤ℤ a))
abs_k (pos n) m = simp zl ((λ h. omega arith), (λ h. omega arith))
abs_k (negsuc n) m = simp zl ((λ h. omega arith), (λ h. omega arith))

-- ---- a bound on the size, as a contract states it: the rules of `z` read its fields, so that no proof lists it
pub record Within (m : ℕ) (a : ℤ) : Type 0 where
  pub low : neg_ℤ (pos m) ≤ℤ a
  pub high : a ≤ℤ pos m

pub within_abs : {m : ℕ} {a : ℤ} → Within m a → nat_abs a ≤ m
within_abs {m} {a} h = (abs_k a m).1 (h.high, h.low)

pub abs_within : (m : ℕ) (a : ℤ) → nat_abs a ≤ m → Within m a
abs_within m a h = record { low = ((abs_k a m).0 h).1; high = ((abs_k a m).0 h).0 }

pub within_k : (m : ℕ) (a : ℤ) → Within m a ↔ ((neg_ℤ (pos m) ≤ℤ a) × (a ≤ℤ pos m))
within_k m a = ((λ h. (h.low, h.high)), (λ h. record { low = h.0; high = h.1 }))

pub abs_mul : (a b : ℤ) → nat_abs (a *ℤ b) ≡ nat_abs a * nat_abs b
abs_mul a b = simp (abs_pn, mul_p, mul_n) (omega arith)

pub abs_add : (a b : ℤ) → nat_abs (a +ℤ b) ≤ nat_abs a + nat_abs b
abs_add a b = (abs_k (a +ℤ b) (nat_abs a + nat_abs b)).1 (simp zl (omega (arith, abs_pn a, abs_pn b)))

pub sfits_abs : (w : Width) (a : ℤ) → nat_abs a < 2 ^ hbits w → SFits w a
sfits_abs w a h = simp (sfits_k, zl) (omega (arith, abs_pn a))

-- products multiplied out
pub ruleset zm = (*ℤ-+ℤ, +ℤ-*ℤ, negℤ-*ℤ, *ℤ-negℤ)

-- everything: `simp zz (omega arith)`
pub ruleset zz = (zm, sfits_k, abs_k, within_k, zl, mul_p, mul_n)

-- ---- signs of products
-- |a| ≤ m, |b| ≤ k: |a * b| ≤ m * k
pub mul_abs : (a b : ℤ) (m k : ℕ) → nat_abs a ≤ m → nat_abs b ≤ k → nat_abs (a *ℤ b) ≤ m * k
mul_abs a b m k h l = rw abs_mul (mul-le-mul h l)

-- ---- differences and casts
pub minus_eq : (a b c e : ℕ) → pos a -ℤ pos b ≡ pos c -ℤ pos e → a + e ≡ c + b
minus_eq a b c e = simp zz (omega arith)

-- what a cast to a u64 asks
pub nonneg_cast : (a : ℤ) → mag a < 2 ^ 63 → pos 0 ≤ℤ a → T (non_neg (to_z w64 (of_z w64 a))) × Fits w64 (nat_abs (to_z w64 (of_z w64 a)))
nonneg_cast a s l = subst⁻¹ (λ (x : ℤ). T (non_neg x) × Fits w64 (nat_abs x)) (back64 a s) (at a s l)
  where
    at : (a : ℤ) → mag a < 2 ^ 63 → pos 0 ≤ℤ a → T (non_neg a) × Fits w64 (nat_abs a)
    at (pos n) s l = (tt, record { fits = omega arith })
    at (negsuc n) s l = absurd l.le

-- the size of -(a + 1)
pub turned_size : (a b : ℤ) → P a < N a → P b + P a + 1 ≡ N b + N a → nat_abs b + 1 ≡ nat_abs a
turned_size (pos m) b l e = absurd (omega arith)
turned_size (negsuc m) (pos n) l e = omega arith
turned_size (negsuc m) (negsuc n) l e = absurd (omega arith)
