-- What the arrays of a matrix of costs say of its trees.
use Rattle.std.specs.Prelude.{◌≡◌, ◌≢◌, Bool, true, false, List, ◌∷◌, map, length, set, replicate, ℤ, pos, ◌+ℤ◌, ◌-ℤ◌, ◌≤ℤ◌}
use Rattle.std.proofs.Math.Path.{refl, ap, subst⁻¹}
use Rattle.std.proofs.Common.{sym, ap₂, ◌∙◌, inl, inr, get_or-set_same, get_or-set_other, T_not}
use Rattle.std.proofs.Math.Bool.{cond}
use Prim.Native.Nat.{ℕ, zero, suc, ◌+◌, ◌*◌, ◌-◌, ◌≤◌, ◌<◌}
use Rattle.std.proofs.Math.Decide.{ℕ_discrete}
use native.Mathlib.Omega.{arith}
use Rattle.std.proofs.Math.ListN.{get_or}
use Rattle.std.specs.Int.Signed.{lt_z, ≤ℤ_refl}
use Rattle.postman_laws.specs.Laws.Contradiction.{zero_is_one}
use Rattle.integers.specs.Linear.{z, zl}
use Rattle.postman.specs.Lists.{select, up_from, sum_ofℤ, iterate}
use Rattle.postman.specs.Laws.Tests.{cond_ind, test, is_true, is_false}
use Rattle.cheapest_tree.specs.Cheapest.{tree_cost}
use Rattle.cheapest_tree.specs.CostMatrix.{matrix_of, others_in, highest, IsCostMatrix, less, line_of, IsBest, HasEntries, entry_of, pay_of, IsMarked}

pub lt_le : (a b : ℤ) → lt_z a b ≡ true → a ≤ℤ b
lt_le a b e = omega (arith, z)

pub nlt_le : (a b : ℤ) → lt_z a b ≡ false → b ≤ℤ a
nlt_le a b e = omega (arith, z)

-- ---- the entries

pub entries_more : (w : List ℤ) (left : List Bool) (n : ℕ) (e : List ℕ) (r : ℕ) → 1 ≤ n → n < 8 → length e ≡ 8 → HasEntries w left n e
    → r < 8
    → (get_or left n false ≡ true → IsBest (line_of w false n) (set left n false) 8 r) → HasEntries w left (n + 1) (set e n r)
entries_more w left n e r p l k h b i = record {
  root = get_or-set_other e n 0 r 0 (λ x. (omega arith)) ∙ h.root;
  in_range = λ q m. elim (ℕ_discrete q n) [
    | yes x ↦ subst⁻¹ (λ y. y < 8) (ap (λ y. get_or (set e n r) y 0) x ∙ get_or-set_same e n r 0 (omega arith)) b
    | no o ↦ subst⁻¹ (λ y. y < 8) (get_or-set_other e n q r 0 o) (h.in_range q m)
  ];
  best = λ q m a f. elim (ℕ_discrete q n) [
    | yes x ↦ subst⁻¹ (λ y. IsBest (line_of w false y) (set left y false) 8 (get_or (set e n r) y 0)) x
        (subst⁻¹ (IsBest (line_of w false n) (set left n false) 8) (get_or-set_same e n r 0 (omega arith))
        (i (ap (λ y. get_or left y false) (sym x) ∙ f)))
    | no o ↦ subst⁻¹ (IsBest (line_of w false q) (set left q false) 8) (get_or-set_other e n q r 0 o) (h.best q m (omega arith) f)
  ];
}

-- ---- the payments

module _ (w : List ℤ) (left : List Bool) (e : List ℕ) where
  -- what the components from q on pay
  unfoldable pub payments : ℕ → ℤ
  unfolding sum_ofℤ select up_from
  payments q = sum_ofℤ (map (λ x. matrix_of w (entry_of e x) x) (select (λ x. get_or left x false) (up_from q (8 - q))))

  pub payments_end : payments 8 ≡ pos 0
  unfolding payments
  payments_end = refl

  pub payments_more : (q : ℕ) → q < 8 → payments q ≡ pay_of w left e q +ℤ payments (q + 1)
  unfolding payments
  payments_more q l =
      let a : 8 - q ≡ suc (8 - (q + 1)) = omega arith in
      let b : q + 1 ≡ suc q = omega arith in
      ap (λ n. sum_ofℤ (map (λ x. matrix_of w (entry_of e x) x) (select (λ x. get_or left x false) (up_from q n)))) a
      ∙ picked (get_or left q false)
      ∙ ap (λ x. pay_of w left e q
      +ℤ sum_ofℤ (map (λ x. matrix_of w (entry_of e x) x) (select (λ x. get_or left x false) (up_from x (8 - (q + 1)))))) (sym b)
    where
      picked : (c : Bool)
          → sum_ofℤ (map (λ x. matrix_of w (entry_of e x) x)
          (cond c (q ∷ select (λ x. get_or left x false) (up_from (suc q) (8 - (q + 1))))
          (select (λ x. get_or left x false) (up_from (suc q) (8 - (q + 1))))))
          ≡ cond c (get_or w (get_or e q 0 * 8 + q) (pos 0)) (pos 0)
          +ℤ sum_ofℤ (map (λ x. matrix_of w (entry_of e x) x) (select (λ x. get_or left x false) (up_from (suc q) (8 - (q + 1)))))
      picked Bool.true = refl
      picked Bool.false = simp zl (omega arith)

  pub payments_all : payments 1 ≡ tree_cost (matrix_of w) (others_in left) (entry_of e)
  unfolding payments tree_cost others_in
  payments_all = refl

  pub pay_within : IsCostMatrix w left → (q : ℕ) → q < 8 → get_or e q 0 < 8
      → (pos 0 ≤ℤ pay_of w left e q) × (pay_of w left e q ≤ℤ pos highest)
  pay_within p q l b =
      cond_ind (get_or left q false) (get_or w (get_or e q 0 * 8 + q) (pos 0)) (pos 0) (λ x. (pos 0 ≤ℤ x) × (x ≤ℤ pos highest))
      (λ t. (p.low (get_or e q 0 * 8 + q) (omega arith), p.high (get_or e q 0 * 8 + q) (omega arith)))
      (λ t. (≤ℤ_refl (pos 0), omega (arith, z)))

  -- s is what the components from q on pay, and small
  pub record Paid (q : ℕ) (s : ℤ) : Type 0 where
    pub sum : s ≡ payments q
    pub low : pos 0 ≤ℤ s
    pub high : s ≤ℤ pos ((8 - q) * highest)

  pub paid_none : Paid 8 (pos 0)
  paid_none = record { sum = sym payments_end; low = ≤ℤ_refl (pos 0); high = ≤ℤ_refl (pos 0) }

  -- one component more
  pub paid_more : IsCostMatrix w left → HasEntries w left 8 e → (q : ℕ) → 1 < q → q ≤ 8 → (r s : ℤ) → r ≡ pay_of w left e (q - 1) → Paid q s
      → Paid (q - 1) (r +ℤ s)
  paid_more p h q l m r s er i =
      let a = pay_within p (q - 1) (omega arith) (h.in_range (q - 1) (omega arith)) in
      let lo : pos 0 ≤ℤ r = subst⁻¹ (λ (x : ℤ). pos 0 ≤ℤ x) er a.0 in
      let hi : r ≤ℤ pos highest = subst⁻¹ (λ (x : ℤ). x ≤ℤ pos highest) er a.1 in
      let n : q - 1 + 1 ≡ q = omega arith in record {
        sum = ap₂ ◌+ℤ◌ er (i.sum ∙ ap payments (sym n)) ∙ sym (payments_more (q - 1) (omega arith));
        low = simp zl (omega (arith, z));
        high = simp zl (omega (arith, z));
      }

-- what is left of a cost
pub less_within : (a m : ℤ) → pos 0 ≤ℤ a → a ≤ℤ pos highest → pos 0 ≤ℤ m → (pos 0 ≤ℤ less a m) × (less a m ≤ℤ pos highest)
unfolding less
less_within a m l h k = elim (test (lt_z a m)) [
  | inl t ↦ subst⁻¹ (λ b. (pos 0 ≤ℤ cond b (pos 0) (a -ℤ m)) × (cond b (pos 0) (a -ℤ m) ≤ℤ pos highest)) (is_true {b = lt_z a m} t)
      (≤ℤ_refl (pos 0), omega (arith, z))
  | inr t ↦
      let f : lt_z a m ≡ false = is_false {b = lt_z a m} (λ u. T_not (lt_z a m) t u) in
      let g = nlt_le a m f in
      subst⁻¹ (λ b. (pos 0 ≤ℤ cond b (pos 0) (a -ℤ m)) × (cond b (pos 0) (a -ℤ m) ≤ℤ pos highest)) f
      (simp zl (omega (arith, z)), simp zl (omega (arith, z)))
]

-- ---- the circle

pub marked_none : (e : List ℕ) (y : ℕ) → IsMarked e y 0 (replicate 8 false)
marked_none e y = record {
  sound = λ x h. (let f = all_false x in zero_is_one (cc));
  complete = λ i l. absurd (omega arith);
}
  where
    all_false : (x : ℕ) → get_or (replicate 8 false) x false ≡ false
    all_false x = get_d_same 8 x
      where
        get_d_same : (n x : ℕ) → get_or (replicate n false) x false ≡ false
        get_d_same zero x = refl
        get_d_same (suc n) zero = refl
        get_d_same (suc n) (suc x) = get_d_same n x

pub marked_more : (e : List ℕ) (y i : ℕ) (on : List Bool) (x : ℕ) → x < length on → x ≡ iterate i (entry_of e) y → IsMarked e y i on
    → IsMarked e y (i + 1) (set on x true)
marked_more e y i on x l s h = record {
  sound = λ u m. elim (ℕ_discrete u x) [
    | yes a ↦ (i, omega arith, a ∙ s)
    | no o ↦ let r = h.sound u (sym (get_or-set_other on x u true false o) ∙ m) in let b = r.1 in (r.0, omega arith, r.2)
  ];
  complete = λ j b. elim (ℕ_discrete (iterate j (entry_of e) y) x) [
    | yes a ↦ ap (λ u. get_or (set on x true) u false) a ∙ get_or-set_same on x true false l
    | no o ↦ get_or-set_other on x (iterate j (entry_of e) y) true false o ∙ h.complete j (before j b o)
  ];
}
  where
    before : (j : ℕ) → j < i + 1 → iterate j (entry_of e) y ≢ x → j < i
    before j b o = elim (ℕ_discrete j i) [ yes a ↦ absurd (o (ap (λ u. iterate u (entry_of e) y) a ∙ sym s)) | no a ↦ omega arith ]

-- ---- the contracted matrix

pub marked_start : (e : List ℕ) (y : ℕ) (on : List Bool) → IsMarked e y 8 on → get_or on y false ≡ true
unfolding iterate
marked_start e y on h = h.complete 0 (omega arith)
