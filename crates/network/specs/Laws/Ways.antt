-- The ways by a third vertex, counted: after k + 1 turns one more where k is on one, and none where the count is 0.
use Rattle.std.specs.Prelude.{◌≡◌, Bool, cond, ◌&&◌, List, ℕ, ◌+◌, ◌*◌, ◌≤◌, ◌<◌, get_or}
use Rattle.std.proofs.Math.Path.{refl, ap, subst⁻¹}
use Rattle.std.proofs.Common.{sym, ◌∙◌, arith}
use Rattle.std.proofs.Math.Bool.{true, false}
use borrow.Author.Tests.{ltb-true, eqb-true, lt-ltb, le-ltb, eq-eqb}
use Rattle.std.proofs.Math.Dec.{T, eqb, ltb}
use Rattle.std.proofs.Math.ListN.{length}
use Rattle.postman.specs.Lists.{select, below, up_from}
use Rattle.postman_laws.specs.Laws.Selection.{select_more, select_place}
use Rattle.network.specs.Thinning.{far, ways_of, has_no_way}

none_below : (x y z : ℕ) → x < y → y ≡ z → z ≡ 0 → ⊥
none_below x y z l e f = omega arith

module _ (row columns : List ℕ) (j a : ℕ) where
  abbrev pub sum_at : ℕ → ℕ
  sum_at k = get_or row k 0 + get_or columns (j * 64 + k) 0

  -- those by the first k vertices
  unfoldable pub ways_by : ℕ → ℕ
  unfolding select below
  ways_by k = length (select (λ v. eqb (sum_at v) a) (below k))

  pub ways_none : ways_by 0 ≡ 0
  unfolding ways_by select below up_from
  ways_none = refl

  pub ways_more : (k n x : ℕ) → n ≡ ways_by k → x ≡ cond (eqb (sum_at k) a) 1 0 → n + x ≡ ways_by (k + 1)
  unfolding ways_by
  ways_more k n x e f = let m = select_more (λ v. eqb (sum_at v) a) k in rw (e, f) (sym m)

  pub ways_all : ways_by 64 ≡ ways_of row columns j a
  unfolding ways_by ways_of
  ways_all = refl

  counted : (k n : ℕ) → k < n → sum_at k ≡ a → ways_by k < ways_by n
  unfolding ways_by
  counted k n l s = (select_place (λ v. eqb (sum_at v) a) k n l (eq-eqb (sum_at k) a s)).0

  pub no_way : has_no_way row columns j a ≡ true → (a < far) × ((k : ℕ) → k < 64 → sum_at k ≡ a → ⊥)
  unfolding has_no_way
  no_way e = by (ltb a far) (eqb (ways_of row columns j a) 0) refl refl e
    where
      by : (b c : Bool) → ltb a far ≡ b → eqb (ways_of row columns j a) 0 ≡ c → b && c ≡ true
          → (a < far) × ((k : ℕ) → k < 64 → sum_at k ≡ a → ⊥)
      by true true f g q = (
        ltb-true a far f,
        λ k l s. none_below (ways_by k) (ways_by 64) (ways_of row columns j a) (counted k 64 l s) ways_all
            (eqb-true (ways_of row columns j a) 0 g),
      )
      by true false f g q = absurd (subst⁻¹ T q tt)
      by false c f g q = absurd (subst⁻¹ T q tt)

  pub near_test : a < far → (n : ℕ) → n ≡ ways_of row columns j a → eqb n 0 ≡ has_no_way row columns j a
  unfolding has_no_way
  near_test l n e = ap (λ (x : ℕ). eqb x 0) e ∙ ap (λ (b : Bool). b && eqb (ways_of row columns j a) 0) (sym (lt-ltb a far l))

  pub far_test : far ≤ a → false ≡ has_no_way row columns j a
  unfolding has_no_way
  far_test l = ap (λ (b : Bool). b && eqb (ways_of row columns j a) 0) (sym (le-ltb a far l))
