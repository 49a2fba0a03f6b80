-- Edmonds: once the cheapest entries are paid, a circle of them costs nothing, and shrinking it changes no least cost. A tree of the
-- contracted matrix gives one of the larger: the circle's members keep their entries but for the one where the tree comes in. A tree of the
-- larger gives one of the smaller: the circle takes the entry of its member of least rank.
use Rattle.std.specs.Prelude.{◌≡◌, refl, ◌⊎◌, ◌≢◌, ◌||◌, pos, ◌+ℤ◌, ◌≤ℤ◌}
use Rattle.std.proofs.Math.Path.{sym, ap, subst⁻¹}
use Rattle.std.proofs.Common.{◌∙◌, subst, mul-le-mul_left, mul-suc, arith, eqb→eq}
use Rattle.std.proofs.Math.Logic.{inl, inr}
use Rattle.std.proofs.Math.Bool.{Bool, not, cond}
use mathlib.Core.List.{List, [], ◌∷◌, map, Memᴰ}
use Prim.Native.Nat.{ℕ, ◌+◌, ◌*◌, ◌≤◌, ◌<◌}
use Rattle.std.proofs.Math.Decide.{ℕ_discrete, dec_le}
use Rattle.std.proofs.Math.Dec.{T, eqb, eqb_refl, T_not, not_T}
use Rattle.std.proofs.Math.IntN.{ℤ}
use Rattle.std.specs.Int.Signed.{≤ℤ_refl}
use Rattle.integers.specs.Linear.{z, zl}
use Rattle.postman.specs.Lists.{select, occurrences, sum_ofℤ}
use Rattle.postman.specs.Laws.Tests.{cond_ind, or_left, or_right, or_cases, eqb_same}
use Rattle.postman.specs.Laws.Membership.{mem_select, select_mem, any_of_mem, any_of_at}
use Rattle.postman_laws.specs.Laws.Pick.{pick_of_mem, left_mem}
use Rattle.postman_laws.specs.Laws.Occurrences.{mem?, delta_yes, occurrences_pick, occurrences_of_mem}
use Rattle.postman_laws.specs.Laws.SignedSum.{≤ℤ-trans, sum_add, sum_pick}
use Rattle.cheapest_tree.specs.Cheapest.{Matrix, AreOthers, IsRootedTree, tree_cost, IsCheapest, AreEntries, IsReduced, IsCircle, is_among, shrunk, IsLeastOver, IsContraction}
use Rattle.postman_laws.specs.Laws.Lists.{map_cong}
use Rattle.cheapest_tree.specs.Laws.Iterates.{steps_to, steps_le, steps_fall}

-- ---- tests and sums

cond_yes : {A : Type 0} (b : Bool) (x y : A) → T b → cond b x y ≡ x
cond_yes b x y t = cond_ind b x y (λ w. w ≡ x) (λ u. refl) (λ u. absurd (T_not b u t))

cond_no : {A : Type 0} (b : Bool) (x y : A) → T (not b) → cond b x y ≡ y
cond_no b x y t = cond_ind b x y (λ w. w ≡ y) (λ u. absurd (T_not b t u)) (λ u. refl)

pub among_of : {q : ℕ} {cs : List ℕ} → Memᴰ q cs → T (is_among q cs)
unfolding is_among
among_of {q} {cs} m = any_of_mem (λ x. eqb x q) m (eqb_refl q)

pub of_among : (q : ℕ) (cs : List ℕ) → T (is_among q cs) → Memᴰ q cs
unfolding is_among
of_among q cs t = let r = any_of_at (λ x. eqb x q) cs t in subst (λ x. Memᴰ x cs) (eqb→eq r.0 q r.2) r.1

pub not_among : (q : ℕ) (cs : List ℕ) → (Memᴰ q cs → ⊥) → T (not (is_among q cs))
not_among q cs n = not_T (is_among q cs) (λ t. n (of_among q cs t))

-- what a test picks
on_yes : {A : Type 0} {q : ℕ} {cs : List ℕ} (x y : A) → Memᴰ q cs → cond (is_among q cs) x y ≡ x
on_yes {A} {q} {cs} x y m = cond_yes (is_among q cs) x y (among_of m)

on_no : {A : Type 0} {q : ℕ} {cs : List ℕ} (x y : A) → (Memᴰ q cs → ⊥) → cond (is_among q cs) x y ≡ y
on_no {A} {q} {cs} x y n = cond_no (is_among q cs) x y (not_among q cs n)

eq_yes : {A : Type 0} {q c : ℕ} (x y : A) → q ≡ c → cond (eqb q c) x y ≡ x
eq_yes {A} {q} {c} x y e = cond_yes (eqb q c) x y (eqb_same e)

eq_no : {A : Type 0} {q c : ℕ} (x y : A) → q ≢ c → cond (eqb q c) x y ≡ y
eq_no {A} {q} {c} x y n = cond_no (eqb q c) x y (not_T (eqb q c) (λ t. n (eqb→eq q c t)))

eq_self : {A : Type 0} (q : ℕ) (x y : A) → cond (eqb q q) x y ≡ x
eq_self q x y = cond_yes (eqb q q) x y (eqb_refl q)

sum_cong : (f g : ℕ → ℤ) (vs : List ℕ) → ((q : ℕ) → Memᴰ q vs → f q ≡ g q) → sum_ofℤ (map f vs) ≡ sum_ofℤ (map g vs)
sum_cong f g vs h = ap sum_ofℤ (map_cong f g vs h)

pub sum_mono : (f g : ℕ → ℤ) (vs : List ℕ) → ((q : ℕ) → Memᴰ q vs → f q ≤ℤ g q) → sum_ofℤ (map f vs) ≤ℤ sum_ofℤ (map g vs)
unfolding sum_ofℤ
sum_mono f g [] h = ≤ℤ_refl (pos 0)
sum_mono f g (q ∷ vs) h =
    let a = h q (mathlib.Core.List.Memᴰ.head refl) in
    let b = sum_mono f g vs (λ x m. h x (mathlib.Core.List.Memᴰ.tail m)) in
    simp zl (omega (arith, z))

sum_select : (keep : ℕ → Bool) (g : ℕ → ℤ) (vs : List ℕ)
    → sum_ofℤ (map g (select keep vs)) ≡ sum_ofℤ (map (λ q. cond (keep q) (g q) (pos 0)) vs)
unfolding sum_ofℤ select
sum_select keep g [] = refl
sum_select keep g (q ∷ vs) = picked (keep q) (sum_select keep g vs)
  where
    picked : (b : Bool) → sum_ofℤ (map g (select keep vs)) ≡ sum_ofℤ (map (λ q. cond (keep q) (g q) (pos 0)) vs)
        → sum_ofℤ (map g (cond b (q ∷ select keep vs) (select keep vs)))
        ≡ cond b (g q) (pos 0) +ℤ sum_ofℤ (map (λ q. cond (keep q) (g q) (pos 0)) vs)
    picked Bool.true r = ap (λ (x : ℤ). g q +ℤ x) r
    picked Bool.false r = simp zl (omega (arith, z))

-- a sum that differs from another at one place, where that one has 0
one_of : (f g : ℕ → ℤ) (x : ℕ) (vs : List ℕ) → Memᴰ x vs → occurrences x vs ≤ 1 → g x ≡ pos 0
    → ((q : ℕ) → Memᴰ q vs → q ≢ x → f q ≡ g q)
    → sum_ofℤ (map f vs) ≡ f x +ℤ sum_ofℤ (map g vs)
one_of f g x vs m o e h =
    let p = pick_of_mem m in
    let k = occurrences_pick x p.1 in
    let d = delta_yes {i = x} refl in
    let s = sum_cong f g p.0
    (λ q n. h q (left_mem p.1 n) (λ y. (let r = occurrences_of_mem (subst (λ q. Memᴰ q p.0) y n) in omega arith))) in
    let a = sum_pick f p.1 in
    let b = sum_pick g p.1 in
    rw (a, b, e, s) (simp zl (omega arith))

-- ---- trees

module _ {vs : List ℕ} {parent : ℕ → ℕ} (t : IsRootedTree vs parent) where
  pub parent_other : (q : ℕ) → Memᴰ q vs → parent q ≢ q
  parent_other q m e = let f = t.falls q m in let g = ap t.rank e in omega arith

-- entries that make a tree are a cheapest one
pub tree_of_entries : (vs : List ℕ) (w : Matrix) (entry : ℕ → ℕ) → AreEntries vs w entry → IsRootedTree vs entry
    → IsCheapest vs w (tree_cost w vs entry)
unfolding tree_cost
tree_of_entries vs w entry a t = record {
  tree = entry;
  is_tree_holds = t;
  attained = refl;
  least = λ parent s. sum_mono (λ q. w (entry q) q) (λ q. w (parent q) q) vs
      (λ q m. a.cheapest (parent q) q (s.inside q m) m (parent_other s q m));
}

-- the entries are paid, and the rest is solved with what is left
pub pay_entries : (vs : List ℕ) (w v : Matrix) (entry : ℕ → ℕ) (a : ℤ) → IsReduced vs w entry v → IsCheapest vs v a
    → IsCheapest vs w (tree_cost w vs entry +ℤ a)
unfolding tree_cost
pay_entries vs w v entry a r h = record {
  tree = h.tree;
  is_tree_holds = h.is_tree_holds;
  attained = costs h.tree h.is_tree_holds ∙ ap (λ (x : ℤ). tree_cost w vs entry +ℤ x) h.attained;
  least = λ parent s.
      (let l = h.least parent s in subst⁻¹ (λ (x : ℤ). (tree_cost w vs entry +ℤ a) ≤ℤ x) (costs parent s) (simp zl (omega (arith, z))));
}
  where
    costs : (parent : ℕ → ℕ) → IsRootedTree vs parent → sum_ofℤ (map (λ q. w (parent q) q) vs) ≡ tree_cost w vs entry
        +ℤ tree_cost v vs parent
    costs parent s =
        sum_cong (λ q. w (parent q) q) (λ q. w (entry q) q +ℤ v (parent q) q) vs (λ q m.
        (let e = r.reduced (parent q) q (s.inside q m) m (parent_other s q m) in rw e (simp zl (omega arith))))
        ∙ sum_add (λ q. w (entry q) q) (λ q. v (parent q) q) vs

-- ---- the circle, shrunk

module _ (vs cs : List ℕ) (c d : ℕ) (entry : ℕ → ℕ) (v w : Matrix) (others : AreOthers vs) (circle : IsCircle vs entry cs d)
    (mc : Memᴰ c cs)
    (free : (q : ℕ) → Memᴰ q vs → v (entry q) q ≡ pos 0)
    (nonneg : (p q : ℕ) → Memᴰ p (0 ∷ vs) → Memᴰ q vs → p ≢ q → pos 0 ≤ℤ v p q)
    (k : IsContraction vs cs c v w) where
  abbrev few : List ℕ
  few = shrunk cs c vs

  mem_few : {q : ℕ} → Memᴰ q vs → (Memᴰ q cs → ⊥) → Memᴰ q few
  unfolding shrunk
  mem_few {q} m n = mem_select (λ q. not (is_among q cs) || eqb q c) m (or_left (not (is_among q cs)) (eqb q c) (not_among q cs n))

  c_few : Memᴰ c few
  unfolding shrunk
  c_few = mem_select (λ q. not (is_among q cs) || eqb q c) (circle.among c mc) (or_right (not (is_among c cs)) (eqb c c) (eqb_refl c))

  few_mem : {q : ℕ} → Memᴰ q few → Memᴰ q vs × ((Memᴰ q cs → ⊥) ⊎ (q ≡ c))
  unfolding shrunk
  few_mem {q} m =
      let r = select_mem (λ q. not (is_among q cs) || eqb q c) vs m in (
        r.0,
        elim (or_cases (not (is_among q cs)) (eqb q c) r.1) [
          | inl t ↦ inl (λ n. T_not (is_among q cs) t (among_of n))
          | inr t ↦
              inr (eqb→eq q c t)
        ],
      )

  root_off : {q : ℕ} → q ≡ 0 → Memᴰ q cs → ⊥
  root_off {q} e m = others.positive q (circle.among q m) e

  -- off the circle, or the root
  up : {q : ℕ} → Memᴰ q (0 ∷ few) → Memᴰ q (0 ∷ vs)
  up m = elim (mathlib.Core.List.Memᴰ.cases_cons m) [
    | inl e ↦ mathlib.Core.List.Memᴰ.head e
    | inr n ↦ mathlib.Core.List.Memᴰ.tail
        (few_mem n).0
  ]

  down : {q : ℕ} → Memᴰ q (0 ∷ vs) → (Memᴰ q cs → ⊥) → Memᴰ q (0 ∷ few)
  down m n = elim (mathlib.Core.List.Memᴰ.cases_cons m) [
    | inl e ↦ mathlib.Core.List.Memᴰ.head e
    | inr h ↦ mathlib.Core.List.Memᴰ.tail
        (mem_few h n)
  ]

  off : {q : ℕ} → Memᴰ q (0 ∷ few) → q ≢ c → Memᴰ q cs → ⊥
  off m o n = elim (mathlib.Core.List.Memᴰ.cases_cons m) [
    | inl e ↦ root_off e n
    | inr h ↦ elim (few_mem h).1 [ inl x ↦ x n | inr e ↦ o e ]
  ]

  -- a sum with nothing on the circle
  abbrev outside : (ℕ → ℤ) → ℕ → ℤ
  outside g q = cond (is_among q cs) (pos 0) (g q)

  few_sum : (g : ℕ → ℤ) → sum_ofℤ (map g few) ≡ g c +ℤ sum_ofℤ (map (outside g) vs)
  unfolding shrunk
  few_sum g =
      let keep : ℕ → Bool = λ q. not (is_among q cs) || eqb q c in
      let f : ℕ → ℤ = λ q. cond (keep q) (g q) (pos 0) in
      sum_select keep g vs
      ∙ one_of f (outside g) c vs (circle.among c mc) (others.once c) (on_yes (pos 0) (g c) mc) (λ q m o. elim (mem? q cs) [
        | inl n ↦ cond_no (keep q) (g q) (pos 0) (not_kept q n o) ∙ sym (on_yes (pos 0) (g q) n)
        | inr n ↦ cond_yes (keep q) (g q) (pos 0) (or_left (not (is_among q cs)) (eqb q c) (not_among q cs n)) ∙ sym (on_no (pos 0) (g q) n)
      ])
      ∙ ap (λ (x : ℤ). x +ℤ sum_ofℤ (map (outside g) vs))
      (cond_yes (keep c) (g c) (pos 0) (or_right (not (is_among c cs)) (eqb c c) (eqb_refl c)))
    where
      not_kept : (q : ℕ) → Memᴰ q cs → q ≢ c → T (not (not (is_among q cs) || eqb q c))
      not_kept q n o =
          not_T (not (is_among q cs) || eqb q c)
          (λ t. elim (or_cases (not (is_among q cs)) (eqb q c) t)
          [ inl a ↦ T_not (is_among q cs) a (among_of n) | inr e ↦ o (eqb→eq q c e) ])

  -- ---- a tree of the contracted matrix gives one of the larger, at the same cost

  module _ (parent : ℕ → ℕ) (t : IsRootedTree few parent) where
    abbrev p₀ : ℕ
    p₀ = parent c

    p₀_off : Memᴰ p₀ cs → ⊥
    p₀_off = off (t.inside c c_few) (parent_other t c c_few)

    -- where the tree comes into the circle
    come : IsLeastOver cs (λ q. v p₀ q) (w p₀ c)
    come = k.into p₀ (up (t.inside c c_few)) p₀_off

    abbrev x₀ : ℕ
    x₀ = come.at

    -- the member of the circle from which q is entered
    leave : (q : ℕ) → (p : ℕ) × (Memᴰ q vs → (Memᴰ q cs → ⊥) → Memᴰ p cs × (w c q ≡ v p q))
    leave q = elim (mem? q vs) [
      | inr n ↦ (0, λ m. absurd (n m))
      | inl m ↦ elim (mem? q cs) [
        | inl n ↦ (0, λ m o. absurd (o n))
        | inr o ↦ let r = k.from q m o in (r.at, λ m o. (r.member, r.attained))
      ]
    ]

    expanded : ℕ → ℕ
    expanded q = cond (is_among q cs) (cond (eqb q x₀) p₀ (entry q)) (cond (eqb (parent q) c) (leave q).0 (parent q))

    at_x₀ : (q : ℕ) → Memᴰ q cs → q ≡ x₀ → expanded q ≡ p₀
    unfolding expanded
    at_x₀ q m e = on_yes (cond (eqb q x₀) p₀ (entry q)) (cond (eqb (parent q) c) (leave q).0 (parent q)) m ∙ eq_yes p₀ (entry q) e

    on_circle : (q : ℕ) → Memᴰ q cs → q ≢ x₀ → expanded q ≡ entry q
    unfolding expanded
    on_circle q m o = on_yes (cond (eqb q x₀) p₀ (entry q)) (cond (eqb (parent q) c) (leave q).0 (parent q)) m ∙ eq_no p₀ (entry q) o

    from_circle : (q : ℕ) → (Memᴰ q cs → ⊥) → parent q ≡ c → expanded q ≡ (leave q).0
    unfolding expanded
    from_circle q n e =
        on_no (cond (eqb q x₀) p₀ (entry q)) (cond (eqb (parent q) c) (leave q).0 (parent q)) n ∙ eq_yes (leave q).0 (parent q) e

    elsewhere : (q : ℕ) → (Memᴰ q cs → ⊥) → parent q ≢ c → expanded q ≡ parent q
    unfolding expanded
    elsewhere q n o =
        on_no (cond (eqb q x₀) p₀ (entry q)) (cond (eqb (parent q) c) (leave q).0 (parent q)) n ∙ eq_no (leave q).0 (parent q) o

    -- what holds of the four kinds of components holds of all
    cases : (P : ℕ → ℕ → Type 0) → P x₀ p₀ → ((q : ℕ) → Memᴰ q cs → q ≢ x₀ → P q (entry q))
        → ((q : ℕ) → Memᴰ q vs → (Memᴰ q cs → ⊥) → parent q ≡ c → P q (leave q).0)
        → ((q : ℕ) → Memᴰ q vs → (Memᴰ q cs → ⊥) → parent q ≢ c → P q (parent q)) → (q : ℕ) → Memᴰ q vs → P q (expanded q)
    cases P a b f g q m = elim (mem? q cs) [
      | inl n ↦ elim (ℕ_discrete q x₀) [
        | yes e ↦ subst⁻¹ (P q) (at_x₀ q n e) (subst⁻¹ (λ x. P x p₀) e a)
        | no o ↦ subst⁻¹ (P q) (on_circle q n o) (b q n o)
      ]
      | inr n ↦ elim (ℕ_discrete (parent q) c) [
        | yes e ↦ subst⁻¹ (P q) (from_circle q n e) (f q m n e)
        | no o ↦ subst⁻¹ (P q) (elsewhere q n o) (g q m n o)
      ]
    ]

    height : ℕ → ℕ
    height q = cond (is_among q cs) (d * t.rank c + steps_to entry x₀ d q) (d * t.rank q)

    height_on : (q : ℕ) → Memᴰ q cs → height q ≡ d * t.rank c + steps_to entry x₀ d q
    unfolding height
    height_on q m = on_yes (d * t.rank c + steps_to entry x₀ d q) (d * t.rank q) m

    height_off : (q : ℕ) → (Memᴰ q cs → ⊥) → height q ≡ d * t.rank q
    unfolding height
    height_off q n = on_no (d * t.rank c + steps_to entry x₀ d q) (d * t.rank q) n

    higher : (x y : ℕ) → x < y → d * x + d ≤ d * y
    higher x y l = let a = mul-le-mul_left d l in let b = mul-suc d x in omega arith

    steps_lt : (q : ℕ) → Memᴰ q cs → steps_to entry x₀ d q < d
    steps_lt q m = let r = circle.around q x₀ m come.member in let l = r.1 in let s = (steps_le entry x₀ d q r.0 l r.2).0 in
        omega arith

    expanded_tree : IsRootedTree vs expanded
    expanded_tree = record {
      inside = cases (λ q p. Memᴰ p (0 ∷ vs)) (up (t.inside c c_few))
          (λ q m o. mathlib.Core.List.Memᴰ.tail (circle.among (entry q) (circle.closed q m)))
          (λ q m n e. mathlib.Core.List.Memᴰ.tail (circle.among (leave q).0 ((leave q).1 m n).0))
          (λ q m n o. up (t.inside q (mem_few m n)));
      rank = height;
      falls = cases (λ q p. height p < height q)
          (let a = height_off p₀ p₀_off in let b = height_on x₀ come.member in
          let h = higher (t.rank p₀) (t.rank c) (t.falls c c_few) in let s = steps_lt x₀ come.member in omega arith)
          (λ q m o. (let a = height_on q m in let b = height_on (entry q) (circle.closed q m) in
          let r = circle.around q x₀ m come.member in let f = steps_fall entry x₀ d q r.0 r.1 r.2 o in omega arith))
          (λ q m n e.
          (let l = ((leave q).1 m n).0 in let a = height_on (leave q).0 l in let b = height_off q n in let s = steps_lt (leave q).0 l in
          let h = higher (t.rank c) (t.rank q) (subst (λ x. t.rank x < t.rank q) e (t.falls q (mem_few m n))) in omega arith))
          (λ q m n o.
          (let a = height_off (parent q) (off (t.inside q (mem_few m n)) o) in let b = height_off q n in
          let h = higher (t.rank (parent q)) (t.rank q) (t.falls q (mem_few m n)) in
          let s = steps_lt x₀ come.member in omega arith));
    }

    expanded_cost : tree_cost v vs expanded ≡ tree_cost w few parent
    unfolding tree_cost
    expanded_cost =
        let g : ℕ → ℤ = λ q. w (parent q) q in
        let f : ℕ → ℤ = λ q. v (expanded q) q in
        one_of f (outside g) x₀ vs (circle.among x₀ come.member) (others.once x₀) (on_yes (pos 0) (g x₀) come.member)
        (λ q m o. cases (λ q p. q ≢ x₀ → v p q ≡ outside g q) (λ n. absurd (n refl))
        (λ q n o h. free q (circle.among q n) ∙ sym (on_yes (pos 0) (g q) n))
        (λ q m n e h. sym (on_no (pos 0) (g q) n ∙ ap (λ x. w x q) e ∙ ((leave q).1 m n).1))
        (λ q m n o h. sym
        (on_no (pos 0) (g q) n ∙ k.same (parent q) q (up (t.inside q (mem_few m n))) m (off (t.inside q (mem_few m n)) o) n)) q m o)
        ∙ ap (λ (x : ℤ). x +ℤ sum_ofℤ (map (outside g) vs)) (ap (λ x. v x x₀) (at_x₀ x₀ come.member refl) ∙ sym come.attained)
        ∙ sym (few_sum g)

  -- ---- a tree of the larger gives one of the smaller that costs no more

  least_rank : (r : ℕ → ℕ) {q : ℕ} (xs : List ℕ) → Memᴰ q xs → (x : ℕ) × Memᴰ x xs × ((y : ℕ) → Memᴰ y xs → r x ≤ r y)
  least_rank r [] m = elim m [ ]
  least_rank r (x ∷ []) m = (
    x,
    mathlib.Core.List.Memᴰ.head refl,
    λ y n. elim (mathlib.Core.List.Memᴰ.cases_cons n)
        [ inl e ↦ (let h = ap r e in omega arith) | inr o ↦ elim o [ ] ],
  )
  least_rank r (x ∷ x' ∷ xs) m =
      let s = least_rank r (x' ∷ xs) (mathlib.Core.List.Memᴰ.head refl) in
      elim (dec_le (r x) (r s.0)) [
        | yes l ↦ (
          x,
          mathlib.Core.List.Memᴰ.head refl,
          λ y n. elim (mathlib.Core.List.Memᴰ.cases_cons n) [
            | inl e ↦ (let h = ap r e in omega arith)
            | inr o ↦
                (let h = s.2 y o in omega arith)
          ],
        )
        | no l ↦ (
          s.0,
          mathlib.Core.List.Memᴰ.tail s.1,
          λ y n. elim (mathlib.Core.List.Memᴰ.cases_cons n) [ inl e ↦ (let h = ap r e in omega arith) | inr o ↦ s.2 y o ],
        )
      ]

  module _ (parent : ℕ → ℕ) (t : IsRootedTree vs parent) where
    lowest : (x : ℕ) × Memᴰ x cs × ((y : ℕ) → Memᴰ y cs → t.rank x ≤ t.rank y)
    lowest = least_rank t.rank cs mc

    abbrev x₁ : ℕ
    x₁ = lowest.0

    x₁_mem : Memᴰ x₁ vs
    x₁_mem = circle.among x₁ lowest.1

    above_off : Memᴰ (parent x₁) cs → ⊥
    above_off m = let a = lowest.2 (parent x₁) m in let b = t.falls x₁ x₁_mem in omega arith

    contracted : ℕ → ℕ
    contracted q = cond (eqb q c) (parent x₁) (cond (is_among (parent q) cs) c (parent q))

    at_c : (q : ℕ) → q ≡ c → contracted q ≡ parent x₁
    unfolding contracted
    at_c q e = eq_yes (parent x₁) (cond (is_among (parent q) cs) c (parent q)) e

    into_c : (q : ℕ) → q ≢ c → Memᴰ (parent q) cs → contracted q ≡ c
    unfolding contracted
    into_c q o m = eq_no (parent x₁) (cond (is_among (parent q) cs) c (parent q)) o ∙ on_yes c (parent q) m

    kept : (q : ℕ) → q ≢ c → (Memᴰ (parent q) cs → ⊥) → contracted q ≡ parent q
    unfolding contracted
    kept q o n = eq_no (parent x₁) (cond (is_among (parent q) cs) c (parent q)) o ∙ on_no c (parent q) n

    few_cases : (P : ℕ → ℕ → Type 0) → P c (parent x₁)
        → ((q : ℕ) → Memᴰ q vs → (Memᴰ q cs → ⊥) → q ≢ c → Memᴰ (parent q) cs → P q c)
        → ((q : ℕ) → Memᴰ q vs → (Memᴰ q cs → ⊥) → q ≢ c → (Memᴰ (parent q) cs → ⊥) → P q (parent q)) → (q : ℕ)
        → Memᴰ q few → P q (contracted q)
    few_cases P a f g q m = elim (ℕ_discrete q c) [
      | yes e ↦ subst⁻¹ (P q) (at_c q e) (subst⁻¹ (λ x. P x (parent x₁)) e a)
      | no o ↦
          let r = few_mem m in
          let n : Memᴰ q cs → ⊥ = λ x. off (mathlib.Core.List.Memᴰ.tail m) o x in
          elim (mem? (parent q) cs) [
            | inl h ↦ subst⁻¹ (P q) (into_c q o h) (f q r.0 n o h)
            | inr h ↦ subst⁻¹ (P q) (kept q o h) (g q r.0 n o h)
          ]
    ]

    level : ℕ → ℕ
    level q = cond (eqb q c) (t.rank x₁) (t.rank q)

    level_c : level c ≡ t.rank x₁
    unfolding level
    level_c = eq_self c (t.rank x₁) (t.rank c)

    level_other : (q : ℕ) → q ≢ c → level q ≡ t.rank q
    unfolding level
    level_other q o = eq_no (t.rank x₁) (t.rank q) o

    not_c : {q : ℕ} → (Memᴰ q cs → ⊥) → q ≢ c
    not_c n e = n (subst⁻¹ (λ x. Memᴰ x cs) e mc)

    contracted_tree : IsRootedTree few contracted
    contracted_tree = record {
      inside = few_cases (λ q p. Memᴰ p (0 ∷ few)) (down (t.inside x₁ x₁_mem) above_off) (λ q m n o h. mathlib.Core.List.Memᴰ.tail c_few)
          (λ q m n o h. down (t.inside q m) h);
      rank = level;
      falls = few_cases (λ q p. level p < level q)
          (let a = level_other (parent x₁) (not_c above_off) in let b = level_c in let f = t.falls x₁ x₁_mem in omega arith)
          (λ q m n o h.
          (let a = level_c in let b = level_other q o in let f = t.falls q m in let l = lowest.2 (parent q) h in omega arith))
          (λ q m n o h. (let a = level_other (parent q) (not_c h) in let b = level_other q o in let f = t.falls q m in omega arith));
    }

    contracted_cost : tree_cost w few contracted ≤ℤ tree_cost v vs parent
    unfolding tree_cost
    contracted_cost =
        let g : ℕ → ℤ = λ q. w (contracted q) q in
        let x : ℤ = v (parent x₁) x₁ in
        let h : ℕ → ℤ = λ q. cond (is_among q cs) (cond (eqb q x₁) x (pos 0)) (g q) in
        let a = few_sum g in
        let b = one_of h (outside g) x₁ vs x₁_mem (others.once x₁) (on_yes (pos 0) (g x₁) lowest.1) (λ q m o. elim (mem? q cs) [
          | inl n ↦ on_yes (cond (eqb q x₁) x (pos 0)) (g q) n ∙ eq_no x (pos 0) o ∙ sym (on_yes (pos 0) (g q) n)
          | inr n ↦ on_no (cond (eqb q x₁) x (pos 0)) (g q) n ∙ sym (on_no (pos 0) (g q) n)
        ]) in
        let e : h x₁ ≡ x = on_yes (cond (eqb x₁ x₁) x (pos 0)) (g x₁) lowest.1 ∙ eq_self x₁ x (pos 0) in
        let f : g c ≤ℤ x =
        subst⁻¹ (λ p. w p c ≤ℤ x) (at_c c refl) ((k.into (parent x₁) (t.inside x₁ x₁_mem) above_off).least x₁ lowest.1) in
        let s : sum_ofℤ (map h vs) ≤ℤ sum_ofℤ (map (λ q. v (parent q) q) vs) = sum_mono h (λ q. v (parent q) q) vs below_it in
        let i : sum_ofℤ (map g few) ≤ℤ sum_ofℤ (map h vs) = rw (a, b, e) (simp zl (omega (arith, z))) in
        ≤ℤ-trans i s
      where
        below_it : (q : ℕ) → Memᴰ q vs
            → cond (is_among q cs) (cond (eqb q x₁) (v (parent x₁) x₁) (pos 0)) (w (contracted q) q) ≤ℤ v (parent q) q
        below_it q m = elim (mem? q cs) [
          | inl n ↦ subst⁻¹ (λ (y : ℤ). y ≤ℤ v (parent q) q) (on_yes (cond (eqb q x₁) (v (parent x₁) x₁) (pos 0)) (w (contracted q) q) n)
              (elim (ℕ_discrete q x₁) [
                | yes e ↦ subst⁻¹ (λ (y : ℤ). y ≤ℤ v (parent q) q) (eq_yes (v (parent x₁) x₁) (pos 0) e)
                    (subst (λ y. v (parent x₁) x₁ ≤ℤ v (parent y) y) (sym e) (≤ℤ_refl (v (parent x₁) x₁)))
                | no o ↦ subst⁻¹ (λ (y : ℤ). y ≤ℤ v (parent q) q) (eq_no (v (parent x₁) x₁) (pos 0) o)
                    (nonneg (parent q) q (t.inside q m) m (parent_other t q m))
              ])
          | inr n ↦ subst⁻¹ (λ (y : ℤ). y ≤ℤ v (parent q) q) (on_no (cond (eqb q x₁) (v (parent x₁) x₁) (pos 0)) (w (contracted q) q) n)
              (few_cases (λ q p. Memᴰ q vs → (Memᴰ q cs → ⊥) → w p q ≤ℤ v (parent q) q) (λ m n. absurd (n mc))
              (λ q m n o h m' n'. (k.from q m n).least (parent q) h)
              (λ q m n o h m' n'. subst⁻¹ (λ (y : ℤ). y ≤ℤ v (parent q) q) (k.same (parent q) q (t.inside q m) m h n)
              (≤ℤ_refl (v (parent q) q))) q (mem_few m n) m n)
        ]

  -- shrinking the circle changes no least cost
  pub shrink_circle : (a : ℤ) → IsCheapest few w a → IsCheapest vs v a
  shrink_circle a h = record {
    tree = expanded h.tree h.is_tree_holds;
    is_tree_holds = expanded_tree h.tree h.is_tree_holds;
    attained = expanded_cost h.tree h.is_tree_holds ∙ h.attained;
    least = λ parent t. ≤ℤ-trans (h.least (contracted parent t) (contracted_tree parent t)) (contracted_cost parent t);
  }
