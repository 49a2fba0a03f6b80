-- Steps that lead to a place, the number of them, and steps that go round.
use Rattle.std.specs.Prelude.{◌≡◌, refl, ◌⊎◌, ◌≢◌, length}
use Rattle.std.proofs.Math.Path.{sym, ap, subst⁻¹}
use Rattle.std.proofs.Common.{◌∙◌, subst, zero-add, suc-add, add-zero, add-suc, T_not}
use Rattle.std.proofs.Math.Logic.{inl, inr}
use Rattle.std.proofs.Math.Bool.{Bool}
use mathlib.Core.List.{List, [], ◌∷◌, Memᴰ}
use Prim.Native.Nat.{ℕ, zero, suc, ◌+◌, ◌-◌, ◌≤◌, ◌<◌}
use Rattle.std.proofs.Math.Decide.{ℕ_discrete, dec_lt}
use native.Mathlib.Omega.{arith}
use Rattle.std.proofs.Math.Dec.{T, eqb, eqb→eq}
use Rattle.postman.specs.Lists.{below, up_from, iterate, first_index}
use Rattle.postman.specs.Laws.Tests.{cond_ind, eqb_same}
use Rattle.postman_laws.specs.Laws.Pick.{pick_of_mem, pick_length, pick_cases}
use Rattle.postman_laws.specs.Laws.Iteration.{iterate_add}

pub iterate_last : (n : ℕ) (f : ℕ → ℕ) (x : ℕ) → iterate (suc n) f x ≡ f (iterate n f x)
unfolding iterate
iterate_last zero f x = refl
iterate_last (suc n) f x = iterate_last n f (f x)

-- ---- how many steps lead to a place

index_from : (f : ℕ → Bool) (a n i : ℕ) → i < n → T (f (a + i))
    → (first_index f (up_from a n) ≤ i) × T (f (a + first_index f (up_from a n)))
unfolding first_index up_from
index_from f a zero i l t = absurd (omega arith)
index_from f a (suc n) zero l t =
    cond_ind (f a) 0 (suc (first_index f (up_from (suc a) n))) (λ z. (z ≤ 0) × T (f (a + z)))
    (λ u. (omega arith, subst⁻¹ (λ z. T (f z)) (add-zero a) u)) (λ u. absurd (T_not (f a) u (subst (λ z. T (f z)) (add-zero a) t)))
index_from f a (suc n) (suc i) l t =
    let r = index_from f (suc a) n i (omega arith) (subst (λ z. T (f z)) (add-suc a i ∙ sym (suc-add a i)) t) in
    let b = r.0 in
    let x = first_index f (up_from (suc a) n) in
    cond_ind (f a) 0 (suc x) (λ z. (z ≤ suc i) × T (f (a + z)))
    (λ u. (omega arith, subst⁻¹ (λ z. T (f z)) (add-zero a) u))
    (λ u. (omega arith, subst (λ z. T (f z)) (suc-add a x ∙ sym (add-suc a x)) r.1))

module _ (f : ℕ → ℕ) (z d : ℕ) where
  -- the least number of steps from x to z, where it is below d
  unfoldable pub steps_to : ℕ → ℕ
  unfolding first_index below iterate
  steps_to x = first_index (λ n. eqb (iterate n f x) z) (below d)

  pub steps_le : (x n : ℕ) → n < d → iterate n f x ≡ z → (steps_to x ≤ n) × (iterate (steps_to x) f x ≡ z)
  unfolding steps_to below
  steps_le x n l h =
      let g : ℕ → Bool = λ n. eqb (iterate n f x) z in
      let r = index_from g 0 d n l (subst⁻¹ (λ i. T (g i)) (zero-add n) (eqb_same h)) in
      let e = eqb→eq (iterate (0 + first_index g (up_from 0 d)) f x) z r.1 in
      (r.0, ap (λ i. iterate i f x) (sym (zero-add (first_index g (up_from 0 d)))) ∙ e)

  -- a step brings it nearer
  pub steps_fall : (x n : ℕ) → n < d → iterate n f x ≡ z → x ≢ z → steps_to (f x) < steps_to x
  unfolding iterate
  steps_fall x n l h o = let r = steps_le x n l h in nearer (steps_to x) r.1 r.0
    where
      nearer : (m : ℕ) → iterate m f x ≡ z → m ≤ n → steps_to (f x) < m
      nearer zero e b = absurd (o e)
      nearer (suc m) e b = let r = steps_le (f x) m (omega arith) e in let q = r.0 in omega arith

-- ---- steps among few places come back

module _ (f : ℕ → ℕ) where
  -- x again, within n steps
  again? : (n x y : ℕ) → ((j : ℕ) × (j ≤ n) × (iterate j f y ≡ x)) ⊎ ((j : ℕ) → j ≤ n → iterate j f y ≢ x)
  unfolding iterate
  again? zero x y =
      elim (ℕ_discrete y x) [
        | yes e ↦ inl (0, omega arith, e)
        | no o ↦
            inr (λ j b. subst⁻¹ (λ i. iterate i f y ≢ x) (let e : j ≡ 0 = omega arith in e) o)
      ]
  again? (suc n) x y = elim (ℕ_discrete y x) [
    | yes e ↦ inl (0, omega arith, e)
    | no o ↦ elim (again? n x (f y)) [
      | inl r ↦ let b = r.1 in inl (suc r.0, omega arith, r.2)
      | inr r ↦ inr (λ j b. later o r j b)
    ]
  ]
    where
      later : y ≢ x → ((j : ℕ) → j ≤ n → iterate j f (f y) ≢ x) → (j : ℕ) → j ≤ suc n → iterate j f y ≢ x
      later o r zero b = o
      later o r (suc j) b = r j (omega arith)

  pigeonhole : (n x : ℕ) (vs : List ℕ) → length vs ≤ n → ((i : ℕ) → i ≤ n → Memᴰ (iterate i f x) vs)
      → (i : ℕ) × (j : ℕ) × (i < j) × (j ≤ n) × (iterate i f x ≡ iterate j f x)
  unfolding iterate
  pigeonhole zero x [] l h = elim (h 0 (omega arith)) [ ]
  pigeonhole zero x (v ∷ vs) l h = absurd (omega arith)
  pigeonhole (suc n) x vs l h = elim (again? n x (f x)) [
    | inl r ↦ let b = r.1 in (0, suc r.0, omega arith, omega arith, sym r.2)
    | inr r ↦
        let p = pick_of_mem (h 0 (omega arith)) in
        let k = pick_length p.1 in
        let q = pigeonhole n (f x) p.0 (omega arith)
        (λ i b. elim (pick_cases p.1 (h (suc i) (omega arith))) [ inl e ↦ absurd (r i b e) | inr m ↦ m ]) in
        let b = q.2 in
        let g = q.3 in
        (suc q.0, suc q.1, omega arith, omega arith, q.4)
  ]

  -- after n steps among no more than n places one goes round
  pub goes_round : (n x : ℕ) (vs : List ℕ) → length vs ≤ n → ((i : ℕ) → i ≤ n → Memᴰ (iterate i f x) vs)
      → (m : ℕ) × (1 ≤ m) × (m ≤ n) × (iterate m f (iterate n f x) ≡ iterate n f x)
  goes_round n x vs l h =
      let r = pigeonhole n x vs l h in
      let i = r.0 in
      let j = r.1 in
      let a = r.2 in
      let b = r.3 in
      let e : i + (n - i) ≡ n = omega arith in
      let g : j + (n - i) ≡ n + (j - i) = omega arith in (
        j - i,
        omega arith,
        omega arith,
        sym (iterate_add n (j - i) f x) ∙ ap (λ z. iterate z f x) (sym g) ∙ iterate_add j (n - i) f x ∙ ap (iterate (n - i) f) (sym r.4)
            ∙ sym (iterate_add i (n - i) f x) ∙ ap (λ z. iterate z f x) e,
      )

  -- round a circle of m steps, what is reached at all is reached in fewer than m
  pub reduce : (m y : ℕ) → 1 ≤ m → iterate m f y ≡ y → (i : ℕ) → (j : ℕ) × (j < m) × (iterate i f y ≡ iterate j f y)
  unfolding iterate
  reduce m y l h zero = (0, l, refl)
  reduce m y l h (suc i) =
      let r = reduce m y l h i in
      let j = r.0 in
      let b = r.1 in
      let e = iterate_last i f y ∙ ap f r.2 ∙ sym (iterate_last j f y) in
      elim (dec_lt (suc j) m) [
        | yes g ↦ (suc j, g, e)
        | no g ↦ let n : suc j ≡ m = omega arith in (0, l, e ∙ ap (λ z. iterate z f y) n ∙ h)
      ]
