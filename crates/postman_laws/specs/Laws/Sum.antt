-- Sums of naturals over a list of vertices. By induction on the list.
use Rattle.std.specs.Prelude.{◌≡◌, refl, ◌≢◌, ℕ, ◌+◌, ◌*◌, ◌≤◌, ◌<◌, eqb}
use Rattle.std.proofs.Common.{sym, ap, ap₂, ◌∙◌, zero-mul, mul-zero, add-mul, mul-add, mul_comm, mul-one, arith, eqb→eq}
use Rattle.std.proofs.Math.Path.{fun_ext}
use mathlib.Core.List.{List, [], ◌∷◌, ◌++◌, Memᴰ}
use Rattle.std.proofs.Math.Decide.{ℕ_discrete, dec_le}
use Rattle.postman.specs.Lists.{delta, occurrences}
use Rattle.postman.specs.Balancing.{sum_over}
use Rattle.postman.specs.Laws.Tests.{cond_ind}
use Rattle.postman_laws.specs.Laws.Occurrences.{delta_yes, delta_no, delta_sym, occurrences_of_mem}

-- ---- terms that agree, or are no larger

pub sum_cong : (vs : List ℕ) (g h : ℕ → ℕ) → ((i : ℕ) → g i ≡ h i) → sum_over vs g ≡ sum_over vs h
sum_cong vs g h e = ap (sum_over vs) (fun_ext e)

pub sum_cong_mem : (vs : List ℕ) (g h : ℕ → ℕ) → ((i : ℕ) → Memᴰ i vs → g i ≡ h i) → sum_over vs g ≡ sum_over vs h
unfolding sum_over
sum_cong_mem [] g h e = refl
sum_cong_mem (v ∷ vs) g h e = ap₂ ◌+◌ (e v (Memᴰ.head refl)) (sum_cong_mem vs g h (λ i m. e i (Memᴰ.tail m)))

pub sum_le : (vs : List ℕ) (g h : ℕ → ℕ) → ((i : ℕ) → Memᴰ i vs → g i ≤ h i) → sum_over vs g ≤ sum_over vs h
unfolding sum_over
sum_le [] g h e = omega arith
sum_le (v ∷ vs) g h e = let a = e v (Memᴰ.head refl) in let b = sum_le vs g h (λ i m. e i (Memᴰ.tail m)) in omega arith

-- a term is at most the sum
pub term_le : {i : ℕ} {vs : List ℕ} (g : ℕ → ℕ) → Memᴰ i vs → g i ≤ sum_over vs g
unfolding sum_over
term_le g (Memᴰ.head {x = v} e) = let h = ap g e in omega arith
term_le g (Memᴰ.tail m) = let h = term_le g m in omega arith

-- ---- sums of sums and of products

pub sum_zero : (vs : List ℕ) → sum_over vs (λ i. 0) ≡ 0
unfolding sum_over
sum_zero [] = refl
sum_zero (v ∷ vs) = let e = sum_zero vs in omega arith

-- terms of 0
pub sum_none : (vs : List ℕ) (g : ℕ → ℕ) → ((i : ℕ) → Memᴰ i vs → g i ≡ 0) → sum_over vs g ≡ 0
sum_none vs g e = sum_cong_mem vs g (λ i. 0) e ∙ sum_zero vs

-- a positive sum has a positive term
pub sum_some : (vs : List ℕ) (g : ℕ → ℕ) → 0 < sum_over vs g → (i : ℕ) × Memᴰ i vs × (0 < g i)
unfolding sum_over
sum_some [] g h = absurd (omega arith)
sum_some (v ∷ vs) g h = elim (dec_le 1 (g v)) [
  | yes x ↦ (v, Memᴰ.head refl, x)
  | no x ↦ (let r = sum_some vs g (omega arith) in (r.0, Memᴰ.tail r.1, r.2))
]

pub sum_add : (vs : List ℕ) (g h : ℕ → ℕ) → sum_over vs (λ i. g i + h i) ≡ sum_over vs g + sum_over vs h
unfolding sum_over
sum_add [] g h = refl
sum_add (v ∷ vs) g h = let e = sum_add vs g h in omega arith

pub sum_mul : (vs : List ℕ) (g : ℕ → ℕ) (c : ℕ) → sum_over vs (λ i. g i * c) ≡ sum_over vs g * c
unfolding sum_over
sum_mul [] g c = sym (zero-mul c)
sum_mul (v ∷ vs) g c = ap (λ x. g v * c + x) (sum_mul vs g c) ∙ sym (add-mul (g v) (sum_over vs g) c)

pub sum_append : (xs ys : List ℕ) (g : ℕ → ℕ) → sum_over (xs ++ ys) g ≡ sum_over xs g + sum_over ys g
unfolding sum_over
sum_append [] ys g = omega arith
sum_append (x ∷ xs) ys g = let h = sum_append xs ys g in omega arith

-- the order of two sums is free
pub sum_swap : (vs ws : List ℕ) (g : ℕ → ℕ → ℕ) → sum_over vs (λ i. sum_over ws (λ j. g i j)) ≡ sum_over ws (λ j. sum_over vs (λ i. g i j))
unfolding sum_over
sum_swap [] ws g = sym (sum_zero ws)
sum_swap (v ∷ vs) ws g =
    ap (λ x. sum_over ws (λ j. g v j) + x) (sum_swap vs ws g) ∙ sym (sum_add ws (λ j. g v j) (λ j. sum_over vs (λ i. g i j)))

-- ---- one vertex

times_delta : (g : ℕ → ℕ) (i v : ℕ) → g v * delta i v ≡ g i * delta i v
unfolding delta
times_delta g i v =
    cond_ind (eqb i v) 1 0 (λ x. g v * x ≡ g i * x) (λ t. ap (λ z. g z * 1) (sym (eqb→eq i v t)))
    (λ t. mul-zero (g v) ∙ sym (mul-zero (g i)))

-- a sum that only i's term enters
pub sum_delta : (vs : List ℕ) (g : ℕ → ℕ) (i : ℕ) → sum_over vs (λ v. g v * delta i v) ≡ g i * occurrences i vs
unfolding sum_over occurrences
sum_delta [] g i = sym (mul-zero (g i))
sum_delta (v ∷ vs) g i = ap₂ ◌+◌ (times_delta g i v) (sum_delta vs g i) ∙ sym (mul-add (g i) (delta i v) (occurrences i vs))

-- the double sum of f counts what leaves a, or what enters it
pub out_sum : (f : ℕ → ℕ → ℕ) (vs : List ℕ) (a : ℕ)
    → sum_over vs (λ i. sum_over vs (λ j. f i j * delta a i)) ≡ sum_over vs (λ j. f a j) * occurrences a vs
out_sum f vs a =
    sum_cong vs (λ i. sum_over vs (λ j. f i j * delta a i)) (λ i. sum_over vs (λ j. f i j) * delta a i)
    (λ i. sum_mul vs (λ j. f i j) (delta a i))
    ∙ sum_delta vs (λ i. sum_over vs (λ j. f i j)) a

pub in_sum : (f : ℕ → ℕ → ℕ) (vs : List ℕ) (a : ℕ)
    → sum_over vs (λ i. sum_over vs (λ j. f i j * delta a j)) ≡ sum_over vs (λ i. f i a) * occurrences a vs
in_sum f vs a =
    sum_cong vs (λ i. sum_over vs (λ j. f i j * delta a j)) (λ i. f i a * occurrences a vs) (λ i. sum_delta vs (λ j. f i j) a)
    ∙ sum_mul vs (λ i. f i a) (occurrences a vs)

pub once : {vs : List ℕ} {i : ℕ} → ((k : ℕ) → occurrences k vs ≤ 1) → Memᴰ i vs → occurrences i vs ≡ 1
once {i = i} o m = let a = o i in let b = occurrences_of_mem m in omega arith

-- Σ w(i) × (how often i occurs in ss), over vertices among which each of ss is once, is the sum of w over ss
pub sum_occurrences : (w : ℕ → ℕ) (vs ss : List ℕ) → ((i : ℕ) → Memᴰ i ss → occurrences i vs ≡ 1)
    → sum_over vs (λ i. w i * occurrences i ss) ≡ sum_over ss w
unfolding sum_over occurrences
sum_occurrences w vs [] h = sum_cong vs (λ i. w i * 0) (λ i. 0) (λ i. mul-zero (w i)) ∙ sum_zero vs
sum_occurrences w vs (s ∷ ss) h =
    sum_cong vs _ (λ i. w i * delta s i + w i * occurrences i ss) (λ i.
    mul-add (w i) (delta i s) (occurrences i ss) ∙ ap (λ z. w i * z + w i * occurrences i ss) (delta_sym i s))
    ∙ sum_add vs (λ i. w i * delta s i) (λ i. w i * occurrences i ss)
    ∙ ap₂ ◌+◌ (sum_delta vs w s ∙ ap (λ z. w s * z) (h s (Memᴰ.head refl)) ∙ mul-one (w s))
    (sum_occurrences w vs ss (λ i m. h i (Memᴰ.tail m)))

-- one term changed, at a vertex that the list has so often
sum_change : (vs : List ℕ) (g h : ℕ → ℕ) (k : ℕ) → ((i : ℕ) → Memᴰ i vs → i ≢ k → h i ≡ g i)
    → sum_over vs h + occurrences k vs * g k ≡ sum_over vs g + occurrences k vs * h k
unfolding sum_over occurrences
sum_change [] g h k e = omega (arith, zero-mul (g k), zero-mul (h k))
sum_change (v ∷ vs) g h k e =
    let r = sum_change vs g h k (λ i m. e i (Memᴰ.tail m)) in
    let a = add-mul (delta k v) (occurrences k vs) (g k) in
    let b = add-mul (delta k v) (occurrences k vs) (h k) in
    elim (ℕ_discrete k v) [
      | yes q ↦ let x = ap g q in let y = ap h q in let o = delta_yes q in
          let s : delta k v * g k ≡ g k = ap (λ z. z * g k) o ∙ mul_comm 1 (g k) ∙ mul-one (g k) in
          let t : delta k v * h k ≡ h k = ap (λ z. z * h k) o ∙ mul_comm 1 (h k) ∙ mul-one (h k) in
          omega arith
      | no q ↦ let x = e v (Memᴰ.head refl) (λ z. q (sym z)) in let o = delta_no k v q in
          let s : delta k v * g k ≡ 0 = ap (λ z. z * g k) o ∙ zero-mul (g k) in
          let t : delta k v * h k ≡ 0 = ap (λ z. z * h k) o ∙ zero-mul (h k) in
          omega arith
    ]

-- at a vertex that the list has once
pub sum_change_once : (vs : List ℕ) (g h : ℕ → ℕ) (k : ℕ) → occurrences k vs ≡ 1 → ((i : ℕ) → Memᴰ i vs → i ≢ k → h i ≡ g i)
    → sum_over vs h + g k ≡ sum_over vs g + h k
sum_change_once vs g h k o e =
    let r = sum_change vs g h k e in
    let s : occurrences k vs * g k ≡ g k = ap (λ z. z * g k) o ∙ mul_comm 1 (g k) ∙ mul-one (g k) in
    let t : occurrences k vs * h k ≡ h k = ap (λ z. z * h k) o ∙ mul_comm 1 (h k) ∙ mul-one (h k) in
    omega arith
