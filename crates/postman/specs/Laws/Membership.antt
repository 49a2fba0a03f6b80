-- Membership in lists that a test, a map or a choice makes: what is an element, and where an element comes from. By induction on the list.
use Rattle.std.specs.Prelude.{◌≡◌, Bool, not, ℕ, zero, suc, ◌+◌, ◌≤◌, ◌<◌, length, get_or}
use Rattle.std.proofs.Math.Path.{refl, subst⁻¹}
use Rattle.std.proofs.Common.{sym, ap, ◌∙◌, subst, suc-le-suc, le_of_suc-le-suc, not-suc-le-zero, add-zero, suc-add, add-suc, arith, T_not}
use Rattle.std.proofs.Math.Logic.{inl, inr}
use mathlib.Core.List.Memᴰ
use mathlib.Core.List.{List, [], ◌∷◌, map, flat_map, Memᴰ}
use Rattle.std.proofs.Math.Decide.{dec_le}
use Rattle.std.proofs.Math.Dec.{T, not_T}
use Rattle.postman.specs.Lists.{select, any_of, all_of, up_from, below, choices}
use Rattle.postman.specs.Laws.Tests.{cond_ind, or_left, or_right, or_cases, and_both, and_parts}

module _ {A : Type 0} where
  pub mem_select : (p : A → Bool) {x : A} {xs : List A} → Memᴰ x xs → T (p x) → Memᴰ x (select p xs)
  unfolding select
  mem_select p {x} (Memᴰ.head {x = y} {xs = ys} e) t =
      cond_ind (p y) (y ∷ select p ys) (select p ys) (Memᴰ x) (λ u. Memᴰ.head e)
      (λ u. absurd (T_not (p y) u (subst (λ z. T (p z)) e t)))
  mem_select p {x} (Memᴰ.tail {x = y} {xs = ys} m) t =
      let r = mem_select p m t in
      cond_ind (p y) (y ∷ select p ys) (select p ys) (Memᴰ x) (λ u. Memᴰ.tail r) (λ u. r)

  pub select_mem : (p : A → Bool) {x : A} (xs : List A) → Memᴰ x (select p xs) → Memᴰ x xs × T (p x)
  unfolding select
  select_mem p [] = λ m. elim m [ ]
  select_mem p {x} (y ∷ ys) =
      cond_ind (p y) (y ∷ select p ys) (select p ys) (λ l. Memᴰ x l → Memᴰ x (y ∷ ys) × T (p x))
      (λ t m. elim (Memᴰ.cases_cons m) [
        | inl e ↦ (Memᴰ.head e, subst⁻¹ (λ z. T (p z)) e t)
        | inr m' ↦ let r = select_mem p ys m' in (Memᴰ.tail r.0, r.1)
      ])
      (λ t m. let r = select_mem p ys m in (Memᴰ.tail r.0, r.1))

  -- tests that agree on the list select the same
  pub select_cong : (f g : A → Bool) (xs : List A) → ((x : A) → Memᴰ x xs → f x ≡ g x) → select f xs ≡ select g xs
  unfolding select
  select_cong f g [] h = refl
  select_cong f g (x ∷ xs) h = rw (h x (Memᴰ.head refl), select_cong f g xs (λ y m. h y (Memᴰ.tail m)))

  pub get_d_mem : (xs : List A) (d : A) (k : ℕ) → k < length xs → Memᴰ (get_or xs k d) xs
  get_d_mem [] d k h = absurd (not-suc-le-zero h)
  get_d_mem (x ∷ xs) d zero h = Memᴰ.head refl
  get_d_mem (x ∷ xs) d (suc k) h = Memᴰ.tail (get_d_mem xs d k (le_of_suc-le-suc h))

  pub mem_get_d : (d : A) {x : A} {xs : List A} → Memᴰ x xs → (k : ℕ) × (k < length xs) × (get_or xs k d ≡ x)
  mem_get_d d (Memᴰ.head {xs = xs} e) = (zero, omega arith, sym e)
  mem_get_d d (Memᴰ.tail m) = let r = mem_get_d d m in (suc r.0, suc-le-suc r.1, r.2)

  pub any_of_mem : (f : A → Bool) {x : A} {xs : List A} → Memᴰ x xs → T (f x) → T (any_of f xs)
  unfolding any_of
  any_of_mem f (Memᴰ.head {x = y} {xs = ys} e) t = or_left (f y) (any_of f ys) (subst (λ z. T (f z)) e t)
  any_of_mem f (Memᴰ.tail {x = y} {xs = ys} m) t = or_right (f y) (any_of f ys) (any_of_mem f m t)

  pub any_of_at : (f : A → Bool) (xs : List A) → T (any_of f xs) → (x : A) × Memᴰ x xs × T (f x)
  unfolding any_of
  any_of_at f [] t = absurd t
  any_of_at f (x ∷ xs) t = elim (or_cases (f x) (any_of f xs) t) [
    | inl u ↦ (x, Memᴰ.head refl, u)
    | inr u ↦ let r = any_of_at f xs u in (r.0, Memᴰ.tail r.1, r.2)
  ]

  pub any_of_not : (f : A → Bool) {x : A} {xs : List A} → Memᴰ x xs → T (not (any_of f xs)) → T (not (f x))
  any_of_not f {x} {xs} m t = not_T (f x) (λ u. T_not (any_of f xs) t (any_of_mem f m u))

  pub all_of_mem : (f : A → Bool) (xs : List A) → ((x : A) → Memᴰ x xs → T (f x)) → T (all_of f xs)
  unfolding all_of
  all_of_mem f [] h = tt
  all_of_mem f (x ∷ xs) h = and_both (f x) (all_of f xs) (h x (Memᴰ.head refl)) (all_of_mem f xs (λ y m. h y (Memᴰ.tail m)))

  pub all_of_at : (f : A → Bool) {x : A} {xs : List A} → Memᴰ x xs → T (all_of f xs) → T (f x)
  unfolding all_of
  all_of_at f (Memᴰ.head {x = y} {xs = ys} e) t = subst⁻¹ (λ z. T (f z)) e (and_parts (f y) (all_of f ys) t).0
  all_of_at f (Memᴰ.tail {x = y} {xs = ys} m) t = all_of_at f m (and_parts (f y) (all_of f ys) t).1

module _ {A B : Type 0} where
  pub mem_map : (f : A → B) {x : A} {xs : List A} → Memᴰ x xs → Memᴰ (f x) (map f xs)
  mem_map f (Memᴰ.head e) = Memᴰ.head (ap f e)
  mem_map f (Memᴰ.tail m) = Memᴰ.tail (mem_map f m)

  pub map_mem : (f : A → B) {y : B} (xs : List A) → Memᴰ y (map f xs) → (x : A) × Memᴰ x xs × (y ≡ f x)
  map_mem f [] m = elim m [ ]
  map_mem f (x ∷ xs) m = elim (Memᴰ.cases_cons m) [
    | inl e ↦ (x, Memᴰ.head refl, e)
    | inr m' ↦ let r = map_mem f xs m' in (r.0, Memᴰ.tail r.1, r.2)
  ]

  pub mem_flat_map : (f : A → List B) {x : A} {y : B} {xs : List A} → Memᴰ x xs → Memᴰ y (f x) → Memᴰ y (flat_map f xs)
  unfolding flat_map
  mem_flat_map f {y = y} (Memᴰ.head {xs = xs} e) n = Memᴰ.append_left (flat_map f xs) (subst (λ z. Memᴰ y (f z)) e n)
  mem_flat_map f (Memᴰ.tail {x = z} m) n = Memᴰ.append_right (f z) (mem_flat_map f m n)

  pub flat_map_mem : (f : A → List B) {y : B} (xs : List A) → Memᴰ y (flat_map f xs) → (x : A) × Memᴰ x xs × Memᴰ y (f x)
  unfolding flat_map
  flat_map_mem f [] m = elim m [ ]
  flat_map_mem f (x ∷ xs) m = elim (Memᴰ.append_cases (f x) m) [
    | inl n ↦ (x, Memᴰ.head refl, n)
    | inr n ↦ let r = flat_map_mem f xs n in (r.0, Memᴰ.tail r.1, r.2)
  ]

pub get_d_map_in : {A : Type 0} (f : A → ℕ) (xs : List A) (k : ℕ) (d : A) → k < length xs → get_or (map f xs) k 0 ≡ f (get_or xs k d)
get_d_map_in f [] k d l = absurd (omega arith)
get_d_map_in f (x ∷ xs) zero d l = refl
get_d_map_in f (x ∷ xs) (suc k) d l = get_d_map_in f xs k d (omega arith)

-- ---- numbers in a row

pub up_from_mem : (a n : ℕ) {k : ℕ} → Memᴰ k (up_from a n) → (a ≤ k) × (k < a + n)
unfolding up_from
up_from_mem a zero m = elim m [ ]
up_from_mem a (suc n) m =
    elim (Memᴰ.cases_cons m) [
      | inl e ↦ (omega arith, omega arith)
      | inr m' ↦ let h = up_from_mem (suc a) n m' in
          (omega arith, omega arith)
    ]

pub mem_up_from : (a n : ℕ) {k : ℕ} → a ≤ k → k < a + n → Memᴰ k (up_from a n)
unfolding up_from
mem_up_from a zero h l = absurd (omega arith)
mem_up_from a (suc n) {k} h l = elim (dec_le (suc a) k) [
  | yes g ↦ Memᴰ.tail (mem_up_from (suc a) n g (omega arith))
  | no g ↦ Memᴰ.head {x = a} (omega arith)
]

pub length_up_from : (a n : ℕ) → length (up_from a n) ≡ n
unfolding up_from
length_up_from a zero = refl
length_up_from a (suc n) = ap suc (length_up_from (suc a) n)

pub get_d_map_up_from : {A : Type 0} (f : ℕ → A) (a n q : ℕ) (d : A) → q < n → get_or (map f (up_from a n)) q d ≡ f (a + q)
unfolding up_from
get_d_map_up_from f a zero q d l = absurd (omega arith)
get_d_map_up_from f a (suc n) zero d l = ap f (sym (add-zero a))
get_d_map_up_from f a (suc n) (suc q) d l = get_d_map_up_from f (suc a) n q d (omega arith) ∙ ap f (suc-add a q ∙ sym (add-suc a q))

pub mem_below : {n k : ℕ} → k < n → Memᴰ k (below n)
unfolding below
mem_below {n} {k} h = mem_up_from 0 n (omega arith) (omega arith)

pub below_mem : {n k : ℕ} → Memᴰ k (below n) → k < n
unfolding below
below_mem {n} m = let h = up_from_mem 0 n m in omega arith

pub length_below : (n : ℕ) → length (below n) ≡ n
unfolding below
length_below n = length_up_from 0 n

-- ---- one element of each list

pub mem_choices : {A : Type 0} (d : A) (g : ℕ → List A) (a n : ℕ) (xs : List A) → length xs ≡ n
    → ((i : ℕ) → i < n → Memᴰ (get_or xs i d) (g (a + i)))
    → Memᴰ xs (choices (map g (up_from a n)))
unfolding choices up_from
mem_choices d g a zero [] l h = Memᴰ.head refl
mem_choices d g a zero (x ∷ xs) l h = absurd (omega arith)
mem_choices d g a (suc n) [] l h = absurd (omega arith)
mem_choices d g a (suc n) (x ∷ xs) l h =
    let r = mem_choices d g (suc a) n xs (omega arith)
    (λ i k. subst (λ z. Memᴰ (get_or xs i d) (g z)) (add-suc a i ∙ sym (suc-add a i)) (h (suc i) (omega arith))) in
    mem_flat_map (λ y. map (λ ys. y ∷ ys) (choices (map g (up_from (suc a) n))))
    (subst (λ z. Memᴰ x (g z)) (add-zero a) (h 0 (omega arith))) (mem_map (λ ys. x ∷ ys) r)

pub choices_mem : {A : Type 0} (d : A) (g : ℕ → List A) (a n : ℕ) {xs : List A} → Memᴰ xs (choices (map g (up_from a n)))
    → (length xs ≡ n) × ((i : ℕ) → i < n → Memᴰ (get_or xs i d) (g (a + i)))
unfolding choices up_from
choices_mem d g a zero m = (ap length (Memᴰ.eq_of_singleton m), λ i l. absurd (omega arith))
choices_mem {A} d g a (suc n) m =
    let f : A → List (List A) = λ y. map (λ ys. y ∷ ys) (choices (map g (up_from (suc a) n))) in
    let r = flat_map_mem f (g a) m in
    let s = map_mem (λ ys. r.0 ∷ ys) (choices (map g (up_from (suc a) n))) r.2 in
    let t = choices_mem d g (suc a) n s.1 in
    subst⁻¹ (λ (zs : List A). (length zs ≡ suc n) × ((i : ℕ) → i < suc n → Memᴰ (get_or zs i d) (g (a + i)))) s.2
    (ap suc t.0, at r.0 s.0 r.1 t.1)
  where
    at : (x : A) (xs : List A) → Memᴰ x (g a) → ((i : ℕ) → i < n → Memᴰ (get_or xs i d) (g (suc a + i))) → (i : ℕ) → i < suc n
        → Memᴰ (get_or (x ∷ xs) i d) (g (a + i))
    at x xs h k zero l = subst⁻¹ (λ z. Memᴰ x (g z)) (add-zero a) h
    at x xs h k (suc i) l = subst (λ z. Memᴰ (get_or xs i d) (g z)) (suc-add a i ∙ sym (add-suc a i)) (k i (omega arith))
