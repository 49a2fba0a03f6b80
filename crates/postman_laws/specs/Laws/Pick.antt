-- An element with the list that is left without it, and lists that hold the same elements in another
-- order. By induction on the place of the element.
use Rattle.std.specs.Prelude.{◌≡◌, refl, ◌⊎◌, ℕ, zero, suc, ◌≤◌, ◌<◌, length}
use Rattle.std.proofs.Common.{sym, ap, ◌∙◌, inl, inr, arith}
use Rattle.std.proofs.Math.Path.{subst⁻¹}
use mathlib.Core.List.Memᴰ
use mathlib.Core.List.{List, [], ◌∷◌, Memᴰ}
use Rattle.std.proofs.lemmas.List.{length-map}
use Rattle.postman.specs.Lists.{picks}
use Rattle.postman.specs.Laws.Membership.{mem_map, map_mem}
use Rattle.postman.specs.Steps.{Pick, here, there, Permutation, none, more}

module _ {A : Type 0} where
  pub pick_length : {x : A} {xs ys : List A} → Pick x xs ys → length xs ≡ suc (length ys)
  pick_length (here e) = refl
  pick_length (there h) = ap suc (pick_length h)

  -- what is picked after another can be picked first
  pub pick_swap : {x y : A} {xs ys zs : List A} → Pick x xs ys → Pick y ys zs → (ws : List A) × Pick y xs ws × Pick x ws zs
  pick_swap (here e) q = (_, there q, here e)
  pick_swap (there p) (here e) = (_, here e, p)
  pick_swap (there p) (there q) = let r = pick_swap p q in (_, there r.1, there r.2)

  pub pick_of_mem : {x : A} {xs : List A} → Memᴰ x xs → (ys : List A) × Pick x xs ys
  pick_of_mem (Memᴰ.head e) = (_, here e)
  pick_of_mem (Memᴰ.tail m) = let r = pick_of_mem m in (_, there r.1)

  pub mem_of_pick : {x : A} {xs ys : List A} → Pick x xs ys → Memᴰ x xs
  mem_of_pick (here e) = Memᴰ.head e
  mem_of_pick (there q) = Memᴰ.tail (mem_of_pick q)

  -- what is left was there
  pub left_mem : {x y : A} {xs ys : List A} → Pick x xs ys → Memᴰ y ys → Memᴰ y xs
  left_mem (here e) m = Memᴰ.tail m
  left_mem (there q) (Memᴰ.head e) = Memᴰ.head e
  left_mem (there q) (Memᴰ.tail m) = Memᴰ.tail (left_mem q m)

  -- an element is the one picked, or is left
  pub pick_cases : {x y : A} {xs ys : List A} → Pick x xs ys → Memᴰ y xs → (y ≡ x) ⊎ Memᴰ y ys
  pick_cases (here e) (Memᴰ.head e') = inl (e' ∙ sym e)
  pick_cases (here e) (Memᴰ.tail m) = inr m
  pick_cases (there p) (Memᴰ.head e') = inr (Memᴰ.head e')
  pick_cases (there p) (Memᴰ.tail m) = elim (pick_cases p m) [ inl e ↦ inl e | inr m' ↦ inr (Memᴰ.tail m') ]

  pub pick_cons : {x y : A} {xs rs : List A} → Pick x (y ∷ xs) rs → ((x ≡ y) × (rs ≡ xs)) ⊎ ((qs : List A) × Pick x xs qs × (rs ≡ y ∷ qs))
  pick_cons (here e) = inl (e, refl)
  pick_cons (there p) = inr (_, p, refl)

  pub permutation_mem : {y : A} {xs ys : List A} → Permutation xs ys → Memᴰ y ys → Memᴰ y xs
  permutation_mem none m = m
  permutation_mem (more q s) m = elim (pick_cases q m) [ inl e ↦ Memᴰ.head e | inr n ↦ Memᴰ.tail (permutation_mem s n) ]

-- values that differ are at most as many as they may be
pub differ_le : (f : ℕ → ℕ) (k : ℕ) (ys : List ℕ) → ((q : ℕ) → q < k → Memᴰ (f q) ys)
    → ((q r : ℕ) → q < k → r < k → f q ≡ f r → q ≡ r) → k ≤ length ys
differ_le f zero ys m d = omega arith
differ_le f (suc k) ys m d =
    let r = pick_of_mem (m k (omega arith)) in
    let e = pick_length r.1 in
    let rest : (q : ℕ) → q < k → Memᴰ (f q) r.0 = λ q l. elim (pick_cases r.1 (m q (omega arith))) [
      | inl s ↦ (let z = d q k (omega arith) (omega arith) s in absurd (omega arith))
      | inr n ↦ n
    ] in
    let i = differ_le f k r.0 rest (λ q r a b. d q r (omega arith) (omega arith)) in
    omega arith

-- ---- `picks` lists every way to pick

pub picks_of : {y : ℕ} {ts rs : List ℕ} → Pick y ts rs → Memᴰ (y, rs) (picks ts)
unfolding picks
picks_of (here {xs = xs} e) = Memᴰ.head (λ i. (e i, xs))
picks_of (there {y = x} p) = Memᴰ.tail (mem_map (λ r. (r.0, x ∷ r.1)) (picks_of p))

pub of_picks : (ts : List ℕ) {r : ℕ × List ℕ} → Memᴰ r (picks ts) → Pick r.0 ts r.1
unfolding picks
of_picks [] m = elim m [ ]
of_picks (t ∷ ts) m = elim (Memᴰ.cases_cons m) [
  | inl e ↦ subst⁻¹ (λ (q : ℕ × List ℕ). Pick q.0 (t ∷ ts) q.1) e (here refl)
  | inr m' ↦ let q = map_mem (λ r. (r.0, t ∷ r.1)) (picks ts) m' in
      subst⁻¹ (λ (s : ℕ × List ℕ). Pick s.0 (t ∷ ts) s.1) q.2 (there (of_picks ts q.1))
]

pub length_picks : (ts : List ℕ) → length (picks ts) ≡ length ts
unfolding picks
length_picks [] = refl
length_picks (t ∷ ts) = ap suc (length-map (picks ts) (λ r. (r.0, t ∷ r.1)) ∙ length_picks ts)
