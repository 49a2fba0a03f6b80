-- Laws of `map`, `flat_map`, `select` and `any_of`. By induction on the list.
use Rattle.std.specs.Prelude.{◌≡◌, Bool, ◌||◌, ℕ, suc, ◌+◌, ◌<◌, length, get_or, set}
use Rattle.std.proofs.Math.Path.{refl, sym, ap, ap₂}
use Rattle.std.proofs.Common.{◌∙◌, arith, length-append, get_or-set_same, get_or-set_other}
use Rattle.std.proofs.Math.Bool.{cond}
use mathlib.Core.List.{List, [], ◌∷◌, ◌++◌, map, flat_map, Memᴰ, append_assoc, map-append}
use Rattle.std.proofs.Math.Decide.{ℕ_discrete}
use Rattle.std.proofs.Math.Seq.{get_or-append_seam}
use Rattle.postman.specs.Lists.{select, any_of, below, up_from}
use Rattle.postman_laws.specs.Laws.Selection.{select_append}

module _ {A B : Type 0} where
  pub map_cong : (f g : A → B) (xs : List A) → ((x : A) → Memᴰ x xs → f x ≡ g x) → map f xs ≡ map g xs
  map_cong f g [] h = refl
  map_cong f g (x ∷ xs) h = ap₂ ◌∷◌ (h x (Memᴰ.head refl)) (map_cong f g xs (λ y m. h y (Memᴰ.tail m)))

  pub flat_map_map : {C : Type 0} (h : B → List C) (g : A → B) (xs : List A) → flat_map h (map g xs) ≡ flat_map (λ x. h (g x)) xs
  unfolding flat_map
  flat_map_map h g [] = refl
  flat_map_map {C} h g (x ∷ xs) = ap (λ (l : List C). h (g x) ++ l) (flat_map_map h g xs)

  pub flat_map_append : (h : A → List B) (xs ys : List A) → flat_map h (xs ++ ys) ≡ flat_map h xs ++ flat_map h ys
  unfolding flat_map
  flat_map_append h [] ys = refl
  flat_map_append h (x ∷ xs) ys =
      ap (λ (l : List B). h x ++ l) (flat_map_append h xs ys) ∙ sym (append_assoc (h x) (flat_map h xs) (flat_map h ys))

  pub any_of_map : (f : B → Bool) (g : A → B) (xs : List A) → any_of f (map g xs) ≡ any_of (λ x. f (g x)) xs
  unfolding any_of
  any_of_map f g [] = refl
  any_of_map f g (x ∷ xs) = ap (λ b. f (g x) || b) (any_of_map f g xs)

  -- what passes f after a map is the map of what passes the composed test
  pub select_map : (f : B → Bool) (f' : A → Bool) (g : A → B) (xs : List A) → ((x : A) → Memᴰ x xs → f (g x) ≡ f' x)
      → select f (map g xs) ≡ map g (select f' xs)
  unfolding select
  select_map f f' g [] h = refl
  select_map f f' g (x ∷ xs) h =
      let r = select_map f f' g xs (λ y m. h y (Memᴰ.tail m)) in
      ap (λ b. cond b (g x ∷ select f (map g xs)) (select f (map g xs))) (h x (Memᴰ.head refl)) ∙ picked (f' x) r
    where
      picked : (b : Bool) → select f (map g xs) ≡ map g (select f' xs)
          → cond b (g x ∷ select f (map g xs)) (select f (map g xs)) ≡ map g (cond b (x ∷ select f' xs) (select f' xs))
      picked Bool.true r = ap (λ (l : List B). g x ∷ l) r
      picked Bool.false r = r

module _ {A B : Type 0} (h : A → List B) where
  pub select_flat_map : (f : B → Bool) (l : List A) → select f (flat_map h l) ≡ flat_map (λ x. select f (h x)) l
  unfolding flat_map select
  select_flat_map f [] = refl
  select_flat_map f (x ∷ l) = select_append f (h x) (flat_map h l) ∙ ap (λ (w : List B). select f (h x) ++ w) (select_flat_map f l)

  pub map_flat_map : {C : Type 0} (g : B → C) (l : List A) → map g (flat_map h l) ≡ flat_map (λ x. map g (h x)) l
  unfolding flat_map
  map_flat_map g [] = refl
  map_flat_map {C} g (x ∷ l) = map-append g (h x) (flat_map h l) ∙ ap (λ (w : List C). map g (h x) ++ w) (map_flat_map g l)

  pub flat_map_cong : (h' : A → List B) (l : List A) → ((x : A) → Memᴰ x l → h x ≡ h' x) → flat_map h l ≡ flat_map h' l
  unfolding flat_map
  flat_map_cong h' [] e = refl
  flat_map_cong h' (x ∷ l) e = ap₂ ◌++◌ (e x (Memᴰ.head refl)) (flat_map_cong h' l (λ y m. e y (Memᴰ.tail m)))

-- the elements of a list, by their places
places_after : {A : Type 0} (d : A) (us xs : List A) → map (λ i. get_or (us ++ xs) i d) (up_from (length us) (length xs)) ≡ xs
unfolding up_from
places_after d us [] = refl
places_after {A} d us (x ∷ xs) =
    let n : length (us ++ x ∷ []) ≡ suc (length us) = (let e = length-append us (x ∷ []) in omega arith) in
    ap₂ ◌∷◌ (get_or-append_seam us x xs d)
    (ap₂ (λ (l : List A) (k : ℕ). map (λ i. get_or l i d) (up_from k (length xs))) (sym (append_assoc us (x ∷ []) xs)) (sym n)
    ∙ places_after d (us ++ x ∷ []) xs)

pub by_place : {A : Type 0} (d : A) (xs : List A) → map (λ i. get_or xs i d) (below (length xs)) ≡ xs
unfolding below
by_place d xs = places_after d [] xs

-- an array filled from the start, by one place more
pub filled_more : {A : Type 0} (d : A) (g : ℕ → A) (l : List A) (n : ℕ) (v : A) → n < length l → ((m : ℕ) → m < n → get_or l m d ≡ g m)
    → v ≡ g n
    → (m : ℕ) → m < n + 1 → get_or (set l n v) m d ≡ g m
filled_more d g l n v b h e m r = elim (ℕ_discrete m n) [
  | yes s ↦ ap (λ x. get_or (set l n v) x d) s ∙ get_or-set_same l n v d b ∙ e ∙ ap g (sym s)
  | no o ↦ get_or-set_other l n m v d o ∙ h m (omega arith)
]
