-- Selections of the numbers below n: one number more, and how long they are.
use Rattle.std.specs.Prelude.{◌≡◌, refl, Bool, true, false, cond, List, [], ◌∷◌, ◌++◌, ℕ, ◌+◌, ◌-◌, ◌≤◌, length}
use Rattle.std.proofs.Math.Path.{ap}
use Rattle.std.proofs.Common.{◌∙◌, append-nil, length-append}
use native.Mathlib.Omega.{arith}
use Rattle.postman.specs.Lists.{select, below, up_from}
use Rattle.postman_laws.specs.Laws.Selection.{select_append, below_split}

-- ---- one number more

module _ (f : ℕ → Bool) (v : ℕ) where
  next : select f (below (v + 1)) ≡ select f (below v) ++ cond (f v) (v ∷ []) []
  unfolding select up_from
  next =
      let e : v + 1 - v ≡ 1 = omega arith in
      ap (select f) (below_split v (v + 1) (omega arith) ∙ ap (λ n. below v ++ up_from v n) e) ∙ select_append f (below v) (v ∷ [])

  pub next_taken : f v ≡ true → select f (below (v + 1)) ≡ select f (below v) ++ v ∷ []
  next_taken e = next ∙ ap (λ b. select f (below v) ++ cond b (v ∷ []) []) e

  pub next_passed : f v ≡ false → select f (below (v + 1)) ≡ select f (below v)
  next_passed e = next ∙ ap (λ b. select f (below v) ++ cond b (v ∷ []) []) e ∙ append-nil (select f (below v))

pub select_none_below : (f : ℕ → Bool) → select f (below 0) ≡ []
unfolding select below up_from
select_none_below f = refl

-- a selection of the first numbers is no longer than one of all
pub select_within : (f : ℕ → Bool) (v n : ℕ) → v ≤ n → length (select f (below v)) ≤ length (select f (below n))
select_within f v n l =
    let e = ap length (ap (select f) (below_split v n l) ∙ select_append f (below v) (up_from v (n - v))) in
    let a = length-append (select f (below v)) (select f (up_from v (n - v))) in
    omega arith

-- 1 where a test passes
abbrev pub one : Bool → ℕ
one b = cond b 1 0

length_cond : {A : Type 0} (b : Bool) (x : A) (xs : List A) → length (cond b (x ∷ xs) xs) ≡ one b + length xs
length_cond true x xs = omega arith
length_cond false x xs = omega arith

pub at_most_one : (b : Bool) → one b ≤ 1
at_most_one true = omega arith
at_most_one false = omega arith

-- what passes one of two tests that exclude each other
pub disjoint_length : (f g h : ℕ → Bool) (xs : List ℕ) → ((x : ℕ) → one (f x) + one (g x) ≤ one (h x))
    → length (select f xs) + length (select g xs) ≤ length (select h xs)
unfolding select
disjoint_length f g h [] e = omega arith
disjoint_length f g h (x ∷ xs) e =
    let r = disjoint_length f g h xs e in
    let a = length_cond (f x) x (select f xs) in
    let b = length_cond (g x) x (select g xs) in
    let c = length_cond (h x) x (select h xs) in
    let d = e x in
    omega arith
