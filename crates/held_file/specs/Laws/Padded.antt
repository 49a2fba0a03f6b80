-- An array that is filled up behind its first i elements, by index: a loop fills it in order, and what it holds then is
-- the list's start with the filling behind it.
use Rattle.std.specs.Prelude.{◌≡◌, refl, List, [], ◌∷◌, ◌++◌, ℕ, suc, ◌+◌, ◌-◌, ◌<◌, length, set, replicate}
use Rattle.std.proofs.Common.{sym, ap, ◌∙◌, append_assoc, arith, length-append}
use Rattle.held_file.specs.Padded.{padded}

-- ---- one more

set_behind : {A : Type 0} (xs : List A) (k : ℕ) (z v : A) → set (xs ++ replicate (suc k) z) (length xs) v ≡ xs ++ v ∷ replicate k z
set_behind [] k z v = refl
set_behind {A} (x ∷ xs) k z v = ap (λ (r : List A). x ∷ r) (set_behind xs k z v)

pub padded_set : {A : Type 0} (n : ℕ) (z : A) (xs : List A) (v : A) → length xs < n
    → set (padded n z xs) (length xs) v ≡ padded n z (xs ++ v ∷ [])
padded_set {A} n z xs v l =
    let a = length-append xs (v ∷ []) in
    let k = n - length (xs ++ v ∷ []) in
    let e : n - length xs ≡ suc k = omega arith in
    ap (λ j. set (xs ++ replicate j z) (length xs) v) e ∙ set_behind xs k z v ∙ sym (append_assoc xs (v ∷ []) (replicate k z))
