-- A table of 64 rows of 64 that holds the distances is the table of the definition: lists of one length that agree at every place are
-- equal. And a table that a function answered has such rows.
use Rattle.std.specs.Prelude.{◌≡◌, get_or}
use Rattle.std.proofs.Math.Path.{refl, ap}
use Rattle.std.proofs.Common.{◌∙◌}
use mathlib.Core.List.{List, [], ◌∷◌, map}
use Prim.Native.Nat.{ℕ, zero, suc, ◌+◌, ◌<◌}
use native.Mathlib.Omega.{arith}
use Rattle.std.proofs.Math.ListN.{length}
use mir.Val.{Val}
use Rattle.std.specs.Int.{w32}
use denote.Shadow.{shadow}
use denote.Array.{each}
use borrow.Kind.Array.{e_arr, e_int}
use Rattle.postman.specs.Lists.{up_from, below}
use Rattle.postman.specs.Plan.{Plan}
use Rattle.postman.specs.Distance.{distance}
use Rattle.shortest.specs.StepContracts.{IsTable}
use Rattle.multipliers.specs.Drive.{table_of}

module _ {A : Type 0} (f : ℕ → A) (z : A) where
  pub filled : (xs : List A) (b n : ℕ) → length xs ≡ n → ((j : ℕ) → j < n → get_or xs j z ≡ f (b + j)) → xs ≡ map f (up_from b n)
  unfolding up_from
  filled [] b zero e h = refl
  filled [] b (suc n) e h = absurd (omega arith)
  filled (x ∷ xs) b zero e h = absurd (omega arith)
  filled (x ∷ xs) b (suc n) e h =
      let l : length xs ≡ n = omega arith in
      let y : x ≡ f b = h 0 (omega arith) ∙ ap f (omega arith) in
      ap (λ x. x ∷ xs) y ∙ ap (λ xs. f b ∷ xs) (filled xs (suc b) n l (λ j k. h (suc j) (omega arith) ∙ ap f (omega arith)))

pub table_is : (p : Plan) (t : List (List ℕ)) → length t ≡ 64 → ((i : ℕ) → i < 64 → length (get_or t i []) ≡ 64) → IsTable p t
    → t ≡ table_of p
unfolding table_of below
table_is p t e r h =
    let row : (i : ℕ) → i < 64 → get_or t i [] ≡ map (distance p i) (up_from 0 64) =
    λ i l. filled (distance p i) 0 (get_or t i []) 0 64 (r i l) (λ j k. h i j l k ∙ ap (distance p i) (omega arith)) in
    filled (λ i. map (distance p i) (up_from 0 64)) [] t 0 64 e (λ i l. row i l ∙ ap (λ i. map (distance p i) (up_from 0 64)) (omega arith))

-- each row of an array of arrays has the length of its type
pub rows : (xs : List (List ℕ)) (us : List Val) → shadow (each (List ℕ) (e_arr (e_int w32) 64).ty.own_val xs us) → (i : ℕ) → i < length xs
    → length (get_or xs i []) ≡ 64
rows [] [] s i l = absurd (omega arith)
rows [] (u ∷ us) s i l = absurd s
rows (x ∷ xs) [] s i l = absurd s
rows (x ∷ xs) (u ∷ us) s zero l = s.0.1.0.1
rows (x ∷ xs) (u ∷ us) s (suc i) l = rows xs us s.1 i (omega arith)
