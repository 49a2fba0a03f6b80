-- The pairs of the vertices below 64, in order, are those of the places below 4096. By induction on the rows, and along a row.
use Rattle.std.specs.Prelude.{◌≡◌, Bool, ◌&&◌, ℕ, zero, suc, ◌+◌, ◌*◌, ◌-◌, ◌/◌, ◌%◌, ◌≤◌}
use Rattle.std.proofs.Math.Path.{refl, sym, ap}
use Rattle.std.proofs.Common.{ap₂, ◌∙◌, arith}
use Rattle.std.proofs.Math.Bool.{true, false, cond}
use mathlib.Core.List.{List, [], ◌∷◌, ◌++◌, map, flat_map, append-nil, append_assoc, map-append}
use Rattle.postman.specs.Lists.{select, below, up_from}
use Rattle.postman.specs.Link.{Link, pairs}
use Rattle.postman_laws.specs.Laws.Link.{link}
use Rattle.postman_laws.specs.Laws.Selection.{select_none, below_split}
use Rattle.postman_laws.specs.Laws.Lists.{select_map, select_flat_map, flat_map_cong}
use Rattle.postman.specs.Steps.{pair_at}

row : (a b n : ℕ) → b + n ≤ 64 → map pair_at (up_from (a * 64 + b) n) ≡ map (link a) (up_from b n)
unfolding up_from
row a b zero l = refl
row a b (suc n) l =
    let d : (a * 64 + b) / 64 ≡ a = omega arith in
    let m : (a * 64 + b) % 64 ≡ b = omega arith in
    let e : suc (a * 64 + b) ≡ a * 64 + suc b = omega arith in
    ap₂ ◌∷◌ (ap₂ link d m) (ap (λ x. map pair_at (up_from x n)) e ∙ row a (suc b) n (omega arith))

flat_map_last : {A : Type 0} (h : ℕ → List A) (xs : List ℕ) (x : ℕ) → flat_map h (xs ++ x ∷ []) ≡ flat_map h xs ++ h x
unfolding flat_map
flat_map_last h [] x = append-nil (h x)
flat_map_last {A} h (y ∷ xs) x = ap (λ (l : List A). h y ++ l) (flat_map_last h xs x) ∙ sym (append_assoc (h y) (flat_map h xs) (h x))

rows : (n : ℕ) → map pair_at (below (n * 64)) ≡ flat_map (λ i. map (link i) (below 64)) (below n)
unfolding up_from flat_map below
rows zero = refl
rows (suc n) =
    let a : suc n * 64 - n * 64 ≡ 64 = omega arith in
    let b : suc n - n ≡ 1 = omega arith in
    let z : n * 64 ≡ n * 64 + 0 = omega arith in
    ap (map pair_at) (below_split (n * 64) (suc n * 64) (omega arith) ∙ ap (λ x. below (n * 64) ++ up_from (n * 64) x) a)
    ∙ map-append pair_at (below (n * 64)) (up_from (n * 64) 64)
    ∙ ap₂ ◌++◌ (rows n) (ap (λ x. map pair_at (up_from x 64)) z ∙ row n 0 64 (omega arith))
    ∙ sym (ap (flat_map (λ i. map (link i) (below 64))) (below_split n (suc n) (omega arith) ∙ ap (λ x. below n ++ up_from n x) b)
    ∙ flat_map_last (λ i. map (link i) (below 64)) (below n) n)

pub pairs_are : pairs (below 64) ≡ map pair_at (below 4096)
unfolding pairs
pairs_are = sym (rows 64)

-- ---- the pairs of a selection are a selection of the pairs

module _ (r : ℕ → Bool) where
  abbrev pub both_pass : Link → Bool
  both_pass l = r l.tail && r l.head

  flat_map_select : {B : Type 0} (h : ℕ → List B) (xs : List ℕ) → flat_map h (select r xs) ≡ flat_map (λ i. cond (r i) (h i) []) xs
  unfolding flat_map select
  flat_map_select h [] = refl
  flat_map_select {B} h (x ∷ xs) = picked (r x) (flat_map_select h xs)
    where
      picked : (b : Bool) → flat_map h (select r xs) ≡ flat_map (λ i. cond (r i) (h i) []) xs
          → flat_map h (cond b (x ∷ select r xs) (select r xs)) ≡ cond b (h x) [] ++ flat_map (λ i. cond (r i) (h i) []) xs
      picked true e = ap (λ (l : List B). h x ++ l) e
      picked false e = e

  pub pairs_select : (vs : List ℕ) → pairs (select r vs) ≡ select both_pass (pairs vs)
  unfolding pairs
  pairs_select vs =
      flat_map_select (λ i. map (link i) (select r vs)) vs
      ∙ flat_map_cong (λ i. cond (r i) (map (link i) (select r vs)) []) (λ i. select both_pass (map (link i) vs)) vs
      (λ i m. passed i (r i) ∙ sym (select_map both_pass (λ j. r i && r j) (link i) vs (λ j n. refl)))
      ∙ sym (select_flat_map (λ i. map (link i) vs) both_pass vs)
    where
      passed : (i : ℕ) (b : Bool) → cond b (map (link i) (select r vs)) [] ≡ map (link i) (select (λ j. b && r j) vs)
      passed i true = refl
      passed i false = sym (ap (map (link i)) (select_none (λ j. false) vs (λ j m. refl)))
