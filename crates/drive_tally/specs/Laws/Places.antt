-- A pass over a list, place by place: the places from i on are place i and those after it. And a place
-- that is not foreign is the number of a row.
use Rattle.std.specs.Prelude.{◌≡◌, Bool, true, false, ◌||◌, List, [], ◌∷◌, ℕ, ◌+◌, ◌≤◌, ◌<◌, length, get_or, drop}
use Rattle.std.proofs.Math.Path.{sym, ap}
use Rattle.std.proofs.Common.{◌∙◌, add-one, drop_of_length-le, drop-cons}
use native.Mathlib.Omega.{arith}
use Rattle.postman.specs.Lists.{any_of}
use Rattle.postman.specs.Plan.{arc_at}
use Rattle.postman.specs.Judge.{is_foreign, has_foreign}
use Rattle.postman.specs.Laws.Membership.{get_d_mem, any_of_not}
use Rattle.postman_laws.specs.Laws.Judge.{driven}
use Rattle.plan.specs.Rows.{arc_in}
use Rattle.plan.specs.Laws.Rows.{rows_length, row_arc}
use Rattle.drive_tally.specs.Rows.{plan_over}

pub places_from : (w : List ℕ) (i : ℕ) → i < length w → drop i w ≡ get_or w i 0 ∷ drop (i + 1) w
places_from w i l = drop-cons w i 0 l ∙ ap (λ n. get_or w i 0 ∷ drop n w) (sym (add-one i))

pub no_places : (w : List ℕ) (i : ℕ) → length w ≤ i → drop i w ≡ []
no_places w i l = drop_of_length-le w l

-- ---- whether some place passes a test

module _ (f : ℕ → Bool) (w : List ℕ) where
  -- none before place i does
  abbrev pub NoneBefore : ℕ → Type 0
  NoneBefore i = any_of f w ≡ any_of f (drop i w)

  here : (i : ℕ) → i < length w → NoneBefore i → any_of f w ≡ (f (get_or w i 0) || any_of f (drop (i + 1) w))
  unfolding any_of
  here i l h = h ∙ ap (any_of f) (places_from w i l)

  pub none_more : (i : ℕ) → i < length w → NoneBefore i → f (get_or w i 0) ≡ false → NoneBefore (i + 1)
  none_more i l h e = here i l h ∙ ap (λ b. b || any_of f (drop (i + 1) w)) e

  pub one_found : (i : ℕ) → i < length w → NoneBefore i → f (get_or w i 0) ≡ true → true ≡ any_of f w
  one_found i l h e = sym (here i l h ∙ ap (λ b. b || any_of f (drop (i + 1) w)) e)

  pub none_found : (i : ℕ) → length w ≤ i → NoneBefore i → false ≡ any_of f w
  unfolding any_of
  none_found i l h = sym (h ∙ ap (any_of f) (no_places w i l))

-- ---- the row of a place

module _ (rows : List (List ℕ)) (w : List ℕ) (known : has_foreign (plan_over rows) w ≡ false) (i : ℕ) (l : i < length w) where
  pub place_row : get_or w i 0 < length rows
  unfolding has_foreign
  place_row =
      let e = rows_length 0 rows in
      let t = any_of_not (is_foreign (plan_over rows)) (get_d_mem w 0 i l) (rw known tt) in
      let d = (driven (plan_over rows) (get_or w i 0) t).0 in
      omega arith

  pub place_arc : arc_at (plan_over rows).arcs (get_or w i 0) ≡ arc_in (get_or rows (get_or w i 0) [])
  place_arc = row_arc 0 rows (get_or w i 0) place_row
