-- The tests of the two passes are those of the definitions; and a gap is looked for from the first arc's head on.
use Rattle.std.specs.Prelude.{◌≡◌, true, not, ◌||◌, ℕ, ◌+◌, ◌≤◌, ◌<◌, get_or, drop, eqb, leb, ltb}
use Rattle.std.proofs.Math.Path.{refl, sym, ap}
use Rattle.std.proofs.Common.{◌∙◌, arith}
use Rattle.std.proofs.Math.Bool.{false}
use mathlib.Core.List.{List, [], ◌∷◌}
use borrow.Author.Tests.{le-leb, lt-leb, lt-ltb, le-ltb, eq-eqb, ne_eqb}
use Rattle.std.proofs.Math.Decide.{dec_le}
use Rattle.std.proofs.Math.ListN.{length}
use Rattle.postman.specs.Plan.{Arc, Plan, arc_at}
use Rattle.std.proofs.lemmas.Bool.{or_parts}
use Rattle.postman.specs.Lists.{any_of}
use Rattle.postman.specs.Judge.{is_foreign, has_foreign, is_broken, is_unjoined}
use Rattle.plan.specs.Rows.{arc_in}
use Rattle.plan.specs.Laws.Rows.{rows_length, row_arc}
use Rattle.drive_tally.specs.Rows.{plan_over}
use Rattle.drive_tally.specs.Laws.Places.{places_from, no_places, place_row, place_arc}

-- ---- 14

not_below : (s : ℕ) → leb 2 s ≡ not (ltb s 2)
not_below s =
    elim (dec_le 2 s) [
      | yes h ↦ le-leb 2 s h ∙ ap not (sym (le-ltb s 2 h))
      | no h ↦
          lt-leb 2 s (omega arith) ∙ ap not (sym (lt-ltb s 2 (omega arith)))
    ]

module _ (rows : List (List ℕ)) (k : ℕ) where
  pub foreign_past : length rows ≤ k → true ≡ is_foreign (plan_over rows) k
  unfolding is_foreign
  foreign_past l = rw (rows_length 0 rows, le-leb (length rows) k l) refl

  pub foreign_row : k < length rows → leb 2 (get_or (get_or rows k []) 2 0) ≡ is_foreign (plan_over rows) k
  unfolding is_foreign
  foreign_row l = rw (rows_length 0 rows, lt-leb (length rows) k l, row_arc 0 rows k l) (not_below (get_or (get_or rows k []) 2 0))

-- ---- 15

-- The list w is a first place and a rest, and j is the vertex that the last arc has to lead to.
module _ (p : Plan) (w rest : List ℕ) (j : ℕ) where
  abbrev arc : ℕ → Arc
  arc i = arc_at p.arcs (get_or rest i 0)

  -- no gap before place i of the rest, where the car is at v
  abbrev pub NoGapBefore : ℕ → ℕ → Type 0
  NoGapBefore v i = is_unjoined p w ≡ is_broken p.arcs v (drop i rest) j

  joint : (v i : ℕ) → i < length rest → NoGapBefore v i
      → is_unjoined p w ≡ (not (eqb v (arc i).tail) || is_broken p.arcs (arc i).head (drop (i + 1) rest) j)
  unfolding is_broken
  joint v i l h = h ∙ ap (λ (u : List ℕ). is_broken p.arcs v u j) (places_from rest i l)

  pub no_gap_next : (v i v' : ℕ) → i < length rest → NoGapBefore v i → v ≡ (arc i).tail → (arc i).head ≡ v' → NoGapBefore v' (i + 1)
  no_gap_next v i v' l h e f =
      joint v i l h ∙ ap (λ b. not b || is_broken p.arcs (arc i).head (drop (i + 1) rest) j) (eq-eqb v (arc i).tail e)
      ∙ ap (λ (x : ℕ). is_broken p.arcs x (drop (i + 1) rest) j) f

  pub gap_here : (v i : ℕ) → i < length rest → NoGapBefore v i → (v ≡ (arc i).tail → ⊥) → true ≡ is_unjoined p w
  gap_here v i l h e =
      sym (joint v i l h ∙ ap (λ b. not b || is_broken p.arcs (arc i).head (drop (i + 1) rest) j) (ne_eqb v (arc i).tail e))

  pub last_joint : (v i : ℕ) → length rest ≤ i → NoGapBefore v i → not (eqb v j) ≡ is_unjoined p w
  unfolding is_broken
  last_joint v i l h = sym (h ∙ ap (λ (u : List ℕ). is_broken p.arcs v u j) (no_places rest i l))

pub no_gap_none : (p : Plan) (w : List ℕ) → length w ≡ 0 → false ≡ is_unjoined p w
unfolding is_unjoined
no_gap_none p [] e = refl
no_gap_none p (k ∷ w) e = absurd (omega arith)

-- from the first place on
pub no_gap_start : (p : Plan) (w : List ℕ) → 0 < length w
    → NoGapBefore p w w (arc_at p.arcs (get_or w 0 0)).tail (arc_at p.arcs (get_or w 0 0)).head 1
unfolding is_unjoined
no_gap_start p [] l = absurd (omega arith)
no_gap_start p (k ∷ w) l = refl

-- The first place, and what is known of it and of the rest.
module _ (rows : List (List ℕ)) (w rest : List ℕ) (k : ℕ) (e : w ≡ k ∷ rest) (known : has_foreign (plan_over rows) w ≡ false) where
  first_known : has_foreign (plan_over rows) (k ∷ rest) ≡ false
  first_known = ap (has_foreign (plan_over rows)) (sym e) ∙ known

  pub first_row : k < length rows
  first_row = place_row rows (k ∷ rest) first_known 0 (omega arith)

  first_arc : arc_at (plan_over rows).arcs k ≡ arc_in (get_or rows k [])
  first_arc = place_arc rows (k ∷ rest) first_known 0 (omega arith)

  pub rest_known : has_foreign (plan_over rows) rest ≡ false
  unfolding has_foreign any_of
  rest_known = (or_parts (is_foreign (plan_over rows) k) (any_of (is_foreign (plan_over rows)) rest) first_known).1

  pub no_gap_start_known : NoGapBefore (plan_over rows) w rest (get_or (get_or rows k []) 0 0) (get_or (get_or rows k []) 1 0) 0
  no_gap_start_known =
      ap (is_unjoined (plan_over rows)) e ∙ no_gap_start (plan_over rows) (k ∷ rest) (omega arith)
      ∙ ap (λ (a : Arc). is_broken (plan_over rows).arcs a.head rest a.tail) first_arc
