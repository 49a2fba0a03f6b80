-- The distance between the new numbers of two vertices is that between the vertices. By induction on the arcs allowed: those that leave a
-- vertex's new number are those that leave the vertex, renumbered. For numbers that are no vertices too, so that whole tables of distances
-- are renumbered.
use Rattle.std.specs.Prelude.{◌≡◌, ◌&&◌, List, [], map, get_or}
use Rattle.std.proofs.Common.{sym, ◌∙◌}
use Rattle.std.proofs.Math.Path.{ap, ap₂, fun_ext}
use Rattle.std.proofs.Math.Bool.{cond}
use Prim.Native.Nat.{ℕ, zero, suc, ◌+◌, ◌-◌, ◌≤◌, ◌<◌}
use Rattle.std.proofs.Math.Dec.{eqb, ltb}
use Rattle.postman.specs.Lists.{least}
use Rattle.postman.specs.Plan.{Arc, Plan, is_open}
use Rattle.postman.specs.Distance.{no_path, arcs_from, distance_within, distance, has_path}
use Rattle.postman.specs.Renumbering.{IsNumbering, renumbered_arc, renumbered}
use Rattle.postman_laws.specs.Laws.Lists.{select_map}
use Rattle.postman_laws.specs.Laws.Minimum.{least_map}
use Rattle.postman.proofs.Numbering.{eqb_number, inverse, number_lt}

module _ (arcs : List Arc) {n : ℕ} {π σ : ℕ → ℕ} (h : IsNumbering n π σ) where
  abbrev others : List Arc
  others = map (renumbered_arc π) arcs

  from_renumbered : (i : ℕ) → arcs_from others (π i) ≡ map (renumbered_arc π) (arcs_from arcs i)
  unfolding arcs_from
  from_renumbered i =
      select_map (λ a. is_open a && eqb a.tail (π i)) (λ a. is_open a && eqb a.tail i) (renumbered_arc π) arcs
      (λ a m. ap (λ b. is_open a && b) (eqb_number h a.tail i))

  within_renumbered : (k i j : ℕ) → distance_within others k (π i) (π j) ≡ distance_within arcs k i j
  unfolding distance_within
  within_renumbered zero i j = ap (λ b. cond b 0 no_path) (eqb_number h i j)
  within_renumbered (suc k) i j =
      ap₂ (λ b d. cond b 0 d) (eqb_number h i j)
      (ap (least no_path (λ a. a.cost + distance_within others k a.head (π j))) (from_renumbered i)
      ∙ least_map no_path (λ a. a.cost + distance_within others k a.head (π j)) (renumbered_arc π) (arcs_from arcs i)
      ∙ ap (λ (f : ℕ → ℕ). least no_path (λ a. a.cost + f a.head) (arcs_from arcs i)) (fun_ext (λ v. within_renumbered k v j)))

module _ (p : Plan) {π σ : ℕ → ℕ} (h : IsNumbering p.n π σ) where
  pub distance_renumbered : (i j : ℕ) → distance (renumbered p π) (π i) (π j) ≡ distance p i j
  unfolding distance
  distance_renumbered i j = within_renumbered p.arcs h (p.n - 1) i j

  pub path_renumbered : (i j : ℕ) → has_path (renumbered p π) (π i) (π j) ≡ has_path p i j
  unfolding has_path
  path_renumbered i j = ap (λ d. ltb d no_path) (distance_renumbered i j)

  -- by the new numbers
  pub distance_of : (i j : ℕ) → distance (renumbered p π) i j ≡ distance p (σ i) (σ j)
  distance_of i j = ap₂ (distance (renumbered p π)) (sym (h.forth i)) (sym (h.forth j)) ∙ distance_renumbered (σ i) (σ j)

  -- a table of m rows of m, n or more, renumbered
  pub table_renumbered : (m : ℕ) → p.n ≤ m → (t s : List (List ℕ))
      → ((i j : ℕ) → i < m → j < m → get_or (get_or t i []) j 0 ≡ distance p i j)
      → ((i j : ℕ) → i < m → j < m → get_or (get_or s i []) j 0 ≡ get_or (get_or t (σ i) []) (σ j) 0)
      → (i j : ℕ) → i < m → j < m → get_or (get_or s i []) j 0 ≡ distance (renumbered p π) i j
  table_renumbered m l t s e f i j a b =
      f i j a b ∙ e (σ i) (σ j) (number_lt (inverse h) m i l a) (number_lt (inverse h) m j l b) ∙ sym (distance_of i j)
