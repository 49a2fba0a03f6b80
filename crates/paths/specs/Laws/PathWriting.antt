-- Writing the path, arc by arc: what was written and what is still to come are the path, and no other place changes.
use Rattle.std.specs.Prelude.{◌≡◌, ◌≢◌, set, eqb}
use Rattle.std.proofs.Math.Path.{refl, sym, ap, ap₂}
use Rattle.std.proofs.Common.{◌∙◌, subst, add-one, add-zero, arith, length-set, length-append, take-append-drop, take-suc-set, drop-set-lt, drop-drop, eqb→eq}
use mathlib.Core.List.{List, [], ◌∷◌, ◌++◌, append_assoc, append-nil}
use Prim.Native.Nat.{ℕ, zero, suc, ◌+◌, ◌≤◌, ◌<◌}
use Rattle.std.proofs.Math.ListN.{length, take, drop}
use Rattle.postman.specs.Plan.{Plan, arc_at}
use Rattle.postman.specs.Drive.{IsWalk}
use Rattle.postman.specs.Distance.{no_path, distance}
use Rattle.postman.specs.Laws.Tests.{cond_ind, eqb_other}
use Rattle.postman.specs.Laws.Membership.{get_d_mem}
use Rattle.paths.specs.ShortestPath.{next_arc, path_within, cheapest_path}
use Rattle.shortest.specs.StepContracts.{overwrite}
use Rattle.shortest.specs.Laws.Weight.{IsWeighted}
use Rattle.paths.specs.Laws.CheapestPath.{cheapest_path_lem, next_begins}

-- the places, once the path from i to j is written up to vertex v and place `to`
pub record Writing (p : Plan) (i j : ℕ) (old : List ℕ) (at : ℕ) (places : List ℕ) (v to : ℕ) : Type 0 where
  pub fuel : ℕ
  pub done : List ℕ
  pub split : done ++ path_within p fuel v j ≡ cheapest_path p i j
  pub walk : IsWalk p.arcs v (path_within p fuel v j) j
  pub inside : v < p.n
  pub finite : distance p v j < no_path
  pub place : to ≡ at + length done
  pub size : length places ≡ length old
  pub written : take to places ≡ take at old ++ done
  pub kept : drop to places ≡ drop to old

module _ (p : Plan) (ok : IsWeighted p) (i j : ℕ) (old : List ℕ) (at : ℕ) where
  pub writing_none : i < p.n → distance p i j < no_path → Writing p i j old at old i at
  unfolding cheapest_path
  writing_none l h = record {
    fuel = p.n;
    done = [];
    split = refl;
    walk = (cheapest_path_lem p ok i j l h).walk;
    inside = l;
    finite = h;
    place = sym (add-zero at);
    size = refl;
    written = sym (append-nil (take at old));
    kept = refl;
  }

  -- what is left begins with the next arc
  left : (fuel v : ℕ) → v ≢ j → IsWalk p.arcs v (path_within p fuel v j) j
      → (f : ℕ) × (path_within p fuel v j ≡ next_arc p v j ∷ path_within p f (arc_at p.arcs (next_arc p v j)).head j)
  unfolding path_within
  left zero v n h = absurd (n h)
  left (suc f) v n h = (
    f,
    cond_ind (eqb v j) [] (next_arc p v j ∷ path_within p f (arc_at p.arcs (next_arc p v j)).head j)
        (λ w. w ≡ next_arc p v j ∷ path_within p f (arc_at p.arcs (next_arc p v j)).head j) (λ t. absurd (n (eqb→eq v j t))) (λ t. refl),
  )

  -- nothing is left at the end
  none_left : (fuel v : ℕ) → v ≡ j → path_within p fuel v j ≡ []
  unfolding path_within
  none_left zero v e = refl
  none_left (suc f) v e =
      cond_ind (eqb v j) [] (next_arc p v j ∷ path_within p f (arc_at p.arcs (next_arc p v j)).head j) (λ w. w ≡ []) (λ t. refl)
      (λ t. absurd (eqb_other t e))

  module _ (places : List ℕ) (v to : ℕ) (h : Writing p i j old at places v to) where
    -- before the end there is room for another arc
    pub writing_room : v ≢ j → to < at + length (cheapest_path p i j)
    writing_room n =
        let r = left h.fuel v n h.walk in
        let a = length-append h.done (path_within p h.fuel v j) in
        let b = ap length r.1 in
        let c = ap length h.split in
        let e = h.place in
        omega arith

    pub writing_more : v ≢ j → at + length (cheapest_path p i j) ≤ length old
        → Writing p i j old at (set places to (next_arc p v j)) (arc_at p.arcs (next_arc p v j)).head (to + 1)
    writing_more n room =
        let r = left h.fuel v n h.walk in
        let k = next_arc p v j in
        let b = next_begins p ok v j n h.finite in
        let c = b.costs in
        let f = h.finite in
        let w = subst (λ (xs : List ℕ). IsWalk p.arcs v xs j) r.1 h.walk in
        let e = h.size in
        let g = writing_room n in
        let q = h.place in
        let la : length (h.done ++ k ∷ []) ≡ length h.done + 1 = length-append h.done (k ∷ []) in
        record {
          fuel = r.0;
          done = h.done ++ k ∷ [];
          split = append_assoc h.done (k ∷ []) _ ∙ ap (λ (xs : List ℕ). h.done ++ xs) (sym r.1) ∙ h.split;
          walk = w.3;
          inside = (ok.ends (arc_at p.arcs k) (get_d_mem p.arcs _ k b.number)).1;
          finite = omega arith;
          place = omega arith;
          size = length-set places to k ∙ h.size;
          written = ap (λ n. take n (set places to k)) (add-one to) ∙ take-suc-set places to k (omega arith)
              ∙ ap (λ (xs : List ℕ). xs ++ k ∷ []) h.written
              ∙ append_assoc (take at old) h.done (k ∷ []);
          kept = drop-set-lt (to + 1) places to k (omega arith) ∙ sym (drop-drop 1 to places) ∙ ap (drop 1) h.kept ∙ drop-drop 1 to old;
        }

    pub writing_all : v ≡ j → (places ≡ overwrite old at (cheapest_path p i j)) × (to ≡ at + length (cheapest_path p i j))
    unfolding overwrite
    writing_all e =
        let z : h.done ≡ cheapest_path p i j =
        sym (append-nil h.done) ∙ ap (λ (xs : List ℕ). h.done ++ xs) (sym (none_left h.fuel v e)) ∙ h.split in
        let q : to ≡ at + length (cheapest_path p i j) = h.place ∙ ap (λ (xs : List ℕ). at + length xs) z in (
          sym (take-append-drop to places)
              ∙ ap₂ (λ (xs ys : List ℕ). xs ++ ys) (h.written ∙ ap (λ (xs : List ℕ). take at old ++ xs) z)
              (h.kept ∙ ap (λ n. drop n old) q),
          q,
        )
