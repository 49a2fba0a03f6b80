-- The invariant: what is written and what is to come are the path. The measure is what is to come.
use mathlib.Core.Path.{◌≡◌, ap, sym, ◌∙◌, subst₂}
use mathlib.Core.List.{List, []}
use Prim.Native.Nat.{ℕ, ◌+◌, ◌≤◌, ◌<◌}
use native.Mathlib.Omega.{arith}
use lib.ListN.{length, get_or, set, length-map}
use Rattle.postman.specs.Plan.{Arc, Plan, WellFormed, arc_at}
use Rattle.plan.specs.Rows.{arc_in, plan_in}
use Rattle.plan.specs.Laws.Rows.{rows_length, rows_vertices, row_arc}
use Rattle.shortest.specs.StepContracts.{IsColumn}
use Rattle.shortest.specs.Weight.{heavy, weighted}
use Rattle.paths.specs.ShortestPath.{next_arc, next_in, cheapest_path, shortest_path}
use Rattle.shortest.specs.Laws.Weight.{heavy_at, is_weighted, weight_path}
use Rattle.paths.specs.Laws.CheapestPath.{next_begins}
use Rattle.paths.specs.Laws.Lookup.{next_same}
use Rattle.paths.specs.Laws.PathWriting.{Writing, writing_none, writing_room, writing_more, writing_all}
use Rattle.paths.proofs.path.path.Goals as goal

-- the arc that the code looks up is the next arc of the plan, and there is a place for it
module _ (column : List ℕ) (rows : List (List ℕ)) (ok : WellFormed (plan_in (length column) rows)) {i j at : ℕ} {old places : List ℕ} {v to : ℕ} (h : Writing (weighted (plan_in (length column) rows)) i j old at places v to) where
  abbrev p : Plan
  p = plan_in (length column) rows

  -- the path is a cheapest one of the weighted plan
  abbrev q : Plan
  q = weighted p

  inside : v < length column
  inside = let a = h.inside in let e = rows_vertices (length column) rows in omega arith

  module _ (n : v ≡ j → ⊥) where
    room : at + length (cheapest_path q i j) ≤ length old → (to < at + length (cheapest_path q i j)) × (to < length places)
    room l = let a = writing_room q (is_weighted p ok) i j old at places v to h n in let b = h.size in (a, omega arith)

    module _ (c : IsColumn p j column) {k : ℕ} (e : k ≡ next_in rows column v) where
      is_next : k ≡ next_arc q v j
      is_next = e ∙ next_same (length column) rows ok j column c v inside

      number : k < length rows
      number =
          let b = (next_begins q (is_weighted p ok) v j n h.finite).number in
          let l = rows_length (length column) rows in
          let m = length-map p.arcs heavy in
          let e = is_next in
          omega arith

      small : k < 256
      small = let a = number in let b = ok.arc_count_holds in let l = rows_length (length column) rows in omega arith

      written : at + length (cheapest_path q i j) ≤ length old → {w : ℕ} → w ≡ (arc_in (get_or rows k [])).head → Writing q i j old at (set places to k) w (to + 1)
      written l {w} g =
          let m = rows_length (length column) rows in
          let n' = number in
          let a : (arc_at q.arcs (next_arc q v j)).head ≡ w
          = ap (λ x. (arc_at q.arcs x).head) (sym is_next) ∙ ap (λ (a : Arc). a.head) (heavy_at p.arcs k (omega arith)) ∙ ap (λ (a : Arc). a.head) (row_arc (length column) rows k number) ∙ sym g in
          subst₂ (λ x y. Writing q i j old at (set places to x) y (to + 1)) (sym is_next) a (writing_more q (is_weighted p ok) i j old at places v to h n l)

pub loop-v-init : goal.loop-v-init
loop-v-init c =
    let e = rows_vertices (length c.args.column.now) c.args.arcs.now in
    let p = plan_in (length c.args.column.now) c.args.arcs.now in
    let l : c.args.i < p.n = (let l = c.requires.has_path.0 in omega arith) in
    writing_none (weighted p) (is_weighted p c.requires.well_formed.0) c.args.i c.args.j _ c.args.at l (weight_path p c.requires.well_formed.0 c.args.i c.args.j l c.requires.has_path.2)

pub next_arc-k-requires : goal.next_arc-k-requires
next_arc-k-requires c =
    (c.requires.well_formed.0, c.requires.well_formed.2, inside c.args.column.now c.args.arcs.now c.requires.well_formed.0 c.loop-v.invariant)

pub overflow_cast-places : goal.overflow_cast-places
overflow_cast-places c =
    omega (arith, small c.args.column.now c.args.arcs.now c.requires.well_formed.0 c.loop-v.invariant c.loop-v-test.true c.requires.well_formed.1 c.next_arc-k.ensures)

pub bounds-places-to : goal.bounds-places-to
unfolding shortest_path
bounds-places-to c =
    omega (arith, room c.args.column.now c.args.arcs.now c.requires.well_formed.0 c.loop-v.invariant c.loop-v-test.true c.requires.room)

pub offset_bounds-arcs-k : goal.offset_bounds-arcs-k
offset_bounds-arcs-k c =
    omega (arith, small c.args.column.now c.args.arcs.now c.requires.well_formed.0 c.loop-v.invariant c.loop-v-test.true c.requires.well_formed.1 c.next_arc-k.ensures)

pub bounds-arcs-k : goal.bounds-arcs-k
bounds-arcs-k c =
    number c.args.column.now c.args.arcs.now c.requires.well_formed.0 c.loop-v.invariant c.loop-v-test.true c.requires.well_formed.1 c.next_arc-k.ensures

pub loop-v-preserved : goal.loop-v-preserved
unfolding shortest_path
loop-v-preserved c =
    written c.args.column.now c.args.arcs.now c.requires.well_formed.0 c.loop-v.invariant c.loop-v-test.true c.requires.well_formed.1 c.next_arc-k.ensures c.requires.room c.from-v.ensures

pub returns : goal.returns
unfolding shortest_path
returns c =
    let all = (writing_all (weighted (plan_in (length c.args.column.now) c.args.arcs.now)) (is_weighted (plan_in (length c.args.column.now) c.args.arcs.now) c.requires.well_formed.0) c.args.i c.args.j _ c.args.at c.loop-v.places c.loop-v.v c.loop-v.to c.loop-v.invariant c.loop-v-test.false) in record {
      places_written = all.0;
      next_place = all.1;
    }
