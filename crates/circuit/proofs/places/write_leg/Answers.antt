-- A required arc is one place, its number; another leg is its path.
use Prim.Native.Nat.{ℕ, ◌+◌, ◌≤◌, ◌<◌}
use mathlib.Core.Path.{sym, ap, ◌∙◌, subst⁻¹, subst₂}
use mathlib.Core.List.{List}
use native.Mathlib.Omega.{arith}
use lib.ListN.{length}
use Rattle.postman.specs.Distance.{no_path, distance}
use Rattle.plan.specs.Rows.{plan_in}
use Rattle.plan.specs.Laws.Rows.{rows_vertices}
use Rattle.paths.specs.ShortestPath.{shortest_path}
use Rattle.shortest.specs.StepContracts.{overwrite}
use Rattle.paths.specs.Laws.Lookup.{few_rows, taken_length, taken_ready, taken_path}
use Rattle.circuit.specs.Laws.Written.{number_room, number_written, path_of}
use Rattle.circuit.proofs.places.write_leg.Goals as goal

pub bounds-places-at : goal.bounds-places-at
bounds-places-at c =
    let a = c.args in
    number_room (shortest_path (plan_in (length a.weights.now) a.arcs.now)) a.legs.now.numbers.now a.legs.now.tails.now a.legs.now.heads.now a.e (length a.places.now) a.at (omega arith) c.requires.room

pub returns-then-e-legs : goal.returns-then-e-legs
returns-then-e-legs c =
    let all = (let a = c.args in
    let r = number_room (shortest_path (plan_in (length a.weights.now) a.arcs.now)) a.legs.now.numbers.now a.legs.now.tails.now a.legs.now.heads.now a.e (length a.places.now) a.at c.if-e-legs.true c.requires.room in
    number_written (shortest_path (plan_in (length a.weights.now) a.arcs.now)) a.legs.now.numbers.now a.legs.now.tails.now a.legs.now.heads.now a.e a.places.now a.at c.if-e-legs.true r) in record {
      places_written = all.0;
      next_place = all.1;
    }

pub column_to-column-requires : goal.column_to-column-requires
column_to-column-requires c =
    let a = c.args in
    let l : length a.legs.now.numbers.now ≤ a.e = omega arith in
    let r = (c.requires.have_paths.2 a.e l c.requires.have_paths.0).to in
    let v = c.from-j.ensures in
    let f = few_rows a.arcs.now a.weights.now c.requires.well_formed.0 in
    let n = rows_vertices (length a.weights.now) a.arcs.now in
    (f, omega arith)

pub slice_bounds-column-end : goal.slice_bounds-column-end
slice_bounds-column-end c =
    let f = few_rows c.args.arcs.now c.args.weights.now c.requires.well_formed.0 in
    let l = c.column_to-column.ensures.0 in
    omega arith

pub slice_bounds-path-end : goal.slice_bounds-path-end
slice_bounds-path-end c =
    sym (taken_length c.args.arcs.now c.args.weights.now _ c.column_to-column.ensures.0 c.requires.well_formed.0)

pub path-requires : goal.path-requires
path-requires c =
    let all = (let a = c.args in
    let p = plan_in (length a.weights.now) a.arcs.now in
    let i = c.from-i.result in
    let j = c.from-j.result in
    let u = c.from-i.ensures in
    let v = c.from-j.ensures in
    let l : length a.legs.now.numbers.now ≤ a.e = omega arith in
    let r = c.requires.have_paths.2 a.e l c.requires.have_paths.0 in
    let q = path_of (shortest_path p) a.legs.now.numbers.now a.legs.now.tails.now a.legs.now.heads.now a.e i j l u v in
    let k = c.column_to-column.ensures in
    taken_ready a.arcs.now a.weights.now c.column_to-column.result k.0 c.requires.well_formed.0 i j (length a.places.now) a.at a.chain.now c.requires.well_formed.2 c.requires.well_formed.1 k.1
    (subst⁻¹ (λ z. z < p.n) u r.from) (subst⁻¹ (λ z. z < p.n) v r.to) (subst₂ (λ x y. distance p x y < no_path) (sym u) (sym v) r.linked)
    (subst⁻¹ (λ (z : List ℕ). a.at + length z ≤ length a.places.now) q c.requires.room)) in record {
      well_formed = all.0;
      has_path = all.1.0;
      room = all.1.1;
    }

pub returns : goal.returns
returns c =
    let a = c.args in
    let i = c.from-i.result in
    let j = c.from-j.result in
    let q = path_of (shortest_path (plan_in (length a.weights.now) a.arcs.now)) a.legs.now.numbers.now a.legs.now.tails.now a.legs.now.heads.now a.e i j (omega arith) c.from-i.ensures c.from-j.ensures in
    let w = taken_path a.arcs.now a.weights.now c.column_to-column.result c.column_to-column.ensures.0 c.requires.well_formed.0 i j ∙ q in
    let e = c.path.ensures in
    record {
      places_written = e.places_written ∙ ap (overwrite a.places.now a.at) w;
      next_place = e.next_place ∙ ap (λ (z : List ℕ). a.at + length z) w;
    }
