-- What is arranged is the circuit, and it is written: the rows that are lent stand for the plan.
use Prim.Native.Nat.{ℕ, ◌≤◌, ◌<◌}
use mathlib.Core.Path.{◌≡◌, sym, ap, ◌∙◌, subst⁻¹}
use mathlib.Core.List.{List}
use native.Mathlib.Omega.{arith}
use lib.ListN.{length, get_or, take}
use lib.Seq.{length-take-le}
use Rattle.postman.specs.Plan.{Plan, WellFormed}
use Rattle.plan.specs.Rows.{plan_in}
use Rattle.plan.specs.Records.{plan_value}
use Rattle.plan.specs.Laws.Records.{record_arcs, record_vertices}
use Rattle.paths.specs.ShortestPath.{shortest_path}
use Rattle.shortest.specs.StepContracts.{AreRows}
use Rattle.paths.specs.Laws.Lookup.{lent_plan_lem, lent_rows}
use Rattle.hierholzer.specs.Circuit.{circuit}
use Rattle.drive_legs.specs.Drive.{places_of, written, HavePaths}
use Rattle.hierholzer.specs.Laws.Circuit.{circuit_below}
use Rattle.plan.specs.Laws.Rows.{made_long, made_value}
use Rattle.circuit.proofs.drive.write_circuit.Goals as goal

pub rows_of-arcs-requires : goal.rows_of-arcs-requires
rows_of-arcs-requires c = record_arcs c.args.good.now.plan c.args.good.now.well_formed

pub slice_bounds-arcs-end : goal.slice_bounds-arcs-end
slice_bounds-arcs-end c = let m = record_arcs c.args.good.now.plan c.args.good.now.well_formed in let l = made_long _ _ c.rows_of-arcs.ensures in omega arith

pub slice_bounds-write-end : goal.slice_bounds-write-end
slice_bounds-write-end c = let l = made_long _ _ c.rows_of-arcs.ensures in let m = record_arcs c.args.good.now.plan c.args.good.now.well_formed in sym (length-take-le _ _ (omega arith))

pub slice_bounds-write-end-2 : goal.slice_bounds-write-end-2
slice_bounds-write-end-2 c = let l : length c.args.weights.now ≡ 64 = c.rows-1.given in let n = (record_vertices c.args.good.now.plan c.args.good.now.well_formed).1 in sym (length-take-le _ _ (omega arith))

pub write-requires : goal.write-requires
write-requires c =
    let a = c.args in
    let e = c.arrange.ensures in
    let t = a.legs.now.tails.now in
    let h = a.legs.now.heads.now in
    let u = c.requires.has_circuit.2 in
    let q = plan_in (length (take c.from-2.result a.weights.now)) (take c.from.result c.rows_of-arcs.result) in
    let same : q ≡ plan_value a.good.now.plan =
    rw (c.from.ensures, c.from-2.ensures)
    (lent_plan_lem a.good.now.plan c.args.good.now.well_formed _ (made_value a.good.now.plan _ c.rows_of-arcs.ensures (record_arcs a.good.now.plan c.args.good.now.well_formed)) a.weights.now c.rows-1.given) in record {
      well_formed = (subst⁻¹ WellFormed same c.args.good.now.well_formed, subst⁻¹ (λ (p : Plan). AreRows p (take c.from-2.result a.weights.now)) same (rw c.from-2.ensures (lent_rows a.good.now.plan c.args.good.now.well_formed a.weights.now c.requires.weighed)));
      in_range = subst⁻¹ (λ (z : List ℕ). (x : ℕ) → x < length z → get_or z x 0 < length t) e (circuit_below t h u);
      have_paths = (u.ends, subst⁻¹ (λ (p : Plan). HavePaths p a.legs.now.numbers.now t h) same c.requires.have_paths);
      room = subst⁻¹ (λ (z : List ℕ). length (places_of (shortest_path q) a.legs.now.numbers.now t h z) ≤ length a.places.now) e
          (subst⁻¹ (λ (p : Plan). length (places_of (shortest_path p) a.legs.now.numbers.now t h (circuit t h)) ≤ length a.places.now) same c.requires.room);
    }

pub returns : goal.returns
returns c =
    let a = c.args in
    let e = c.arrange.ensures in
    let w = c.write.ensures in
    let q = plan_in (length (take c.from-2.result a.weights.now)) (take c.from.result c.rows_of-arcs.result) in
    let same : q ≡ plan_value a.good.now.plan =
    rw (c.from.ensures, c.from-2.ensures)
    (lent_plan_lem a.good.now.plan c.args.good.now.well_formed _ (made_value a.good.now.plan _ c.rows_of-arcs.ensures (record_arcs a.good.now.plan c.args.good.now.well_formed)) a.weights.now c.rows-1.given) in
    let f : Plan → List ℕ → List ℕ = λ p. places_of (shortest_path p) a.legs.now.numbers.now a.legs.now.tails.now a.legs.now.heads.now in
    let g = ap (f q) e ∙ ap (λ (p : Plan). f p (circuit a.legs.now.tails.now a.legs.now.heads.now)) same in
    record {
      places_written = w.places_written ∙ ap (λ z. written z a.places.now) g;
      place_count = w.place_count ∙ ap length g;
    }
