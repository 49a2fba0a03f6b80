-- The invariant: no arc before the kth begins a lightest path, and k leaves v.
use mathlib.Core.Path.{◌≡◌, refl, sym, ◌∙◌}
use mathlib.Core.Bool.{Bool, true, false, ◌&&◌}
use mathlib.Core.List.{List, []}
use Prim.Native.Nat.{ℕ, ◌+◌, ◌*◌}
use native.Mathlib.Omega.{arith}
use lib.ListN.{length, get_or}
use lib.Dec.{eqb}
use Rattle.postman.specs.Plan.{is_open}
use Rattle.plan.specs.Rows.{arc_in}
use Rattle.plan.specs.Laws.Rows.{rows_length, rows_vertices}
use Rattle.paths.specs.ShortestPath.{begins_in}
use Rattle.paths.specs.Laws.Lookup.{row_ends}
use Rattle.paths.specs.Laws.Leaving.{meets_none, meets_later, meets_more, meets_all}
use Rattle.paths.proofs.path.next_arc.Goals as goal

-- what the code tests is the definition's test
tested : (arcs : List (List ℕ)) (column : List ℕ) (v k : ℕ) {h : ℕ} {b : Bool} → h ≡ (arc_in (get_or arcs k [])).head
    → b ≡ (is_open (arc_in (get_or arcs k [])) && eqb (arc_in (get_or arcs k [])).tail v && eqb (64 * (arc_in (get_or arcs k [])).cost + 1 + get_or column h 0) (get_or column v 0)) → begins_in arcs column v k ≡ b
unfolding begins_in
tested arcs column v k e t = sym (rw e at t)

pub bounds-chain-v : goal.bounds-chain-v
bounds-chain-v c =
    let p = c.requires in
    let n = p.0.vertices in
    let m = rows_vertices (length c.args.column.now) c.args.arcs.now in
    omega arith

pub loop-k-init : goal.loop-k-init
loop-k-init c =
    let n = c.requires.0.vertices in
    let m = rows_vertices (length c.args.column.now) c.args.arcs.now in
    meets_none c.args.arcs.now c.args.column.now c.args.v (c.from-k.ensures ∙ c.requires.1.first c.args.v (omega arith))

pub bounds-column-h : goal.bounds-column-h
bounds-column-h c =
    let a = c.loop-k.invariant.most in
    let h = (row_ends (length c.args.column.now) c.args.arcs.now c.requires.0 c.loop-k.k (omega arith)).1 in
    let n = c.requires.0.vertices in
    let m = rows_vertices (length c.args.column.now) c.args.arcs.now in
    let e = c.from-h.ensures in
    omega arith

pub bounds-chain-k : goal.bounds-chain-k
bounds-chain-k c =
    let a = c.loop-k.invariant.most in
    let n = c.requires.0.arc_count_holds in
    let m = rows_length (length c.args.column.now) c.args.arcs.now in
    omega arith

pub loop-k-smaller : goal.loop-k-smaller
loop-k-smaller c =
    let a = c.loop-k.invariant.most in
    let e = c.from-k-in-loop-k.ensures ∙ c.requires.1.next c.loop-k.k (omega arith) in
    let l = meets_later c.args.arcs.now c.args.column.now c.args.v c.loop-k.invariant (omega arith) e in
    omega arith

pub loop-k-preserved : goal.loop-k-preserved
loop-k-preserved c =
    let e = c.from-k-in-loop-k.ensures ∙ c.requires.1.next c.loop-k.k (omega arith) in
    let b = tested c.args.arcs.now c.args.column.now c.args.v c.loop-k.k c.from-h.ensures c.leads.ensures in
    meets_more c.args.arcs.now c.args.column.now c.args.v c.loop-k.invariant (omega arith) e (omega arith) false (b ∙ c.if-leads.false)

-- the first that is met is the lowest
pub returns-then-leads : goal.returns-then-leads
returns-then-leads c =
    let b = tested c.args.arcs.now c.args.column.now c.args.v c.loop-k.k c.from-h.ensures c.leads.ensures in
    let l = meets_later c.args.arcs.now c.args.column.now c.args.v c.loop-k.invariant (omega arith) refl in
    meets_all c.args.arcs.now c.args.column.now c.args.v
    (meets_more c.args.arcs.now c.args.column.now c.args.v c.loop-k.invariant (omega arith) refl (omega arith) true (b ∙ c.if-leads.true)) (omega arith)

pub returns : goal.returns
returns c =
    meets_all c.args.arcs.now c.args.column.now c.args.v c.loop-k.invariant (omega arith)
