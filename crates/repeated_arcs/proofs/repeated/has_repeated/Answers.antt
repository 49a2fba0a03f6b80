-- The invariant: no number before the kth stands before itself. What is found, or not, of the numbers is so of the arcs.
use native.Mathlib.Omega.{arith}
use Rattle.plan.specs.Records.{record_at}
use Rattle.repeated_arcs.specs.Laws.Packed.{found, not_found}
use Rattle.repeated_arcs.proofs.repeated.has_repeated.Goals as goal

pub returns-then-stands_before : goal.returns-then-stands_before
returns-then-stands_before c =
    let n = c.packed_arcs-numbers in
    let p = n.ensures.1 in
    let r = c.stands_before.ensures.found c.if-stands_before.true in
    found (record_at c.args.arcs) c.args.m n.result (λ k l. (p k l).1) (λ k l. (p k l).0) r.0 c.loop-k.k r.1 (omega arith) r.2

pub returns : goal.returns
returns c =
    let n = c.packed_arcs-numbers in
    let p = n.ensures.1 in
    not_found (record_at c.args.arcs) c.args.m n.result (λ k l. (p k l).1) (λ k l. (p k l).0) (λ k l. c.loop-k.invariant.1 k (omega arith))
