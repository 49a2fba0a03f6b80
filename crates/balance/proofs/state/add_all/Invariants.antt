-- The arcs left to add, from the state that the loop holds, lead to what all of them lead to. Assumes nothing.
use Rattle.std.proofs.Common.{◌≡◌, ◌+◌, length, drop}
use Rattle.postman.specs.Steps.{cell}
use Rattle.residual_search.specs.Step.{state_in, add_all, arcs_of}
use Rattle.balance.specs.Invariant.{Certified}
use Rattle.balance.proofs.state.add_all.Given as goal

abbrev pub invariant-loop-tail : goal.invariant-loop-tail
invariant-loop-tail l =
    let k = length l.yielded in
    let s = state_in l.amounts l.potentials l.cost l.count in
    let t = l.initial in
    record {
      certified : Certified (cell l.d) l.vs s;
      counted : l.count ≡ t.count + k;
      left : add_all (cell l.d) l.vs s (arcs_of (drop k l.tails) (drop k l.heads))
          ≡ add_all (cell l.d) l.vs (state_in t.amounts t.potentials t.cost t.count) (arcs_of l.tails l.heads);
    }
