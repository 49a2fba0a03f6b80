-- After each turn the trees of the candidates so far were gone through, and the potentials certify the branch's amounts.
use Prim.Native.Nat.{◌+◌, ◌-◌, ◌≤◌}
use mathlib.Core.Path.{◌≡◌}
use lib.ListN.{get_or, take}
use Rattle.postman.specs.Plan.{Plan}
use Rattle.postman.specs.Arborescence.{candidates}
use Rattle.tree_bounds.specs.Fields.{IsPreparedFor}
use Rattle.search.specs.StepContracts.{IsExplored}
use Rattle.branches.specs.Branches.{IsBranch, repriced_branch}
use Rattle.branches.specs.Holding.{IsShort}
use Rattle.search.specs.Laws.Explore.{branches}
use Rattle.search.proofs.last.last.Given as goal

abbrev pub invariant-loop-x : goal.invariant-loop-x
invariant-loop-x l =
    let first = get_or l.at.candidates.now.start l.b.a 0 in
    (first ≤ l.x) × (l.x ≤ get_or l.at.candidates.now.start (l.b.a + 1) 0) × IsShort l.e.progress
    × (l.e.pricing.value ≡ l.b.balancing) × (l.e.pricing.bound ≡ l.b.fixed + l.b.balancing)
    × ((q : Plan) (h : IsPreparedFor q l.at (l.b.a + 1)) (br : IsBranch q l.at.d.now l.f l.b)
    → IsBranch q l.at.d.now l.f (repriced_branch l.b l.e.pricing.potentials)
    × IsExplored q (branches h l.b br (take (l.x - first) (candidates q l.b.a))) l.initial.e.progress l.e.progress)
