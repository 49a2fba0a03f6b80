-- After each turn the trees behind the candidates so far were gone through, and the prices are the branch's.
use Prim.Native.Nat.{◌+◌, ◌-◌, ◌≤◌}
use lib.ListN.{get_or, take}
use Rattle.postman.specs.Plan.{Plan}
use Rattle.postman.specs.Arborescence.{candidates}
use Rattle.tree_bounds.specs.Fields.{IsPrepared}
use Rattle.search.specs.StepContracts.{IsExplored, IsBranchPriced}
use Rattle.branches.specs.Branches.{IsBranch}
use Rattle.branches.specs.Holding.{IsShort}
use Rattle.search.specs.Laws.Explore.{branches}
use Rattle.search.proofs.explore.+explore.Given as goal

abbrev pub decreases-explore : goal.decreases-explore
decreases-explore l = l.at.now.k - l.b.now.a

abbrev pub invariant-loop-x : goal.invariant-loop-x
invariant-loop-x l =
    let first = get_or l.at.candidates.now.start l.b.a 0 in
    (first ≤ l.x) × (l.x ≤ get_or l.at.candidates.now.start (l.b.a + 1) 0) × IsShort l.e.progress
    × ((q : Plan) (h : IsPrepared q l.at) (br : IsBranch q l.at.d.now l.f l.b)
    → IsExplored q (branches h l.b br (take (l.x - first) (candidates q l.b.a))) l.initial.e.progress l.e.progress × IsBranchPriced q l.at.d.now l.b l.e.pricing)
