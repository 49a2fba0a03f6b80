-- The invariant: the counts are those of the arcs before the kth.
use Rattle.required.specs.Laws.RequiredSum.{Degrees}
use Rattle.required.proofs.required_sum.degrees.Given as goal

abbrev pub invariant-loop-a : goal.invariant-loop-a
invariant-loop-a g l = Degrees g.f l.fn.good.plan l.fn.good.plan.m l.a-index l.counts
