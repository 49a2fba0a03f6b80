-- The invariant: the sum is that of the arcs before the kth, of at most 65,535 each.
use Rattle.required.specs.Laws.RequiredSum.{Summed}
use Rattle.required.proofs.required_sum.required_cost.Given as goal

abbrev pub invariant-loop-a : goal.invariant-loop-a
invariant-loop-a l = Summed (λ a. a.service) 65535 l.fn.good.plan l.fn.good.plan.m l.a-index l.sum
