-- The invariant: the pairs before the kth are done. A source that is flagged needs no search; one that is not is searched from, flagged and counted.
use Rattle.plan.specs.Records.{plan_value}
use Rattle.distances.specs.Laws.Filling.{IsFilled}
use Rattle.distances.proofs.entries.put_entries.Given as goal

abbrev pub invariant-loop-x : goal.invariant-loop-x
invariant-loop-x l = IsFilled (plan_value l.good.plan) l.pairs l.initial.distances l.distances l.searched l.searches l.x-index
