-- The invariant: the arcs before the kth are counted.
use Rattle.plan.specs.Records.{plan_value}
use Rattle.components.specs.Labels.{Labelled}
use Rattle.components.proofs.labels.labels_of.Given as goal

abbrev pub invariant-loop-a : goal.invariant-loop-a
invariant-loop-a l = Labelled (plan_value l.fn.good.plan) l.a-index l.labels
