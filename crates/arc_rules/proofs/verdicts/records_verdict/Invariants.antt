-- `records_verdict` meets its contract. The loop's invariant: no record before k is refused.
use Rattle.postman.specs.PlanFile.{arc_conditions}
use Rattle.plan.specs.Records.{record_at}
use Rattle.postman_laws.specs.Laws.Refusal.{NoneBefore}
use Rattle.arc_rules.proofs.verdicts.records_verdict.Given as goal

abbrev pub invariant-loop-a : goal.invariant-loop-a
invariant-loop-a l = NoneBefore (arc_conditions l.fn.edition l.fn.n) (record_at l.fn.arcs) l.fn.m l.a-index
