-- The required arcs among the first k are noted.
use Rattle.plan.specs.Records.{plan_value}
use Rattle.drive_legs.specs.Filled.{Noted, numbers_below}
use Rattle.drive_legs.proofs.legs.gather.Given as goal

abbrev pub invariant-loop-k : goal.invariant-loop-k
invariant-loop-k l = let p = plan_value l.fn.good.plan in Noted p (numbers_below p l.k) l.legs
