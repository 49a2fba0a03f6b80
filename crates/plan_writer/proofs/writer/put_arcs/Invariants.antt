-- `put_arcs` meets its contract. The loop's invariant: the first k arcs are put.
use mathlib.Core.Path.{◌≡◌}
use lib.ListN.{length}
use Rattle.plan.specs.Records.{record_at}
use Rattle.plan_writer.specs.PlanUpdate.{put_arcs}
use Rattle.plan_writer.proofs.writer.put_arcs.Given as goal

abbrev pub invariant-loop-k : goal.invariant-loop-k
invariant-loop-k l = (length l.s ≡ length l.initial.s) × (l.s ≡ put_arcs l.initial.s l.edition (record_at l.fn.arcs) l.k)
