-- After k turns each row is relaxed by the first k arcs.
use mathlib.Core.Path.{◌≡◌}
use mathlib.Core.List.{map}
use Prim.Native.Nat.{ℕ, ◌<◌}
use lib.ListN.{length, take}
use Rattle.plan.specs.Records.{plan_value}
use Rattle.shortest.specs.Weight.{heavy}
use Rattle.shortest.specs.Relaxation.{relax_arcs}
use Rattle.shortest.specs.Columns.{row_from}
use Rattle.shortest.proofs.columns.round_all.Given as goal

abbrev pub invariant-loop-a : goal.invariant-loop-a
invariant-loop-a l = (length l.c ≡ 4096) × ((i : ℕ) → i < 64 → row_from l.c i ≡ relax_arcs (map heavy (take l.a-index (plan_value l.fn.good.plan).arcs)) (row_from l.initial.c i))
