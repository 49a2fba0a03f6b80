-- The loop's state after so many turns is the model's.
use mathlib.Core.Path.{◌≡◌}
use Rattle.multiplier_steps.specs.Turns.{turns}
use Rattle.postman.specs.Plan.{Plan}
use Rattle.multipliers.specs.Ascent.{climb}
use Rattle.multipliers.specs.Climbs.{climb_of, CanStep}
use Rattle.multipliers.specs.Prepared.{IsReady}
use Rattle.multipliers.proofs.ascend.Ascent.ascend.Given as goal

abbrev pub invariant-loop-i : goal.invariant-loop-i
invariant-loop-i l = CanStep l.c × ((p : Plan) → IsReady p l.self → climb_of l.c ≡ turns (climb p) (climb_of l.initial.c) l.i)
