-- The invariant: what is kept is that after the rounds so far, and its trees are held. Once floor and cost have met it stays.
use mathlib.Core.Path.{◌≡◌}
use Rattle.rounds.specs.Held.{IsHeld}
use Prim.Native.Nat.{◌-◌, ◌≤◌}
use Rattle.plan.specs.Records.{plan_value}
use Rattle.round_rule.specs.Rounds.{kept_after}
use Rattle.rounds.proofs.round.deepen.Given as goal

abbrev pub invariant-loop-i : goal.invariant-loop-i
invariant-loop-i l = (1 ≤ l.i) × (l.i ≤ l.rounds) × (l.d.kept ≡ kept_after (plan_value l.m.good.now.plan) l.budget (l.i - 1)) × IsHeld (plan_value l.m.good.now.plan) l.d

abbrev pub decreases-loop-i : goal.decreases-loop-i
decreases-loop-i l = l.rounds - l.i
