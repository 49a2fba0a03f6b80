-- What an ascent by value stands for.
use Rattle.std.specs.Prelude.{◌≤◌}
use Rattle.residual_search.specs.Search.{beyond}
use Rattle.multiplier_steps.specs.Steps.{AreSmall}
use Rattle.multipliers.specs.declared.ascend.Best.{Best}
use Rattle.multipliers.specs.declared.ascend.Stage.{Stage}
use Rattle.multipliers.specs.Ascent.{Climb, improved}

abbrev pub climb_of : Stage → Climb
climb_of c = record {
  multipliers = c.multipliers;
  before = c.before;
  best = c.best;
  bound = c.bound;
  value = c.value;
  stride = c.stride;
  done = c.done;
}

-- The same, with the best multipliers and their bound in place of its own.
abbrev pub holding : Stage → Best → Climb
holding c b = improved (climb_of c) b.multipliers b.bound

-- It can be gone on with: no sum of a step overflows.
pub record CanStep (c : Stage) : Type 0 where
  pub multipliers : AreSmall beyond c.multipliers
  pub before : AreSmall beyond c.before
  pub stride : c.stride ≤ beyond
