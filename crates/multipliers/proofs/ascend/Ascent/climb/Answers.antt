-- By the test; what the parts answer is the step of the model, and what it gives is small.
use mathlib.Core.Path.{◌∙◌}
use mir.Syntax.{w64}
use mir.Val.{SFits}
use native.Mathlib.Omega.{arith}
use Rattle.std.proofs.Common.{rules}
use Rattle.integers.specs.Linear.{back64}
use Rattle.lagrangian.specs.Laws.Price.{max_is}
use Rattle.multipliers.specs.Climbs.{climb_of}
use Rattle.multipliers.specs.Laws.Ascent.{component_range, stepped_small, step_as}
use Rattle.multipliers.specs.Laws.Climb.{climb_done, climb_more}
use Rattle.multipliers.proofs.ascend.Ascent.climb.Goals as goal

pub returns-then-c : goal.returns-then-c
returns-then-c c = (λ p h. climb_done _ _ _ c.if-c.true, c.requires.1)

pub step-value-requires : goal.step-value-requires
step-value-requires c =
    let h = c.requires.0.1 in
    let k = component_range h in
    let can = c.requires.1 in
    (k.0, k.1, can.stride, can.multipliers, can.before)

pub returns : goal.returns
returns c =
    let can = c.requires.1 in
    let old : SFits w64 c.args.c.now.value = search rules in
    let new : SFits w64 c.step-value.result.value = search rules in
    let held : SFits w64 c.attempt_above-bound.result.bound = search rules in
    let v = simp (back64, old.sfits, new.sfits) at c.max.ensures.value in (
      λ p h.
          climb_more _ _ _ c.if-c.false (c.step-value.ensures ∙ step_as h (climb_of c.args.c.now) c.args.i)
          (simp (back64, new.sfits) at (c.attempt_above-bound.ensures p h)) (back64 _ c.max.type_inv ∙ v ∙ max_is _ _) (back64 _ held.sfits),
      record {
        multipliers = stepped_small c.requires.0.1 _ _ _ _ _ c.step-value.ensures;
        before = can.multipliers;
        stride = (let l = can.stride in omega arith);
      },
    )
