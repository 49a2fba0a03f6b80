-- The greatest multipliers are lawful, and small.
use mathlib.Core.Path.{◌∙◌}
use native.Mathlib.Omega.{arith}
use Rattle.integers.specs.Linear.{back64}
use Rattle.multipliers.specs.Laws.Ascent.{some_vertices, greatest_priced, greatest_small, span_as}
use Rattle.multipliers.specs.Laws.Climb.{begin_is}
use Rattle.multipliers.proofs.ascend.Ascent.begun.Goals as goal

pub span-far-requires : goal.span-far-requires
span-far-requires c = some_vertices c.requires.1

pub bound_at-requires : goal.bound_at-requires
bound_at-requires c = (c.requires.0, greatest_priced c.requires.1 _ c.requires.2)

pub returns : goal.returns
returns c =
    let l = c.bound_at in
    let small = greatest_small c.requires.1 _ c.requires.2 in (
      λ p h e. begin_is _ _ e (back64 _ l.type_inv ∙ l.ensures p (greatest_priced h _ e)) (c.span-far.ensures ∙ span_as h) c.min.ensures,
      record { multipliers = small; before = small; stride = omega (arith, c.min.ensures) },
    )
