-- Whole, the floor is the cost; otherwise L(0) is computed, which is L of the zeros.
use mathlib.Core.Path.{◌≡◌, ap₂, ◌∙◌}
use mathlib.Core.Bool.{false}
use Rattle.integers.specs.Linear.{back64}
use Rattle.postman.specs.Lists.{maxℤ}
use Rattle.lagrangian.specs.Laws.Bound.{zero_bound}
use Rattle.lagrangian.proofs.bound.floor_of.Goals as goal

pub returns : goal.returns
returns c =
    let e : c.args.whole ≡ false = c.if-whole.false in
    let l = c.lagrangian-without in
    λ p h. rw e (back64 _ c.larger.type_inv ∙ c.larger.ensures ∙ ap₂ maxℤ (back64 _ l.type_inv ∙ l.ensures p h ∙ zero_bound p) (back64 _ c.ranges.bound.sfits))
