-- The invariant: no pair before the kth is stray.
use mathlib.Core.Path.{sym, ◌∙◌}
use native.Mathlib.Omega.{arith}
use Rattle.distances.specs.Laws.Pairs.{many_stray, stray_found, none_stray}
use Rattle.distances.proofs.pairs.has_stray.Goals as goal

pub returns-then-pairs-gt256 : goal.returns-then-pairs-gt256
returns-then-pairs-gt256 c = many_stray _ _ c.if-pairs-gt256.true

pub returns-then-is_stray : goal.returns-then-is_stray
returns-then-is_stray c =
    stray_found _ _ c.if-pairs-gt256.false c.loop-x.x-index (omega arith) (sym c.is_stray.ensures ∙ c.if-is_stray.true)

pub returns : goal.returns
returns c =
    none_stray _ _ c.if-pairs-gt256.false (λ k l. c.loop-x.invariant k (omega arith))
