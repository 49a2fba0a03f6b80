-- By the two tests.
use mathlib.Core.Path.{ap, ◌∙◌}
use native.Mathlib.Omega.{arith}
use lib.Dec.{leb}
use Rattle.std.proofs.lemmas.Bool.{le-leb}
use Rattle.distances.specs.Laws.Pairs.{first_stray, second_stray}
use Rattle.distances.proofs.pairs.is_stray.Goals as goal

pub returns-then-n-first : goal.returns-then-n-first
returns-then-n-first c = le-leb _ _ c.if-n-first.true ∙ first_stray _ _ (omega (arith, c.first.ensures, c.if-n-first.true))

pub returns-else-n-first : goal.returns-else-n-first
returns-else-n-first c =
    let a = c.args in
    ap (leb a.n) c.second.ensures ∙ second_stray a.n a.x (omega (arith, c.first.ensures, c.if-n-first.false))
