-- By the test. Assumes nothing.
use native.Mathlib.Omega.{arith}
use Rattle.ascent_tree.specs.Laws.Grown.{walk_end, walk_is}
use Rattle.ascent_tree.proofs.tree.walk_back.Goals as goal

pub returns-then-t-eq0 : goal.returns-then-t-eq0
returns-then-t-eq0 c = (walk_end c.args.from.now c.args.at.now c.args.s c.args.x.now c.args.t c.if-t-eq0.true, omega arith)

pub returns : goal.returns
returns c = (walk_is c.args.from.now c.args.at.now c.args.s c.args.x.now c.args.t c.if-t-eq0.false c.from-e.ensures c.shift.ensures c.single.ensures c.saturating_sub.ensures, omega arith)
