-- By the test. Assumes nothing.
use mathlib.Core.Path.{◌∙◌}
use Rattle.integers.specs.Linear.{back64}
use Rattle.ascent.specs.Laws.Bodies.{ask_some, ask_none}
use Rattle.ascent.proofs.relax.Pairs.ask.Goals as goal

pub returns-then-marks-w-gt0 : goal.returns-then-marks-w-gt0
returns-then-marks-w-gt0 c =
    let k = c.capped-base in
    let e = simp (back64, c.capped-arg-1.given) at k.ensures.0 in
    ask_some c.args.self.now.d.now c.args.self.now.f.now c.args.self.now.up c.args.self.now.vs.vertices.now c.args.x.now c.args.marks.now c.args.w c.if-marks-w-gt0.true (back64 _ k.type_inv ∙ e) c.move_all.ensures

pub returns-else-marks-w-gt0 : goal.returns-else-marks-w-gt0
returns-else-marks-w-gt0 c =
    ask_none c.args.self.now.d.now c.args.self.now.f.now c.args.self.now.up c.args.self.now.vs.vertices.now c.args.x.now c.args.marks.now c.args.w c.if-marks-w-gt0.false
