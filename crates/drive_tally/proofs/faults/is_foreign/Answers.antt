-- The two tests are those of the definition.
use Rattle.std.proofs.Common.{◌∙◌}
use Rattle.std.proofs.lemmas.Bool.{le-leb}
use Rattle.drive_tally.specs.Laws.Faults.{foreign_past, foreign_row}
use Rattle.drive_tally.proofs.faults.is_foreign.Goals as goal

pub returns-then-arcs-k : goal.returns-then-arcs-k
returns-then-arcs-k c = le-leb _ _ c.if-arcs-k.true ∙ foreign_past c.args.arcs.now c.args.k c.if-arcs-k.true

pub returns-else-arcs-k : goal.returns-else-arcs-k
returns-else-arcs-k c = foreign_row c.args.arcs.now c.args.k c.if-arcs-k.false
