-- `record_verdict` meets its contract: the record's fields are those of the arc (`arc_parts`).
use mathlib.Core.Path.{◌∙◌}
use Rattle.arc_rules.specs.Laws.Arcs.{arc_parts}
use Rattle.arc_rules.proofs.rules.record_verdict.Goals as goal

pub returns : goal.returns
returns c =
    let a = c.args in
    c.arc_verdict.ensures ∙ arc_parts a.edition a.n _ _ c.record_standing-standing.ensures
