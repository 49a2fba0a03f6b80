-- The tests on the way say which of the first conditions applies.
use mathlib.Core.Path.{sym, ap, ◌∙◌}
use Rattle.postman.specs.PlanFile.{is_edition}
use Rattle.judge.specs.Laws.Call.{torn_first, edition_next, extent_then}
use Rattle.judge.proofs.call.long_list.Goals as goal

pub returns-then-bytes-lt3 : goal.returns-then-bytes-lt3
returns-then-bytes-lt3 c = torn_first _ _ c.requires c.if-bytes-lt3.true

pub returns-then-is_edition : goal.returns-then-is_edition
returns-then-is_edition c = extent_then _ _ c.requires c.if-bytes-lt3.false (ap is_edition (sym c.file_edition.ensures) ∙ sym c.is_edition.ensures ∙ c.if-is_edition.true)

pub returns-else-is_edition : goal.returns-else-is_edition
returns-else-is_edition c = edition_next _ _ c.requires c.if-bytes-lt3.false (ap is_edition (sym c.file_edition.ensures) ∙ sym c.is_edition.ensures ∙ c.if-is_edition.false)
