-- `plan_verdict` meets its contract: the edition stands first.
use mathlib.Core.Path.{◌∙◌, sym}
use Rattle.plan_writer.specs.Laws.Writing.{of_edition}
use Rattle.plan_writer.proofs.writer.plan_verdict.Goals as goal

pub returns-then-not-is_edition : goal.returns-then-not-is_edition
returns-then-not-is_edition c =
    let a = c.args in
    sym (of_edition a.edition a.p a.room (sym c.is_edition.ensures ∙ c.if-not-is_edition.true))
