-- `field_from` meets its contract: where there is such a field, it is what `field` answers.
use mathlib.Core.Path.{◌∙◌, sym}
use native.Mathlib.Omega.{arith}
use Rattle.bits.specs.Laws.Taking.{takes_within, taken_is, nothing_taken}
use Rattle.bits.proofs.reader.field_from.Goals as goal

pub field-value-requires : goal.field-value-requires
field-value-requires c = let a = c.args in takes_within a.file.now a.at a.width (sym c.can_take.ensures ∙ c.if-can_take.true)

pub overflow_add-result : goal.overflow_add-result
overflow_add-result c =
    let a = c.args in
    let w = takes_within a.file.now a.at a.width (sym c.can_take.ensures ∙ c.if-can_take.true) in
    omega (arith, w.0, w.2)

pub returns-then-can_take : goal.returns-then-can_take
returns-then-can_take c =
    let a = c.args in
    let t = taken_is a.file.now a.at a.width (sym c.can_take.ensures ∙ c.if-can_take.true) in
    (c.field-value.ensures ∙ t.0, t.1)

pub returns : goal.returns
returns c = let a = c.args in nothing_taken a.file.now a.at a.width (sym c.can_take.ensures ∙ c.if-can_take.false)
