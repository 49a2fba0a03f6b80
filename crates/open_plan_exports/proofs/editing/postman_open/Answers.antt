-- A slice that is too short, or the state of the opening.
use mathlib.Core.Path.{◌∙◌}
use Rattle.integers.specs.Linear.{back64}
use Rattle.open_plan_exports.specs.Laws.Editing.{opened_short, opened_lent}
use Rattle.open_plan_bytes.specs.Laws.StateBytes.{stored_back}
use Rattle.open_plan_exports.proofs.editing.postman_open.Goals as goal

pub returns-then-state-lt7385 : goal.returns-then-state-lt7385
returns-then-state-lt7385 c =
    let o = c.open-r in
    opened_short _ _ _ o.result o.ensures c.if-state-lt7385.true (back64 _ c.short_number.type_inv ∙ c.short_number.ensures)

pub returns : goal.returns
returns c =
    let o = c.open-r in
    let m = c.store_moved in
    opened_lent _ _ _ o.result o.ensures _ c.if-state-lt7385.false (stored_back m.type_inv m.ensures)
