-- `read_answer` meets its contract: what a reading answers is what the file's conditions and the room say (`room_answer_lem`).
use mathlib.Core.Path.{◌∙◌}
use Rattle.records.specs.Laws.Reading.{room_answer_lem}
use Rattle.records.proofs.reader.read_answer.Goals as goal

pub returns : goal.returns
returns c =
    let a = c.args in
    c.room_answer.ensures ∙ room_answer_lem a.bytes.now a.room _ c.read_plan.ensures
