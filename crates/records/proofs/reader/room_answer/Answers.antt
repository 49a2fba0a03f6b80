-- `room_answer` meets its contract: the reading and the room say which case of the definition it is.
use Rattle.std.proofs.Common.{◌≡◌, ◌∙◌, sym, ap, rules, Result, Err}
use Rattle.plan_file.specs.declared.Reading.{Reading}
use Rattle.refusal.specs.declared.Refusal.{Refusal}
use Rattle.records.specs.Reading.{read_numbers, room_answer}
use Rattle.records.specs.Laws.Reading.{too_short, long_enough, refusal_of_file}
use Rattle.records.proofs.reader.room_answer.Goals as goal

pub returns-in_err-edition : goal.returns-in_err-edition
returns-in_err-edition c =
    let q = c.in_err-edition.field-0.0 in
    let r : c.from_residual.result ≡ Err q = search rules in
    ap read_numbers r
    ∙ refusal_of_file q c.args.room
    ∙ ap (λ (x : Result Reading Refusal). room_answer x c.args.room) (sym c.in_err-edition.was)

pub returns-then-room-plan : goal.returns-then-room-plan
returns-then-room-plan c =
    too_short c.in_ok-edition.field-0 c.args.room c.if-room-plan.true
    ∙ ap (λ (x : Result Reading Refusal). room_answer x c.args.room) (sym c.in_ok-edition.was)

pub returns : goal.returns
returns c =
    long_enough c.in_ok-edition.field-0 c.args.room c.if-room-plan.false
    ∙ ap (λ (x : Result Reading Refusal). room_answer x c.args.room) (sym c.in_ok-edition.was)
