-- The answer of the call is handed over.
use Rattle.answers.specs.Laws.Answer.{handed_back}
use Rattle.exports.proofs.call.postman_plan_call_at.Goals as goal

pub returns : goal.returns
returns c =
    let r = c.plan_call_at-r in
    let h = c.hand_over in
    record { answer = r.result; called = r.ensures; handed_over = handed_back h.type_inv h.ensures }
