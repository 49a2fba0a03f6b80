-- The answer of the call is handed over.
use mathlib.Core.Path.{refl, ◌∙◌}
use native.Mathlib.Omega.{arith}
use Rattle.integers.specs.Linear.{back64}
use Rattle.answers.specs.Laws.Answer.{handed_back}
use Rattle.open_plan_exports.specs.Laws.Editing.{asked_lent}
use Rattle.open_plan_exports.proofs.editing.postman_ask.Goals as goal

pub returns-then-state-lt7385 : goal.returns-then-state-lt7385
returns-then-state-lt7385 c =
    let l = c.if-state-lt7385.true in
    record { asked = λ h. absurd (omega arith); short = λ h. (back64 _ c.refused_number.type_inv ∙ c.refused_number.ensures, refl, refl, refl) }

pub returns : goal.returns
returns c =
    let l = c.if-state-lt7385.false in
    let s = c.load-s in
    let r = c.ask-r in
    let h = c.hand_over in
    record {
      asked = λ g.
          (record {
            answer = r.result;
            called = asked_lent c.args.state.now s.result s.ensures _ _ _ _ _ r.result r.ensures;
            handed_over = handed_back h.type_inv h.ensures;
          });
      short = λ g. absurd (omega arith);
    }
