-- An answer's words and multipliers are put; a refusal leaves what is lent.
use Rattle.std.specs.Prelude.{Result}
use Rattle.std.proofs.Common.{sym, ap, ◌∙◌}
use Rattle.integers.specs.Linear.{back64}
use Rattle.refusal.specs.declared.Refusal.{Refusal}
use Rattle.refusal.specs.Verdict.{verdict_number}
use Rattle.solution.specs.declared.Planned.{Planned}
use Rattle.solution.specs.Planned.{u_list}
use Rattle.answers.specs.Answer.{words_of, put_first}
use Rattle.answers.specs.Laws.Answer.{handed, kept}
use Rattle.answers.proofs.answer.hand_over.Goals as goal

pub returns-in-Ok : goal.returns-in-Ok
returns-in-Ok c =
    let e = sym c.in-Ok.is in
    handed _ _ _ _ _ _ (ap verdict_number c.in-Ok.is) (c.words.ensures ∙ ap words_of e) c.put_first.ensures
    (c.put_first-in-Ok.ensures ∙ ap (λ (x : Result Planned Refusal). put_first (u_list x) c.args.u_lent.now) e)

pub returns-in-Err : goal.returns-in-Err
returns-in-Err c = kept _ _ _ _ _ (ap verdict_number c.in-Err.is) (back64 _ c.refused_number.type_inv ∙ c.refused_number.ensures)
