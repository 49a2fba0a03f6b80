-- By the verdict.
use mathlib.Core.Option.{some}
use mathlib.Core.Path.{sym, ap, ◌∙◌}
use Rattle.integers.specs.Linear.{back64}
use Rattle.postman.specs.Refusal.{answer}
use Rattle.std.proofs.Common.{Result}
use Rattle.refusal.specs.declared.Refusal.{Refusal}
use Rattle.refusal.specs.Verdict.{verdict_number, or_else}
use Rattle.answers.specs.Number.{one_number}
use Rattle.open_plan_bytes.proofs.state_bytes.short_number.Goals as goal

pub returns-in-Ok : goal.returns-in-Ok
unfolding answer
returns-in-Ok c = back64 _ c.refused_number.type_inv ∙ c.refused_number.ensures ∙ ap (λ (v : Result (Unit {0}) Refusal). one_number (answer (or_else (verdict_number v) (some 8)) 0)) (sym c.in-Ok.is)

pub returns-in-Err : goal.returns-in-Err
unfolding answer
returns-in-Err c = back64 _ c.refused_number-in-Err.type_inv ∙ c.refused_number-in-Err.ensures ∙ ap (λ (v : Result (Unit {0}) Refusal). one_number (answer (or_else (verdict_number v) (some 8)) 0)) (sym c.in-Err.is)
