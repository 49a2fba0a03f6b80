-- An accepted call is stored; a refusal leaves what is lent.
use mathlib.Core.Path.{ap, ◌∙◌}
use Rattle.integers.specs.Linear.{back64}
use Rattle.refusal.specs.Verdict.{verdict_number}
use Rattle.open_plan_bytes.specs.Laws.StateBytes.{stored_accepted, stored_refused}
use Rattle.open_plan_bytes.proofs.state_bytes.store_moved.Goals as goal

pub returns-in-Ok : goal.returns-in-Ok
returns-in-Ok c = stored_accepted _ _ _ (ap verdict_number c.in-Ok.is) c.store.ensures

pub returns-in-Err : goal.returns-in-Err
returns-in-Err c = stored_refused _ _ _ _ (ap verdict_number c.in-Err.is) (back64 _ c.refused_number.type_inv ∙ c.refused_number.ensures)
