-- A slice that is too short, or the state after the call.
use Rattle.std.proofs.Common.{◌∙◌, subst, refl}
use Rattle.integers.specs.Linear.{back64}
use Rattle.open_plan.specs.declared.OpenPlan.{OpenPlan}
use Rattle.open_plan_exports.specs.Laws.Editing.{moved_short, moved_lent}
use Rattle.open_plan_bytes.specs.Laws.StateBytes.{stored_back}
use Rattle.open_plan_exports.proofs.editing.moved.Goals as goal

pub returns-then-state-lt7385 : goal.returns-then-state-lt7385
returns-then-state-lt7385 g c = λ k h. moved_short k _ _ c.if-state-lt7385.true (back64 _ c.refused_number.type_inv ∙ c.refused_number.ensures)

pub returns : goal.returns
returns g c = λ k h.
    let m = c.store_moved in
    let r = c.call-r.result in
    let p = subst (λ (s : OpenPlan). g.F.FnOnce.post c.args.call (s, tt) r) c.load-s.ensures c.call-r.ensures in
    moved_lent k _ _ _ _ r c.if-state-lt7385.false refl (h r p) (stored_back m.type_inv m.ensures)
