-- Where the marks are bad, the answer is the refusal; where they are not, the car's plan is well formed, the tables are its own, and it is answered.
use mathlib.Core.Path.{refl, sym, ap, ◌∙◌, subst⁻¹}
use Rattle.postman.specs.Plan.{Plan, WellFormed}
use Rattle.postman_laws.specs.Laws.Marks.{car_well_formed}
use Rattle.plan.specs.Laws.Records.{record_arcs}
use Rattle.shortest.specs.StepContracts.{AreWeights}
use Rattle.multipliers.specs.Drive.{table_of}
use Rattle.call_steps.specs.Laws.Chain.{step_refused, made_planned}
use Rattle.car_marks.specs.Laws.Marks.{good_length}
use Rattle.two_cars.specs.Laws.Call.{table_shared, weights_shared, marks_refused, marks_good}
use Rattle.two_cars.proofs.call.plan_marked.Goals as goal

pub has_bad_mark-requires : goal.has_bad_mark-requires
has_bad_mark-requires c = record_arcs _ c.args.t.now.good.now.well_formed

pub car_plan-requires : goal.car_plan-requires
car_plan-requires c =
    (record_arcs _ c.args.t.now.good.now.well_formed, good_length _ _ (sym c.has_bad_mark.ensures ∙ c.if-has_bad_mark.false))

pub invariant_of-plan_tabled-clause-well_formed : goal.invariant_of-plan_tabled-clause-well_formed
invariant_of-plan_tabled-clause-well_formed c =
    subst⁻¹ WellFormed c.car_plan.ensures (car_well_formed _ _ c.args.t.now.good.now.well_formed)

pub invariant_of-plan_tabled-2-clause-has_table : goal.invariant_of-plan_tabled-2-clause-has_table
invariant_of-plan_tabled-2-clause-has_table c =
    table_shared _ _ c.args.t.now.table.now c.args.t.now.has_table ∙ ap table_of (sym c.car_plan.ensures)

pub invariant_of-plan_tabled-2-clause-weighed : goal.invariant_of-plan_tabled-2-clause-weighed
invariant_of-plan_tabled-2-clause-weighed c =
    subst⁻¹ (λ (p : Plan). AreWeights p c.args.t.now.weights.now) c.car_plan.ensures (weights_shared _ _ c.args.t.now.weights.now c.args.t.now.weighed)

pub returns-then-has_bad_mark : goal.returns-then-has_bad_mark
returns-then-has_bad_mark c = step_refused _ _ _ _ _ _ _ refl (marks_refused _ _ (sym c.has_bad_mark.ensures ∙ c.if-has_bad_mark.true))

pub returns : goal.returns
returns c =
    made_planned _ _ _ _ _ _ _ c.car_plan.ensures (car_well_formed _ _ c.args.t.now.good.now.well_formed) (marks_good _ _ (sym c.has_bad_mark.ensures ∙ c.if-has_bad_mark.false)) c.plan_tabled.ensures
