-- The rows stand for the arcs of the plan, and its costs are those of a plan that is well formed.
use mathlib.Core.Path.{sym, ◌∙◌}
use native.Mathlib.Omega.{arith}
use lib.Seq.{length-take-le}
use Rattle.plan.specs.Laws.Records.{record_arcs}
use Rattle.judge.specs.Laws.Call.{rows_answer, rows_cost}
use Rattle.plan.specs.Laws.Rows.{made_long, made_value}
use Rattle.judge.proofs.call.judge_plan.Goals as goal

pub rows_of-rows-requires : goal.rows_of-rows-requires
rows_of-rows-requires c = record_arcs _ c.args.good.now.well_formed

pub slice_bounds-rows-end : goal.slice_bounds-rows-end
slice_bounds-rows-end c = omega (arith, record_arcs _ c.args.good.now.well_formed, made_long _ _ c.rows_of-rows.ensures)

pub slice_bounds-judge_arcs-end : goal.slice_bounds-judge_arcs-end
slice_bounds-judge_arcs-end c =
    let l = record_arcs _ c.args.good.now.well_formed in
    let e = made_long _ _ c.rows_of-rows.ensures in
    sym (length-take-le _ c.rows_of-rows.result (omega arith))

pub judge_arcs-requires : goal.judge_arcs-requires
judge_arcs-requires c =
    let l = record_arcs _ c.args.good.now.well_formed in
    let e = made_long _ _ c.rows_of-rows.ensures in
    let k = length-take-le c.args.good.now.plan.m c.rows_of-rows.result (omega arith) in
    (omega arith, rows_cost _ _ _ (made_value _ _ c.rows_of-rows.ensures l) c.args.good.now.well_formed _ c.requires)

pub returns : goal.returns
returns c = c.judge_arcs.ensures ∙ rows_answer _ _ _ (made_value _ _ c.rows_of-rows.ensures (record_arcs _ c.args.good.now.well_formed)) _
