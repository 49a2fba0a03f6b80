-- Where the rounds refuse, the answer is the refusal; where they do not, the tables are the plan's.
use mathlib.Core.Path.{◌≡◌, refl, sym, ◌∙◌}
use native.Mathlib.Omega.{arith}
use lib.ListN.{length}
use Rattle.shortest.specs.Laws.Weight.{table_costs}
use Rattle.multipliers.specs.Laws.Table.{table_is, rows}
use Rattle.deep_call.specs.Laws.Call.{step_refused, step_on, rounds_refused, rounds_good, rounds_in, last_deep}
use Rattle.deep_call.proofs.call.deep_within.Goals as goal

pub returns-then-bad_rounds : goal.returns-then-bad_rounds
returns-then-bad_rounds c = step_refused _ _ _ _ _ _ _ _ refl (rounds_refused _ (sym c.bad_rounds.ensures ∙ c.if-bad_rounds.true))

pub plan_deep-requires : goal.plan_deep-requires
plan_deep-requires c =
    let r = rounds_in _ (sym c.bad_rounds.ensures ∙ c.if-bad_rounds.false) in
    record { room = c.requires.2; within_limits = (c.requires.0, c.requires.1, r.0, r.1) }

pub invariant_of-plan_deep-clause-has_table : goal.invariant_of-plan_deep-clause-has_table
invariant_of-plan_deep-clause-has_table c =
    let w = c.table-weights in
    let t = c.table_of-table in
    let d = table_costs _ c.args.good.now.well_formed w.result t.result w.ensures t.ensures in
    let long : length t.result ≡ 64 = t.type_inv.1.0.1 in
    table_is _ t.result long (λ i l. rows t.result t.type_inv.0 t.type_inv.1.1 i (omega arith)) d

pub returns : goal.returns
returns c = step_on _ _ _ _ _ _ _ _ (rounds_good _ (sym c.bad_rounds.ensures ∙ c.if-bad_rounds.false)) (last_deep _ _ _ _ _ _ c.args.good.now.well_formed c.plan_deep.ensures)
