-- The table holds the costs of the least weights, which are the distances; so it is the table of the definition.
use mathlib.Core.Path.{◌≡◌}
use native.Mathlib.Omega.{arith}
use lib.ListN.{length}
use Rattle.shortest.specs.Laws.Weight.{table_costs}
use Rattle.multipliers.specs.Laws.Table.{table_is, rows}
use Rattle.district_turn.proofs.plan_turn.turn_read.Goals as goal

pub invariant_of-turn_tabled-clause-has_table : goal.invariant_of-turn_tabled-clause-has_table
invariant_of-turn_tabled-clause-has_table c =
    let w = c.table-weights in
    let t = c.table_of-table in
    let d = table_costs _ c.args.good.now.well_formed w.result t.result w.ensures t.ensures in
    let long : length t.result ≡ 64 = t.type_inv.1.0.1 in
    table_is _ t.result long (λ i l. rows t.result t.type_inv.0 t.type_inv.1.1 i (omega arith)) d
