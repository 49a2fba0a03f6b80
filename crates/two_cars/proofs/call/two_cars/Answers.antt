-- A file that is refused refuses both cars; one that is not gives its plan and its tables, and each car is answered over them.
use Rattle.std.proofs.Common.{◌≡◌, refl, sym, length, arith}
use Rattle.plan_file.specs.Laws.Reading.{read_good}
use Rattle.shortest.specs.Laws.Weight.{table_costs}
use Rattle.multipliers.specs.Laws.Table.{table_is, rows}
use Rattle.two_cars.specs.Laws.Call.{is_car, file_refused_for, read_planned_for}
use Rattle.two_cars.proofs.call.two_cars.Goals as goal

pub invariant_of-good-clause-well_formed : goal.invariant_of-good-clause-well_formed
invariant_of-good-clause-well_formed c = read_good c.in-Ok.ensures

pub invariant_of-t-clause-has_table : goal.invariant_of-t-clause-has_table
invariant_of-t-clause-has_table c =
    let t = c.table_of-table in
    let w = c.table-weights in
    let d = table_costs _ (read_good c.in-Ok.ensures) w.result t.result w.ensures t.ensures in
    let long : length t.result ≡ 64 = t.type_inv.1.0.1 in
    table_is _ t.result long (λ i l. rows t.result t.type_inv.0 t.type_inv.1.1 i (omega arith)) d

pub returns-in-Err : goal.returns-in-Err
returns-in-Err c =
    let v = sym c.in-Err.ensures.verdict in
    record {
      first = is_car _ _ _ _ _ _ (file_refused_for _ _ _ _ _ _ _ refl refl v);
      second = is_car _ _ _ _ _ _ (file_refused_for _ _ _ _ _ _ _ refl refl v);
    }

pub returns-in-Ok : goal.returns-in-Ok
returns-in-Ok c =
    let r = c.in-Ok.ensures in
    let e = sym r.verdict in
    record {
      first = is_car _ _ _ _ _ _ (read_planned_for _ _ _ _ _ _ _ r e c.plan_car-first.ensures);
      second = is_car _ _ _ _ _ _ (read_planned_for _ _ _ _ _ _ _ r e c.plan_car-second.ensures);
    }
