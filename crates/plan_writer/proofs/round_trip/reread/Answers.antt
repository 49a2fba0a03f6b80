-- `reread` meets its contract: the bytes up to the answered length are the file, and reading it gives the plan back (`reread-file`).
use Rattle.std.proofs.Common.{◌≡◌, refl, sym}
use lib.Seq.{length-take-le}
use Rattle.plan.specs.Records.{plan_value}
use Rattle.plan_writer.specs.Laws.Reread.{written-file, reread-file, reread-refused}
use Rattle.plan_writer.proofs.Owned.{owned_costs}
use Rattle.plan_writer.proofs.round_trip.reread.Goals as goal

pub slice_bounds-bytes-end : goal.slice_bounds-bytes-end
slice_bounds-bytes-end c =
    let call = c.write_plan in
    let given = c.in-Ok.ensures.answered in
    let file = written-file c.args.edition (plan_value c.args.p) _ call.new.s c.in-Ok.n given call.ensures.bytes_written in
    file.0

pub slice_bounds-read_plan-end : goal.slice_bounds-read_plan-end
slice_bounds-read_plan-end c =
    let call = c.write_plan in
    let given = c.in-Ok.ensures.answered in
    let file = written-file c.args.edition (plan_value c.args.p) _ call.new.s c.in-Ok.n given call.ensures.bytes_written in
    sym (length-take-le c.in-Ok.n call.new.s file.0)

pub returns-in-Ok : goal.returns-in-Ok
returns-in-Ok c =
    let p = c.args.p in
    let call = c.write_plan in
    let given = c.in-Ok.ensures.answered in
    reread-file c.args.edition p _ call.new.s refl c.read_plan.result c.in-Ok.n
    (owned_costs p.arcs c.well_formed.1.0.1.1.1.1.0.0 c.well_formed.1.0.1.1.1.1.0.1.1)
    given
    call.ensures.bytes_written
    c.read_plan.ensures

pub returns-in-Err : goal.returns-in-Err
returns-in-Err c =
    let a = c.args in
    let call = c.write_plan in
    reread-refused a.edition a.p _ call.new.s refl _ _ c.in-Err.ensures.answered refl refl refl
