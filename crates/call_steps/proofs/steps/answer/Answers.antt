-- The plan is known, so that it can be prepared, and `solve` answers it.
use Rattle.call_steps.specs.Laws.Call.{is_known}
use Rattle.call_steps.proofs.steps.answer.Goals as goal

pub prepare-parts-requires : goal.prepare-parts-requires
prepare-parts-requires c =
    let m = c.args.t.now in
    let net = c.requires.measured.0 in
    (is_known _ _ _ (record { well_formed = m.good.now.well_formed; distances = m.has_table; network = net }) c.requires.measured.1, net)
