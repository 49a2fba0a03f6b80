-- Where the network refuses, the district is stuck; where it does not, the turn is `turn_accepted`'s.
use Rattle.std.proofs.Common.{sym, ap}
use Rattle.postman.specs.Refusal.{is_good}
use Rattle.district_turn.specs.Laws.DistrictTurn.{and_first, is_stuck, as_good}
use Rattle.district_turn.proofs.plan_turn.turn_measured.Goals as goal

pub returns-in-Err : goal.returns-in-Err
unfolding is_good
returns-in-Err c =
    is_stuck _ _ _ _ _ (and_first _ _ (ap is_good (sym c.in-Err.ensures)))

pub returns-in-Ok : goal.returns-in-Ok
returns-in-Ok c =
    as_good _ _ _ _ _ _ _ _ (sym c.in-Ok.ensures) c.turn_accepted.ensures
