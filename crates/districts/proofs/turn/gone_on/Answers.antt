-- It stands behind the last of them.
use Rattle.district_machine.specs.Laws.Held.{back_is}
use Rattle.districts.proofs.turn.gone_on.Goals as goal

pub returns : goal.returns
returns c = λ ds e. back_is c.args.others ds _ e c.requires
