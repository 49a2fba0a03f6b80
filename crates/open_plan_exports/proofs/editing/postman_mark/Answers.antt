-- The closure answers what the mark does.
use Rattle.std.proofs.Common.{rules}
use Rattle.postman.specs.OpenPlan.{mark as a_mark}
use Rattle.open_plan_exports.specs.Laws.Editing.{move_back}
use Rattle.open_plan_exports.proofs.editing.postman_mark.Goals as goal

pub returns : goal.returns
returns c = move_back c.moved.type_inv (c.moved.ensures (a_mark c.args.mark) (λ r p. search rules))
