-- The closure answers what returning does.
use Rattle.std.proofs.Common.{rules}
use Rattle.postman.specs.OpenPlan.{return as a_return}
use Rattle.open_plan_exports.specs.Laws.Editing.{move_back}
use Rattle.open_plan_exports.proofs.editing.postman_return.Goals as goal

pub returns : goal.returns
returns c = move_back c.moved.type_inv (c.moved.ensures (a_return c.args.mark) (λ r p. search rules))
