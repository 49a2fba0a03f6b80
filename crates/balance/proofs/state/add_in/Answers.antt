-- The way is the price's, and the laws of the step give what the unit asks. Assumes nothing.
use Rattle.postman.specs.Steps.{cell}
use Rattle.residual_search.specs.Step.{state_in}
use Rattle.balance.specs.Laws.Step.{add_made}
use Rattle.balance.proofs.state.add_in.Goals as goal

pub returns : goal.returns
returns c =
    add_made (cell c.args.d.now) c.args.vs.now (state_in c.args.f.now c.args.u.now c.args.cost c.args.count) c.args.tail c.args.head c.price-added.ensures c.augment_along.ensures
