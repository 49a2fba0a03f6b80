-- Both places are remainders by n.
use Rattle.renumbering.specs.Laws.Shuffle.{drawn_as}
use Rattle.renumbering.proofs.shuffle.draw.Goals as goal

pub returns : goal.returns
returns c = drawn_as _ _ _ _ c.next-random.ensures.0 c.exchange.ensures
