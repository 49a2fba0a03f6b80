-- By what stands in each place.
use Rattle.std.proofs.Common.{rules}
use Rattle.renumbering.specs.Laws.Renumbered.{carried_by}
use Rattle.renumbering.proofs.renumbered.carry.Goals as goal

pub returns : goal.returns
returns c = carried_by _ _ c.entries.result (search rules) (λ v l. c.entries.ensures v _ l)
