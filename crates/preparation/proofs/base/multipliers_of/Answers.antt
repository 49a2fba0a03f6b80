-- The state of the required arcs is certified and has room, and its first vertex is the root.
use mathlib.Core.Path.{◌∙◌}
use Rattle.multipliers.specs.Laws.Lay.{base_metric}
use Rattle.multipliers.specs.Laws.Root.{some_place, first_in, from_root_lem, base_certified, base_room}
use Rattle.preparation.proofs.base.multipliers_of.Goals as goal

pub bounds-vs-0 : goal.bounds-vs-0
bounds-vs-0 c = some_place _ _ _ _ c.requires

pub multipliers-requires : goal.multipliers-requires
multipliers-requires c =
    let b = c.requires in
    (base_metric _ _ _ b.known, base_certified _ _ _ _ b, base_room _ _ _ _ b, first_in _ _ _ _ b)

pub returns : goal.returns
returns c = c.multipliers.ensures ∙ from_root_lem _ _ _ _ c.requires
