-- The table is that of the definition, so it holds the distances, and the plan can be prepared.
use Rattle.multipliers.specs.Laws.Drive.{is_table}
use Rattle.call_steps.specs.Laws.Call.{known_tabled}
use Rattle.held_tree.proofs.laid.lay_tabled.Goals as goal

pub network_of-net-requires : goal.network_of-net-requires
network_of-net-requires c = is_table _ _ c.args.t.now.has_table

pub prepare-parts-requires : goal.prepare-parts-requires
prepare-parts-requires c =
    (known_tabled _ _ c.args.t.now.good.now.well_formed c.args.t.now.has_table c.requires.0 _ c.network_of-net.ensures, c.network_of-net.ensures)

pub lay_held-places-requires : goal.lay_held-places-requires
lay_held-places-requires c = (c.requires.1, c.requires.2, c.args.t.now.weighed)
