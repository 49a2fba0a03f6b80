-- The table is that of the definition, so it holds the distances, and the plan can be prepared.
use Rattle.multipliers.specs.Laws.Drive.{is_table}
use Rattle.call_steps.specs.Laws.Call.{known_tabled}
use Rattle.held_tree.proofs.cheaper.cheaper_tabled.Goals as goal

pub network_of-net-requires : goal.network_of-net-requires
network_of-net-requires c = is_table _ _ c.args.m.now.has_table

pub prepare-parts-requires : goal.prepare-parts-requires
prepare-parts-requires c =
    (known_tabled _ _ c.args.m.now.good.now.well_formed c.args.m.now.has_table c.requires.0 _ c.network_of-net.ensures, c.network_of-net.ensures)
