-- Each part comes after the one before it.
use Rattle.std.proofs.Common.{arith}
use Rattle.drive_legs.specs.Laws.Filled.{added_more, added_length}
use Rattle.drive_legs.specs.Laws.Noted.{noted_length}
use Rattle.drive_legs.specs.Laws.Laid.{laid, links_length}
use Rattle.drive_legs.proofs.legs.lay.Goals as goal

pub add_links-requires : goal.add_links-requires
add_links-requires c = (c.requires.0, omega (arith, c.requires.1, (noted_length _ _ _ c.gather-legs.ensures).1))

pub add_units-requires : goal.add_units-requires
add_units-requires c =
    let a = c.args in
    omega (
      arith,
      c.requires.1,
      (noted_length _ _ _ c.gather-legs.ensures).1,
      added_length _ _ _ c.add_links.ensures,
      links_length a.link_tails.now a.link_heads.now c.requires.0,
    )

pub returns : goal.returns
returns c = laid _ _ _ _ _ c.gather-legs.ensures (added_more _ _ _ _ _ c.add_links.ensures c.add_units.ensures)
