-- What is copied, and no district behind it.
use Rattle.std.proofs.Common.{◌≡◌, length, rules}
use Rattle.district_machine.specs.Laws.Held.{copied}
use Rattle.district_machine.proofs.places.lined_up.Goals as goal

pub returns : goal.returns
returns c =
    let long : length c.args.line ≡ 8 = search (rules, c.well_formed) in
    copied c.args.line _ c.args.from c.args.n _ long c.requires c.copy_from_slice.ensures.after c.no_district-next.ensures
