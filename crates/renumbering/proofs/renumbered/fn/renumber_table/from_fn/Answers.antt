-- Each number is the place of a row.
use Rattle.std.proofs.Common.{arith}
use Rattle.renumbering.specs.Laws.Numbering.{in_place}
use Rattle.renumbering.proofs.renumbered.fn.renumber_table.from_fn.Goals as goal

pub bounds-table-from : goal.bounds-table-from
bounds-table-from c =
    let i = c.args.i in
    omega (arith, in_place c.captures.from.now i 0 i (omega arith), c.requires.1.1 i c.requires.0)
