-- Each number is the place of an entry.
use Rattle.std.proofs.Common.{◌<◌, arith, rules}
use Rattle.renumbering.specs.Laws.Numbering.{in_place}
use Rattle.renumbering.proofs.renumbered.fn.entries.from_fn.Goals as goal

pub offset_bounds-xs-from : goal.offset_bounds-xs-from
offset_bounds-xs-from g c =
    let k = c.args.k in
    let e = in_place c.captures.numbers.now k 0 k (omega arith) in
    let h : c.from.result < 64 = omega (arith, e, c.requires.1.1 k c.requires.0) in
    search rules

pub listed : goal.listed
listed g c =
    let k = c.args.k in
    let e = in_place c.captures.numbers.now k 0 k (omega arith) in
    let h : c.from.result < 64 = omega (arith, e, c.requires.1.1 k c.requires.0) in
    search rules

pub bounds-xs-from : goal.bounds-xs-from
bounds-xs-from g c =
    let k = c.args.k in
    omega (arith, in_place c.captures.numbers.now k 0 k (omega arith), c.requires.1.1 k c.requires.0)
