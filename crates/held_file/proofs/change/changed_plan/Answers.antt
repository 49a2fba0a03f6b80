-- The one record that is stored is that of the changed arc.
use Rattle.std.proofs.Common.{◌≡◌, length, arith, rules}
use Rattle.held_file.specs.Change.{change_in}
use Rattle.held_file.specs.Laws.Change.{changed_value}
use Rattle.held_file.proofs.change.changed_plan.Goals as goal

pub returns : goal.returns
returns c =
    let a = c.args in
    let long : length a.plan.arcs ≡ 256 = search (rules, c.well_formed) in
    let l = c.requires.0 in
    let m = c.requires.1 in
    changed_value a.plan (change_in a.c) l (omega arith)
