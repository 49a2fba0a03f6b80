-- Step by step, what the definition keeps.
use mathlib.Core.Path.{◌≡◌}
use mir.Val.{to_z, of_z}
use mir.Syntax.{w64}
use Rattle.round_rule.specs.Laws.Made.{kept_as, few_counted}
use borrow.Author.Rules.{rules}
use Rattle.round_rule.proofs.kept.kept_of.Goals as goal

pub carry-requires : goal.carry-requires
carry-requires c = c.requires.2

pub count-requires : goal.count-requires
count-requires c =
    (few_counted _ _ _ _ _ c.args.k _ _ _ _ c.cheaper-d.ensures c.tighter-t.ensures c.nearer-f.ensures c.requires.0, c.requires.1)

pub returns : goal.returns
returns c =
    let d = c.cheaper-d in
    let u = c.carry in
    let t = c.tighter-t in
    let b = c.nearer-f in
    let f : to_z w64 (of_z w64 c.args.a.floor) ≡ c.args.a.floor = search rules in
    kept_as c.args.c c.args.a _ c.args.k d.result t.result b.result _ _ u.result c.saturating_sub.result f d.ensures u.ensures t.ensures
    (rw c.from.ensures at c.saturating_sub.ensures) b.ensures c.count.ensures
