-- No tree was tried before, so that what is found is the best; and that is what is kept first.
use mathlib.Core.Path.{refl}
use native.Mathlib.Omega.{arith}
use Rattle.tree_search.specs.Laws.Improved.{can_begin}
use Rattle.held_tree.specs.Laws.Cheaper.{first_best}
use Rattle.round_rule.specs.Laws.Tables.{plan_accepted}
use Rattle.rounds.specs.Laws.Round.{first_kept}
use Rattle.rounds.specs.Laws.Held.{first_held}
use Rattle.rounds.proofs.round.first_round.Goals as goal

pub cheaper_tabled-a-requires : goal.cheaper_tabled-a-requires
cheaper_tabled-a-requires c =
    let a = plan_accepted _ c.args.m.now.good.now.well_formed c.requires.0 in
    let l = c.requires.2 in
    (c.requires.0, can_begin _ a.0 a.1 _ c.requires.1 (omega arith))

pub returns : goal.returns
returns c =
    let f = c.cheaper_tabled-a in
    let a = plan_accepted _ c.args.m.now.good.now.well_formed c.requires.0 in
    let b = first_best _ a.0 a.1 _ c.requires.1 f.result f.ensures in
    let e = first_kept _ _ _ f.result _ f.ensures b c.begin.ensures in
    (e, first_held _ _ _ f.result b e refl)
