-- What is kept was found with a numbering, under which the tree that is held is laid.
use native.Mathlib.Omega.{arith}
use mathlib.Core.Path.{◌≡◌}
use mir.Val.{to_z, of_z}
use mir.Syntax.{w64}
use Rattle.rounds.specs.Laws.Round.{cost_fits, kept_trial}
use Rattle.deep_call.specs.Laws.Laid.{laid_best}
use borrow.Author.Rules.{rules}
use Rattle.deep_call.proofs.call.lay_best.Goals as goal

pub lay_under-a-requires : goal.lay_under-a-requires
lay_under-a-requires c =
    let t = c.requires.tabled in
    let b = c.requires.within_limits in
    (t.0, kept_trial _ c.args.t.now.good.now.well_formed t.0 _ b.0 b.1 _ _ (omega arith) t.1, t.2, t.3)

pub have_met-requires : goal.have_met-requires
have_met-requires c =
    let t = c.requires.tabled in
    let b = c.requires.within_limits in
    cost_fits _ c.args.t.now.good.now.well_formed t.0 _ b.0 b.1 _ _ (omega arith) t.1

pub returns : goal.returns
returns c =
    let t = c.requires.tabled in
    let b = c.requires.within_limits in
    let a = c.lay_under-a in
    let f : to_z w64 (of_z w64 c.args.d.kept.floor) ≡ c.args.d.kept.floor = search rules in
    laid_best _ c.args.t.now.good.now.well_formed t.0 _ b.0 b.1 _ b.2 c.args.d.kept t.1 _ _ a.result a.ensures.0 a.ensures.1 a.ensures.2 _ _ f c.have_met.ensures
