-- No tree before those of the round costs less than what is kept; and the round is the definition's.
use native.Mathlib.Omega.{arith}
use Rattle.plan.specs.Records.{plan_value}
use Rattle.round_rule.specs.Laws.Tables.{plan_accepted, inside_to}
use Rattle.rounds.specs.Laws.Round.{next_as, few_tried, old_tried, old_fewer}
use Rattle.rounds.specs.Laws.Held.{round_asks, next_held}
use Rattle.rounds.proofs.round.next_round.Goals as goal

pub overflow_sub-before : goal.overflow_sub-before
overflow_sub-before c =
    let t = c.requires.has_table in
    let b = c.requires.within_limits in
    let a = plan_accepted _ c.args.m.now.good.now.well_formed t.0 in
    (round_asks _ a.0 a.1 _ c.args.round b.0 b.1 c.args.d.kept t.1 _ c.choose-c.ensures).0

pub cheaper_under-a-requires : goal.cheaper_under-a-requires
cheaper_under-a-requires c =
    let t = c.requires.has_table in
    let b = c.requires.within_limits in
    let a = plan_accepted _ c.args.m.now.good.now.well_formed t.0 in
    let g = round_asks _ a.0 a.1 _ c.args.round b.0 b.1 c.args.d.kept t.1 _ c.choose-c.ensures in
    (t.0, g.1, g.2)

pub overflow_sub-a : goal.overflow_sub-a
overflow_sub-a c =
    let t = c.requires.has_table in
    let b = c.requires.within_limits in
    let a = plan_accepted _ c.args.m.now.good.now.well_formed t.0 in
    let h = c.choose-c in
    let g = round_asks _ a.0 a.1 _ c.args.round b.0 b.1 c.args.d.kept t.1 _ h.ensures in
    let f = c.cheaper_under-a in
    old_fewer _ _ _ _ f.result f.ensures g.2.within g.1.few_tries _ c.tried_count-old.ensures

pub kept_of-requires : goal.kept_of-requires
kept_of-requires c =
    let t = c.requires.has_table in
    let b = c.requires.within_limits in
    let a = plan_accepted _ c.args.m.now.good.now.well_formed t.0 in
    let h = c.choose-c in
    let g = round_asks _ a.0 a.1 _ c.args.round b.0 b.1 c.args.d.kept t.1 _ h.ensures in
    let f = c.cheaper_under-a in
    let l = few_tried _ _ _ f.result g.1.few_tries f.ensures in
    (t.1.few_trees, omega arith, inside_to _ c.args.m.now.good.now.well_formed _ g.1.numbers)

pub returns : goal.returns
returns c =
    let t = c.requires.has_table in
    let b = c.requires.within_limits in
    let a = plan_accepted _ c.args.m.now.good.now.well_formed t.0 in
    let h = c.choose-c in
    let g = round_asks _ a.0 a.1 _ c.args.round b.0 b.1 c.args.d.kept t.1 _ h.ensures in
    let d = c.args.d in
    let f = c.cheaper_under-a in
    let o = c.tried_count-old in
    let k = c.kept_of in
    let e = old_tried _ _ _ _ f.result f.ensures g.2.within g.1.few_tries _ o.ensures in (
      next_as _ _ _ d.kept h.result f.result o.result k.result h.ensures f.ensures e k.ensures,
      next_held (plan_value c.args.m.now.good.now.plan) d _ h.result.trial f.result _ _ _ _ _ t.2 f.ensures k.ensures c.chosen_of.ensures,
    )
