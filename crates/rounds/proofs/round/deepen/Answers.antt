-- The invariant: what is kept is that after the rounds so far, and its trees are held. Once floor and cost have met it stays.
use mir.Val.{to_z, of_z}
use mir.Syntax.{w64}
use mathlib.Core.Path.{◌≡◌, subst⁻¹}
use native.Mathlib.Omega.{arith}
use Rattle.round_rule.specs.Trial.{GoesOn}
use Rattle.round_rule.specs.Laws.Tables.{plan_accepted}
use Rattle.round_rule.specs.Laws.Kept.{goes_on}
use Rattle.rounds.specs.Laws.Round.{met_as, deeper, ended, cost_fits}
use Prim.Native.Nat.{◌-◌}
use borrow.Author.Rules.{rules}
use Rattle.rounds.proofs.round.deepen.Goals as goal

pub have_met-requires : goal.have_met-requires
have_met-requires c =
    let b = c.requires.within_limits in
    cost_fits _ c.args.m.now.good.now.well_formed c.requires.has_table.0 _ b.0 b.1 _ _ (omega arith) c.loop-i.invariant.2

pub returns-then-have_met : goal.returns-then-have_met
returns-then-have_met c = let l = c.loop-i in
    let f : to_z w64 (of_z w64 l.d.kept.floor) ≡ l.d.kept.floor = search rules in
    (ended _ _ l.i _ l.d.kept l.invariant.0 l.invariant.1 l.invariant.2 (met_as l.d.kept _ _ _ f c.have_met.ensures c.if-have_met.true), l.invariant.3)

pub next_round-d-requires : goal.next_round-d-requires
next_round-d-requires c =
    let l = c.loop-i in
    let b = c.requires.within_limits in
    let a = plan_accepted _ c.args.m.now.good.now.well_formed c.requires.has_table.0 in record {
      has_table = (c.requires.has_table.0, subst⁻¹ (GoesOn _) l.invariant.2 (goes_on _ a.0 a.1 _ b.0 b.1 (l.i - 1) (omega arith)), l.invariant.3);
      within_limits = (b.0, b.1);
    }

pub loop-i-preserved : goal.loop-i-preserved
loop-i-preserved c = let l = c.loop-i in
    let f : to_z w64 (of_z w64 l.d.kept.floor) ≡ l.d.kept.floor = search rules in
    (omega arith, omega arith, deeper _ _ l.i l.d.kept _ l.invariant.0 l.invariant.2 (met_as l.d.kept _ _ _ f c.have_met.ensures c.if-have_met.false) c.next_round-d.ensures.0, c.next_round-d.ensures.1)
