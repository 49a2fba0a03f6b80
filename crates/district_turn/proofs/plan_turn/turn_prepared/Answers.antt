-- What is held is looked at first; then the search goes on, and what it gives is kept or laid out.
use mathlib.Core.Path.{◌≡◌, sym, ap, ◌∙◌}
use mathlib.Core.Bool.{true}
use Prim.Native.Nat.{◌-◌, ◌<◌}
use native.Mathlib.Omega.{arith}
use lib.ListN.{length}
use Rattle.plan.specs.Records.{plan_value}
use Rattle.postman.specs.Component.{component_count}
use Rattle.preparation.specs.Laws.Preparation.{component_range}
use Rattle.district_turn.specs.DistrictTurn.{is_holding}
use Rattle.district_turn.specs.Laws.DistrictTurn.{is_going, some_left, going_on, after_tree, after_small, held_after_lem}
use borrow.Author.Rules.{rules}
use Rattle.district_turn.proofs.plan_turn.turn_prepared.Goals as goal

pub overflow_sub-k : goal.overflow_sub-k
overflow_sub-k c = rw c.from-k.ensures ((component_range _ _ _ c.args.p.now.prepared).0)

pub returns-then-x : goal.returns-then-x
returns-then-x c =
    let b = c.args.p.now.prepared.base.known in
    let p = plan_value c.args.p.now.good.now.plan in
    let g = c.args.g in
    let t = c.is_holding in
    let i : is_holding p g ≡ true = sym t.ensures ∙ c.if-not-is_holding.false in
    let x = c.resume-x in
    let r = x.result in
    let h = x.ensures in
    let some : g.tried < r.total = (let l = c.if-x-g.false in omega arith) in
    let lt : length r.tails ≡ 8 = search (rules, x.type_inv) in
    let lh : length r.heads ≡ 8 = search (rules, x.type_inv) in
    let n : c.from-k.result - 1 ≡ component_count p - 1 =
    ap (λ k. k - 1) (c.from-k.ensures ∙ c.args.p.now.prepared.network.components.all) in
    is_going p c.args.budget g _ _ (some_left p b.plannable b.few c.args.budget c.requires.1 g r h i some)
    (going_on p b.plannable b.few c.args.budget c.requires.1 g r h some c.if-x.true) _
    (held_after_lem p b.plannable b.few c.args.budget c.requires.1 g r h lt lh (c.from-k.result - 1) n c.kept.result c.kept.ensures)

pub last-requires : goal.last-requires
last-requires c =
    let b = c.args.p.now.prepared.base.known in
    let p = plan_value c.args.p.now.good.now.plan in
    let g = c.args.g in
    let t = c.is_holding in
    let i : is_holding p g ≡ true = sym t.ensures ∙ c.if-not-is_holding.false in
    let x = c.resume-x in
    let r = x.result in
    let h = x.ensures in
    let some : g.tried < r.total = (let l = c.if-x-g.false in omega arith) in
    let lt : length r.tails ≡ 8 = search (rules, x.type_inv) in
    let lh : length r.heads ≡ 8 = search (rules, x.type_inv) in (
      after_tree p b.plannable b.few c.args.budget c.requires.1 g r h lt lh i some,
      after_small p b.plannable b.few c.args.budget c.requires.1 g r h lt lh i some,
      c.requires.2,
      c.requires.3,
    )
