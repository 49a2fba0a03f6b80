-- By the tests: a component that is in the set is not entered, nor one that is reached for less.
use mathlib.Core.Path.{sym, ◌∙◌}
use Rattle.integers.specs.Linear.{back64}
use Rattle.ascent_tree.specs.Laws.Grown.{enter_in, enter_less, enter_not}
use Rattle.ascent_tree.proofs.tree.enter.Goals as goal

pub returns-then-is_in : goal.returns-then-is_in
returns-then-is_in c =
    enter_in c.args.m.now c.args.s c.args.cost.now c.args.from.now c.args.q (sym c.is_in.ensures ∙ c.if-is_in.true)

pub returns-then-c-cost : goal.returns-then-c-cost
returns-then-c-cost c =
    let e = simp (back64, c.sum-arg-1.given, c.sum-arg-2-1.given) at c.sum-c.ensures in
    let h = simp (back64, c.sum-c.type_inv, c.t21-1.given) at c.if-c-cost.true in
    rw (back64 c.sum-c.result c.sum-c.type_inv)
    (enter_less c.args.m.now c.args.s c.args.cost.now c.args.from.now c.args.q (sym c.is_in.ensures ∙ c.if-is_in.false) c.entry-p.ensures.0
    c.place_with-there.ensures.0 e h)

pub returns-else-c-cost : goal.returns-else-c-cost
returns-else-c-cost c =
    let e = simp (back64, c.sum-arg-1.given, c.sum-arg-2-1.given) at c.sum-c.ensures in
    let h = simp (back64, c.sum-c.type_inv, c.t21-1.given) at c.if-c-cost.false in
    enter_not c.args.m.now c.args.s c.args.cost.now c.args.from.now c.args.q (sym c.is_in.ensures ∙ c.if-is_in.false) c.entry-p.ensures.0
    c.place_with-there.ensures.0 e h
