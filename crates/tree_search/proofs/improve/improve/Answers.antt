-- None of the trees that are skipped costs less than what is known, so that what is found is the best of all.
use native.Mathlib.Omega.{arith}
use Rattle.plan.specs.Records.{plan_value}
use Rattle.tree_search.specs.Laws.Resumed.{tried_grows}
use Rattle.tree_search.specs.Laws.Improved.{improves}
use Rattle.tree_search.proofs.improve.improve.Goals as goal

pub overflow_sub-total : goal.overflow_sub-total
overflow_sub-total c =
    let a = c.total_of-first.ensures.0 in
    let b = c.total_of-total.ensures.0 in
    let g = tried_grows (plan_value c.args.p.now.good.now.plan) c.args.before c.args.tries c.requires.1.within in
    omega arith

pub returns : goal.returns
returns c =
    let b = c.args.p.now.prepared.base.known in
    let p = plan_value c.args.p.now.good.now.plan in
    let can = c.requires.1 in
    let e = c.total_of-first.ensures.0 in
    let g = c.total_of-total.ensures in
    let t = g.0 in
    let grows = tried_grows p c.args.before c.args.tries can.within in
    let x = rw (c.from.ensures, c.from-2.ensures) at c.explored-found.ensures in
    let f = improves p b.plannable b.few c.args.cost c.args.before c.args.tries can _ _ _ e (omega arith) _ x in
    record { tried = g.0; whole = g.1; cheaper = f.0; none_cheaper = f.1 }
