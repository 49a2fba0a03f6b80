-- A turn takes no more than is left of T.
use native.Mathlib.Omega.{arith}
use Rattle.plan.specs.Records.{plan_value}
use Rattle.tree_search.specs.Laws.Resumed.{some_tried}
use Rattle.tree_search.proofs.trees.resume.Goals as goal

pub tried_on-cost-requires : goal.tried_on-cost-requires
tried_on-cost-requires c =
    let p = plan_value c.args.p.now.good.now.plan in
    let t = c.total_of-total.ensures.0 in
    let o = some_tried p c.args.p.now.prepared.base.known.plannable c.args.budget c.requires.0 in
    let e = c.turn_of-more.ensures in
    let g = c.requires.1 in
    record {
      begun = c.begin-s.ensures;
      within_limits = (omega arith, omega arith, omega arith);
    }
