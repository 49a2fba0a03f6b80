-- The count is cut, but above every budget, so that T and whole are the definition's.
use native.Mathlib.Omega.{arith}
use Prim.Native.Nat.{◌<◌}
use Rattle.std.specs.Prelude.{◌≡◌, leb}
use Rattle.std.proofs.Math.Path.{subst⁻¹}
use Rattle.postman.specs.PlanCall.{is_whole}
use Rattle.plan.specs.Records.{plan_value}
use Rattle.small_counts.specs.Matrix.{cap}
use Rattle.tree_search.specs.Laws.Resumed.{total_is, whole_is}
use Rattle.tree_search.proofs.begin.total_of.Goals as goal

pub returns : goal.returns
returns c =
    let p = plan_value c.args.good.now.plan in
    let small : c.args.budget < cap = (let l = c.ranges.budget in omega (arith, l.fits)) in
    (total_is p c.args.budget c.args.number small c.requires _ c.tried_count.ensures, subst⁻¹ (λ n. leb c.args.number n ≡ is_whole p c.args.budget) c.from.ensures (whole_is p c.args.budget c.args.number small c.requires))
