-- The components from q on are summed.
use Rattle.std.proofs.Common.{◌≡◌, ◌+◌, ◌-◌, subst, arith}
use Rattle.tree_bounds.specs.Bound.{Low}
use Rattle.tree_bounds.specs.Laws.Rest.{rest_more}
use Rattle.tree_bounds.proofs.field.Field.rest.Goals as goal

pub least-sum-requires-clause-reducible : goal.least-sum-requires-clause-reducible
least-sum-requires-clause-reducible c =
    let t = c.loop-q-test.true in
    let i = c.loop-q.invariant.1 in
    c.requires.each (c.loop-q.q - 1) (omega arith) (omega arith)

pub loop-q-preserved : goal.loop-q-preserved
loop-q-preserved c =
    let t = c.loop-q-test.true in
    let i = c.loop-q.invariant in
    let q = c.loop-q.q - 1 in
    let at = c.args.self.now in
    let pot = c.args.p.now in
    let e : c.loop-q.q ≡ q + 1 = omega arith in (
      omega arith,
      omega (arith, i.1),
      omega (arith, i.2, c.least-sum.ensures.most),
      λ x vs source h. rest_more h pot q c.loop-q.sum c.least-sum.result (omega (arith, c.requires.one)) (omega (arith, i.1))
          (subst (Low x at.d.now pot c.loop-q.sum) e (i.3 x vs source h)) c.least-sum.ensures,
    )

pub returns-clause-low : goal.returns-clause-low
returns-clause-low c =
    let at = c.args.self.now in
    let e : c.loop-q.q ≡ c.args.a = omega (arith, c.loop-q.invariant.0, c.loop-q-test.false) in
    λ x vs source h. subst (Low x at.d.now c.args.p.now c.loop-q.sum) e (c.loop-q.invariant.3 x vs source h)
