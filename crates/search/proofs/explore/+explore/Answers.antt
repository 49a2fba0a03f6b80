-- After each turn the trees behind the candidates so far were gone through, and the prices are the branch's. The call is for a component fewer.
use mathlib.Core.Path.{◌≡◌, sym, ◌∙◌, subst, subst⁻¹}
use mathlib.Core.Logic.{◌≢◌}
use Prim.Native.Nat.{ℕ, ◌+◌, ◌-◌, ◌<◌}
use native.Mathlib.Decide.{ℕ_discrete}
use native.Mathlib.Omega.{arith}
use lib.ListN.{length, get_or, take}
use Rattle.postman.specs.Plan.{Plan}
use Rattle.postman.specs.Arborescence.{candidates}
use Rattle.small_counts.specs.Matrix.{AreCounts}
use Rattle.search.specs.declared.explore.Explored.{Explored}
use Rattle.branches.specs.declared.progress.Progress.{Progress}
use Rattle.tree_bounds.specs.Fields.{IsPrepared}
use Rattle.search.specs.StepContracts.{IsExplored, IsBranchPriced}
use Rattle.branches.specs.Branches.{IsBranch}
use Rattle.branches.specs.Holding.{IsShort}
use Rattle.tree_bounds.specs.Laws.Prepared.{places}
use Rattle.search.specs.Laws.Explore.{branches, explored_start, explored_end, explored_short, bound_small, can_look, can_reduce_here, can_go, next_branch, next_prices, next_explored, next_passed}
use Rattle.search.proofs.explore.+explore.Goals as goal
use Rattle.search.proofs.explore.+explore.Goals.{then-goes_into, else-goes_into}

-- two components are left
two_left : (a k : ℕ) → a < k → a + 1 ≢ k → a + 1 < k
two_left a k l o = elim (ℕ_discrete (a + 1) k) [ yes e ↦ absurd (o e) | no d ↦ omega arith ]

pub loop-x-init : goal.loop-x-init
loop-x-init t c =
    let b = c.args.b.now in
    let h = c.requires.0.1 in
    let first = c.begun-e in (
      omega arith,
      h.layout.ascending b.a c.requires.2,
      subst⁻¹ IsShort first.ensures.0 c.requires.1,
      λ p h br. (explored_start h b br (get_or c.args.at.now.candidates.now.start b.a 0 - get_or c.args.at.now.candidates.now.start b.a 0) (omega arith) first.result.progress, first.ensures.1 p _ h br),
    )

pub candidate_at-c-requires : goal.candidate_at-c-requires
candidate_at-c-requires t c =
    let v = c.loop-x in
    can_look c.requires.0.1 c.args.b.now c.requires.0.2 c.requires.2 v.x v.invariant.0 c.loop-x-test.true

pub goes_into-requires : goal.goes_into-requires
goes_into-requires t c =
    let b = c.args.b.now in
    let h = c.requires.0.1 in
    let br = c.requires.0.2 in
    let v = c.loop-x in
    let at = c.candidate_at-c in
    let q = (v.invariant.3 _ h br).1 in
    (can_reduce_here h b br c.requires.2 v.x v.invariant.0 c.loop-x-test.true at.result at.ensures v.e.pricing.potentials q.prices.potentials, omega (arith, bound_small h b br v.e.pricing q))

pub below-next-requires : goal.below-next-requires
below-next-requires t c =
    let b = c.args.b.now in
    let v = c.loop-x in
    let at = c.candidate_at-c in
    (can_go c.requires.0.1 b c.requires.0.2 c.requires.2 v.x v.invariant.0 c.loop-x-test.true at.result at.ensures, two_left b.a c.args.at.now.k c.requires.2 c.if-b-at.false)

pub explore-under-requires : goal.explore-under-requires
explore-under-requires t c =
    let b = c.args.b.now in
    let h = c.requires.0.1 in
    let br = c.requires.0.2 in
    let v = c.loop-x in
    let at = c.candidate_at-c in
    let down = c.below-next in
    let m = c.decreases in
    let two = two_left b.a c.args.at.now.k c.requires.2 c.if-b-at.false in
    let e = down.ensures.0.next in
    let yes = sym c.goes_into.ensures ∙ c.if-goes_into.true in (
      omega arith,
      (
        (
          c.requires.0.0,
          h,
          next_branch h b br c.requires.2 v.x v.invariant.0 c.loop-x-test.true at.result at.ensures v.e.progress _ yes _ down.result down.ensures.0
              (λ l. subst (λ n. AreCounts down.result.entries down.result.a n down.result.counts) h.count down.ensures.1),
        ),
        v.invariant.2,
        omega arith,
      ),
    )

pub backed_up-e-requires : goal.backed_up-e-requires
backed_up-e-requires t c =
    let b = c.args.b.now in
    let h = c.requires.0.1 in
    let br = c.requires.0.2 in
    let v = c.loop-x in
    let t = c.loop-x-test.true in
    let at = c.candidate_at-c in
    let down = c.below-next in
    let yes = sym c.goes_into.ensures ∙ c.if-goes_into.true in
    let q = (v.invariant.3 _ h br).1 in
    let ends = can_reduce_here h b br c.requires.2 v.x v.invariant.0 t at.result at.ensures v.e.pricing.potentials q.prices.potentials in
    let next = next_branch h b br c.requires.2 v.x v.invariant.0 t at.result at.ensures v.e.progress _ yes _ down.result down.ensures.0
    (λ l. subst (λ n. AreCounts down.result.entries down.result.a n down.result.counts) h.count down.ensures.1) in
    let new = next_prices h b br c.requires.2 v.x v.invariant.0 t at.result at.ensures v.e.progress _ yes _ down.result down.ensures.0 c.explore-under.result.pricing (c.explore-under.ensures _ h next).1 in
    ((c.requires.0.0, c.args.f.now, h, br, q.prices, new), c.requires.2, ends.tail, ends.head)

pub loop-x-preserved : goal.loop-x-preserved
loop-x-preserved t c =
    let b = c.args.b.now in
    let less = c.requires.2 in
    let v = c.loop-x in
    let t = c.loop-x-test.true in
    let at = c.candidate_at-c in
    let start = c.args.at.now.candidates.now.start in
    let first = c.begun-e.result.progress in
    let both : (p : Plan) → (h : IsPrepared p c.args.at.now) → (br : IsBranch p c.args.at.now.d.now c.args.f.now b)
    → IsExplored p (branches h b br (take (v.x - get_or start b.a 0 + 1) (candidates p b.a))) first c.if-goes_into.e.progress × IsBranchPriced p c.args.at.now.d.now b c.if-goes_into.e.pricing =
    (λ p h br.
    let i = v.invariant.3 p h br in
    elim c.if-goes_into.branch [
      | then-goes_into w ↦
          let yes = sym c.goes_into.ensures ∙ w.if-goes_into.true in
          let down = w.below-next in
          let under = w.explore-under in
          let up = w.backed_up-e in
          let next = next_branch h b br less v.x v.invariant.0 t at.result at.ensures v.e.progress _ yes _ down.result down.ensures.0
          (λ l. subst (λ n. AreCounts down.result.entries down.result.a n down.result.counts) h.count down.ensures.1) in
          let after = under.ensures p h next in
          let new = next_prices h b br less v.x v.invariant.0 t at.result at.ensures v.e.progress _ yes _ down.result down.ensures.0 under.result.pricing after.1 in (
            subst⁻¹ (λ (e : Explored). IsExplored p (branches h b br (take (v.x - get_or start b.a 0 + 1) (candidates p b.a))) first e.progress) w.e-is
                (subst⁻¹ (IsExplored p (branches h b br (take (v.x - get_or start b.a 0 + 1) (candidates p b.a))) first) up.ensures.0
                (next_explored h b br less v.x v.invariant.0 t at.result at.ensures v.e.progress _ yes _ down.result down.ensures.0 first under.result.progress i.0 after.0)),
            subst⁻¹ (λ (e : Explored). IsBranchPriced p c.args.at.now.d.now b e.pricing) w.e-is (up.ensures.1 p _ h br i.1.prices new),
          )
      | else-goes_into w ↦ (
        subst⁻¹ (λ (e : Explored). IsExplored p (branches h b br (take (v.x - get_or start b.a 0 + 1) (candidates p b.a))) first e.progress) w.e-is
            (next_passed h b br less v.x v.invariant.0 t at.result at.ensures first v.e.progress w.pass_over.new.self.progress v.invariant.2 i.0 w.pass_over.ensures.progress v.e.pricing i.1 (sym c.goes_into.ensures ∙ w.if-goes_into.false)),
        subst⁻¹ (λ (e : Explored). IsBranchPriced p c.args.at.now.d.now b e.pricing) w.e-is (subst⁻¹ (IsBranchPriced p c.args.at.now.d.now b) w.pass_over.ensures.pricing i.1),
      )
    ]) in
    let e : v.x - get_or start b.a 0 + 1 ≡ v.x + 1 - get_or start b.a 0 = omega (arith, v.invariant.0) in (
      omega (arith, v.invariant.0),
      omega arith,
      explored_short c.requires.0.0 _ first c.if-goes_into.e.progress (both c.requires.0.0 c.requires.0.1 c.requires.0.2).0 (subst⁻¹ IsShort c.begun-e.ensures.0 c.requires.1),
      λ p h br. (subst (λ n. IsExplored p (branches h b br (take n (candidates p b.a))) first c.if-goes_into.e.progress) e (both p h br).0, (both p h br).1),
    )

pub returns : goal.returns
returns t c =
    let b = c.args.b.now in
    let v = c.loop-x in
    let start = c.args.at.now.candidates.now.start in
    λ p h br.
    let i = v.invariant.3 p h br in
    let e : v.x - get_or start b.a 0 ≡ length (candidates p b.a) = (let q = places h b.a br.one c.requires.2 in omega (arith, v.invariant.0, v.invariant.1, c.loop-x-test.false)) in
    (explored_end h b br c.requires.2 (v.x - get_or start b.a 0) e c.args.g v.e.progress (subst (λ (g : Progress). IsExplored p (branches h b br (take (v.x - get_or start b.a 0) (candidates p b.a))) g v.e.progress) c.begun-e.ensures.0 i.0), i.1.prices)
