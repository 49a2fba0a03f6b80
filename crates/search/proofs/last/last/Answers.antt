-- After each turn the trees of the candidates so far were gone through, and the potentials certify the branch's amounts.
use mathlib.Core.Path.{◌≡◌, refl, sym, ap, ◌∙◌, subst, subst⁻¹}
use mathlib.Core.List.{List}
use Prim.Native.Nat.{ℕ, ◌+◌, ◌-◌, ◌≤◌}
use native.Mathlib.Omega.{arith}
use lib.ListN.{length, get_or, take}
use Rattle.postman.specs.Plan.{Plan}
use Rattle.postman.specs.Arborescence.{candidates}
use Rattle.tree_bounds.specs.Fields.{IsPreparedFor}
use Rattle.search.specs.StepContracts.{IsExplored}
use Rattle.branches.specs.Branches.{IsBranch, repriced_branch}
use Rattle.branches.specs.Holding.{is_entered}
use Rattle.tree_bounds.specs.Bound.{reduced_by}
use Rattle.tree_bounds.specs.declared.pricing.Pricing.{Pricing}
use Rattle.search.specs.declared.explore.Explored.{Explored}
use Rattle.tree_bounds.specs.Laws.Prepared.{places}
use Rattle.branches.specs.Laws.Below.{fixed_small, balancing_small}
use Rattle.search.specs.Laws.Explore.{branches, explored_start, explored_end, explored_short, can_look, can_reduce_here}
use Rattle.search.specs.Laws.Last.{last_prices, can_complete, last_explored, last_kept, last_passed}
use borrow.Author.Rules.{rules}
use Rattle.search.proofs.last.last.Goals as goal
use Rattle.search.proofs.last.last.Goals.{then-goes_into, else-goes_into}

-- The branch costs little.
pub overflow_add-e : goal.overflow_add-e
overflow_add-e c =
    let b = c.args.b.now in
    let f = fixed_small c.requires.0.1 b c.requires.0.2 in
    let g = balancing_small c.requires.0.1 b c.requires.0.2 in
    let l : b.fixed + b.balancing ≤ 3000000000000 = omega arith in
    search rules

pub loop-x-init : goal.loop-x-init
loop-x-init c =
    let b = c.args.b.now in
    let h = c.requires.0.1 in
    let first = get_or c.args.at.now.candidates.now.start b.a 0 in (
      omega arith,
      h.layout.ascending b.a (omega arith),
      c.requires.1,
      refl,
      refl,
      λ p h br. (br, explored_start h b br (first - first) (omega arith) c.args.g),
    )

pub candidate_at-c-requires : goal.candidate_at-c-requires
candidate_at-c-requires c =
    let b = c.args.b.now in
    let h = c.requires.0.1 in
    let v = c.loop-x in
    let i = v.invariant.5 _ h c.requires.0.2 in
    can_look h (repriced_branch b v.e.pricing.potentials) i.0 (omega arith) v.x v.invariant.0 c.loop-x-test.true

pub goes_into-requires : goal.goes_into-requires
goes_into-requires c =
    let b = c.args.b.now in
    let h = c.requires.0.1 in
    let v = c.loop-x in
    let w = v.e.pricing.potentials in
    let i = v.invariant.5 _ h c.requires.0.2 in
    let q = last_prices b h w i.0 (record { potentials = w; value = b.balancing; bound = 0 }) refl refl in
    let f = fixed_small h b c.requires.0.2 in
    let g = balancing_small h b c.requires.0.2 in
    (can_reduce_here h (repriced_branch b w) i.0 (omega arith) v.x v.invariant.0 c.loop-x-test.true c.candidate_at-c.result c.candidate_at-c.ensures w q.potentials, omega (arith, v.invariant.4, f, g))

pub complete-t-requires : goal.complete-t-requires
complete-t-requires c =
    let b = c.args.b.now in
    let h = c.requires.0.1 in
    let v = c.loop-x in
    let i = v.invariant.5 _ h c.requires.0.2 in
    can_complete b h v.e.pricing.potentials i.0 v.x v.invariant.0 c.loop-x-test.true c.candidate_at-c.result c.candidate_at-c.ensures

pub loop-x-preserved : goal.loop-x-preserved
loop-x-preserved c =
    let b = c.args.b.now in
    let v = c.loop-x in
    let t = c.loop-x-test.true in
    let at = c.candidate_at-c in
    let goes = c.goes_into in
    let table = c.args.at.now.d.now in
    let f = c.args.f.now in
    let pot = v.e.pricing.potentials in
    let first = get_or c.args.at.now.candidates.now.start b.a 0 in
    let known = ap (λ x. is_entered v.e.progress at.result.trees (x + reduced_by table pot at.result.tail at.result.head)) (sym v.invariant.4) in
    let both : (p : Plan) → (h : IsPreparedFor p c.args.at.now (b.a + 1)) → (br : IsBranch p table f b)
    → IsBranch p table f (repriced_branch b c.if-goes_into.e.pricing.potentials) × IsExplored p (branches h b br (take (v.x - first + 1) (candidates p b.a))) c.args.g c.if-goes_into.e.progress =
    (λ p h br.
    let i = v.invariant.5 p h br in
    let more = branches h b br (take (v.x - first + 1) (candidates p b.a)) in
    elim c.if-goes_into.branch [
      | then-goes_into w ↦
          let yes = sym goes.ensures ∙ w.if-goes_into.true in
          let to : w.take.new.self ≡ c.if-goes_into.e = sym w.e-is in (
            subst (λ (u : Explored). IsBranch p table f (repriced_branch b u.pricing.potentials)) to
                (subst⁻¹ (λ (u : List ℕ). IsBranch p table f (repriced_branch b u)) w.take.ensures.potentials
                (last_kept b h pot i.0 v.x v.invariant.0 t at.result at.ensures v.e.progress _ yes w.complete-t.result w.complete-t.ensures)),
            subst (λ (u : Explored). IsExplored p more c.args.g u.progress) to
                (subst⁻¹ (IsExplored p more c.args.g) w.take.ensures.progress
                (last_explored b h pot i.0 v.x v.invariant.0 t at.result at.ensures v.e.progress _ yes w.complete-t.result w.complete-t.ensures c.args.g i.1)),
          )
      | else-goes_into w ↦
          let to : w.pass_over.new.self ≡ c.if-goes_into.e = sym w.e-is in (
            subst (λ (u : Explored). IsBranch p table f (repriced_branch b u.pricing.potentials)) to
                (subst⁻¹ (λ (u : Pricing). IsBranch p table f (repriced_branch b u.potentials)) w.pass_over.ensures.pricing i.0),
            subst (λ (u : Explored). IsExplored p more c.args.g u.progress) to
                (last_passed b h pot i.0 v.x v.invariant.0 t at.result at.ensures c.args.g v.e.progress w.pass_over.new.self.progress v.invariant.2 i.1 w.pass_over.ensures.progress (known ∙ sym goes.ensures ∙ w.if-goes_into.false)),
          )
    ]) in
    let value : c.if-goes_into.e.pricing.value ≡ b.balancing =
    elim c.if-goes_into.branch [
      | then-goes_into w ↦ ap (λ (u : Explored). u.pricing.value) w.e-is ∙ w.take.ensures.value ∙ v.invariant.3
      | else-goes_into w ↦ ap (λ (u : Explored). u.pricing.value) w.e-is ∙ ap (λ (u : Pricing). u.value) w.pass_over.ensures.pricing ∙ v.invariant.3
    ] in
    let bound : c.if-goes_into.e.pricing.bound ≡ b.fixed + b.balancing =
    elim c.if-goes_into.branch [
      | then-goes_into w ↦ ap (λ (u : Explored). u.pricing.bound) w.e-is ∙ w.take.ensures.bound ∙ v.invariant.4
      | else-goes_into w ↦ ap (λ (u : Explored). u.pricing.bound) w.e-is ∙ ap (λ (u : Pricing). u.bound) w.pass_over.ensures.pricing ∙ v.invariant.4
    ] in
    let e : v.x - first + 1 ≡ v.x + 1 - first = omega (arith, v.invariant.0) in (
      omega (arith, v.invariant.0),
      omega arith,
      explored_short c.requires.0.0 _ c.args.g c.if-goes_into.e.progress (both c.requires.0.0 c.requires.0.1 c.requires.0.2).1 c.requires.1,
      value,
      bound,
      λ p h br. ((both p h br).0, subst (λ n. IsExplored p (branches h b br (take n (candidates p b.a))) c.args.g c.if-goes_into.e.progress) e (both p h br).1),
    )

pub returns : goal.returns
returns c =
    let b = c.args.b.now in
    let v = c.loop-x in
    let start = c.args.at.now.candidates.now.start in
    λ p h br.
    let i = v.invariant.5 p h br in
    let e : v.x - get_or start b.a 0 ≡ length (candidates p b.a) = (let q = places h b.a br.one (omega arith) in omega (arith, v.invariant.0, v.invariant.1, c.loop-x-test.false)) in
    (explored_end h b br (omega arith) (v.x - get_or start b.a 0) e c.args.g v.e.progress i.1, last_prices b h v.e.pricing.potentials i.0 _ refl v.invariant.3)
