-- What is left of the way, from what the loop holds, is the whole way; the amounts grow by at most one at each turn. Assumes nothing.
use Rattle.std.proofs.Common.{refl, sym, ap, ◌∙◌, arith, ◌≡◌, ◌+◌, ◌*◌, ◌-◌, ◌≤◌, ℕ, List, get_or, ltb}
use Rattle.std.proofs.Math.Path.{subst⁻¹}
use Rattle.postman.specs.Laws.Tests.{cond_ind}
use Rattle.postman.specs.Steps.{amount}
use Rattle.residual_search.specs.Bounds.{AtMost}
use Rattle.balance.specs.Invariant.{limit}
use Rattle.residual_search.specs.Step.{augment, place, moved}
use Rattle.residual_search.specs.Laws.Turns.{augment_end, augment_more, at_most_more}
use Rattle.balance.proofs.augment.augment_along.Goals as goal

pub returns-then-v-t : goal.returns-then-v-t
returns-then-v-t c =
    sym (augment_end _ _ _ _ _ c.if-v-t.true) ∙ c.loop.invariant.left

pub loop-preserved : goal.loop-preserved
loop-preserved c =
    let v = c.loop in
    let i = c.from-in-loop in
    let w = c.from-in-loop-2 in
    let back = v.invariant.low (w.result * 64 + i.result) in
    let ahead = v.invariant.low (i.result * 64 + w.result) in
    record {
      in_range = omega (arith, c.requires.2 c.from.result);
      low = subst⁻¹ (AtMost (limit + (v.counter + 1))) c.push.ensures
          (at_most_more (limit + v.counter) (limit + (v.counter + 1)) v.g (place (amount v.g w.result i.result) i.result w.result) (moved (amount v.g w.result i.result) (amount v.g i.result w.result)) v.invariant.low (omega arith)
          (cond_ind (ltb 0 (amount v.g w.result i.result)) _ _ (λ n. n ≤ limit + (v.counter + 1)) (λ y. omega arith) (λ y. omega arith)));
      left = ap (λ (g : List ℕ). augment c.args.next.now c.args.t (64 - (v.counter + 1)) g (get_or c.args.next.now c.from.result 0)) c.push.ensures
          ∙ augment_more c.args.next.now c.args.t v.g v.counter v.v
          v.invariant.left
          c.loop-test.true
          c.if-v-t.false
          i.ensures
          (ap (λ n. get_or c.args.next.now n 0) (c.from.ensures ∙ sym i.ensures))
          w.ensures
          refl
          refl;
    }

pub returns : goal.returns
unfolding augment
returns c =
    let z : 64 - c.loop.counter ≡ 0 = omega arith in
    sym (ap (λ n. augment c.args.next.now c.args.t n c.loop.g c.loop.v) z) ∙ c.loop.invariant.left
