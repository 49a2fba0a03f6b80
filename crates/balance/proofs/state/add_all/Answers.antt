-- The arcs left to add, from the state that the loop holds, lead to what all of them lead to. Assumes nothing.
use Rattle.std.proofs.Common.{rules, sym, ap, ap₂, ◌∙◌, arith, ◌≡◌, ◌+◌, ◌++◌, ◌∷◌, [], length, get_or, drop, length-append}
use Rattle.std.proofs.Math.Path.{subst⁻¹}
use Rattle.std.proofs.lemmas.Slice.Zip.{zip_turn, zip_end}
use Rattle.postman.specs.Steps.{cell}
use Rattle.residual_search.specs.Step.{state_in, add, add_all, arcs_of}
use Rattle.residual_search.specs.Laws.Turns.{all_more, all_end}
use Rattle.balance.specs.Invariant.{Certified}
use Rattle.balance.specs.Laws.Step.{add_certified}
use Rattle.balance.proofs.state.add_all.Goals as goal

pub loop-tail-preserved : goal.loop-tail-preserved
loop-tail-preserved c =
    let a = c.args in
    let v = c.loop-tail in
    let d = cell a.d.now in
    let vs = a.vs.now in
    let k = length v.yielded in
    let turn = zip_turn a.tails.now a.heads.now v.yielded c.into_iter-tail-iterator.result v.tail-iterator c.next.new.self c.next.result (search rules) (search rules) v.yielded_by _ c.in-Some.is c.next.ensures.steps in
    let b = state_in v.amounts v.potentials v.cost v.count in
    let t = get_or a.tails.now k 0 in
    let h = get_or a.heads.now k 0 in
    let e = c.add_in-more.ensures ∙ ap₂ (λ t h. add d vs b t h) (turn.2 0) (turn.3 0) in
    let n : length (v.yielded ++ (c.in-Some.field-0-0, c.in-Some.field-0-1) ∷ []) ≡ k + 1 = length-append v.yielded _ in
    let s = state_in c.add_in-more.new.f c.add_in-more.result.potentials c.add_in-more.result.cost (v.count + 1) in
    record {
      certified = subst⁻¹ (Certified d vs) e
          (add_certified d vs c.requires.0 b v.invariant.certified (omega (arith, turn.0, c.requires.3)) t h (c.requires.4 k turn.0) (c.requires.5 k turn.1));
      counted = omega arith;
      left = ap (λ n. add_all d vs s (arcs_of (drop n a.tails.now) (drop n a.heads.now))) n
          ∙ all_more d vs k a.tails.now a.heads.now b v.invariant.left turn.0 c.requires.2 e;
    }

pub returns : goal.returns
returns c =
    let a = c.args in
    let v = c.loop-tail in
    let ended = zip_end a.tails.now a.heads.now v.yielded c.into_iter-tail-iterator.result v.tail-iterator c.next.new.self c.next.result (search rules) (search rules) v.yielded_by c.in-None.is c.next.ensures.steps in
    let e = all_end (cell a.d.now) a.vs.now (length v.yielded) a.tails.now a.heads.now (state_in v.amounts v.potentials v.cost v.count) (omega arith) in
    (sym e ∙ v.invariant.left, v.invariant.certified, omega arith)
