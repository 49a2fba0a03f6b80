-- No leg before e is unused and out of v. A leg that passes is then the first; at the end there is none.
use lib.ListN.{length}
use native.Mathlib.Omega.{arith}
use borrow.Author.Count.{below_more}
use lib.Dec.{T}
use mathlib.Core.Path.{sym, ◌∙◌, subst⁻¹}
use mathlib.Core.Bool.{not}
use Rattle.hierholzer.specs.Held.{is_unused, first_unused}
use Rattle.hierholzer.specs.Laws.Search.{first_none, first_at}
use Rattle.hierholzer.proofs.hierholzer.next_leg.Goals as goal

pub returns-then-is_unused : goal.returns-then-is_unused
unfolding first_unused is_unused
returns-then-is_unused c =
    let a = c.args in
    let l = c.loop-e in
    sym (first_at (is_unused a.tails.now a.used.now a.v) (length a.tails.now) l.e c.loop-e-test.true
    (subst⁻¹ T (sym c.is_unused.ensures ∙ c.if-is_unused.true) tt) l.invariant)

pub loop-e-preserved : goal.loop-e-preserved
unfolding is_unused
loop-e-preserved c = below_more _ _ c.loop-e.invariant (subst⁻¹ (λ b. T (not b)) (sym c.is_unused.ensures ∙ c.if-is_unused.false) tt)

pub returns : goal.returns
unfolding first_unused
returns c =
    let a = c.args in
    let l = c.loop-e in
    sym (first_none (is_unused a.tails.now a.used.now a.v) (length a.tails.now) (λ k h. l.invariant k (omega arith)))
