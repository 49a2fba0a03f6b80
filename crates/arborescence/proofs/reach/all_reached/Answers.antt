-- After so many turns r is what so many sweeps reach. A turn that ends the loop has found what k sweeps reach: all components, or a set that stays.
use Rattle.std.proofs.Common.{◌≡◌, refl, sym, ap, ◌∙◌, ◌-◌, add-one, arith}
use Rattle.arborescence.specs.Laws.Stop.{stop_full, stop_still}
use Rattle.arborescence.specs.Reach.{sweeps, reaches_all}
use Rattle.arborescence.proofs.reach.all_reached.Goals as goal

pub loop-init : goal.loop-init
unfolding sweeps
loop-init c = (ap (λ s. s - 1) c.single-all.ensures, refl)

pub returns-then-s-all : goal.returns-then-s-all
returns-then-s-all c = let v = c.loop in
    sym (stop_full _ _ v.counter _ _ c.requires.0 c.loop-test.true v.invariant.1 c.swept-s.ensures (c.if-s-all.true ∙ v.invariant.0))

pub returns-then-s-r : goal.returns-then-s-r
returns-then-s-r c = let v = c.loop in
    sym (stop_still _ _ v.counter _ _ c.requires.0 c.loop-test.true v.invariant.1 c.swept-s.ensures c.if-s-r.true (λ e. c.if-s-all.false (e ∙ sym v.invariant.0)))

pub loop-preserved : goal.loop-preserved
unfolding sweeps
loop-preserved c = let v = c.loop in
    (v.invariant.0, c.swept-s.ensures ∙ rw (v.invariant.1, add-one))

pub returns : goal.returns
unfolding reaches_all
returns c = let v = c.loop in let e : v.counter ≡ c.args.k = omega arith in rw (v.invariant.0, v.invariant.1, e)
