-- After the turns for components below j, r is the sweep of components 1 to j − 1.
use Rattle.std.proofs.Common.{◌≡◌, refl, sym, ap, ◌∙◌, ◌+◌, ◌-◌, ◌≤◌, get_or, arith}
use Rattle.arborescence.specs.Laws.Reach.{sweep_step}
use Rattle.arborescence.specs.Reach.{sweep}
use Rattle.arborescence.proofs.reach.swept.Goals as goal

pub loop-j-init : goal.loop-j-init
unfolding sweep
loop-j-init c = refl

pub loop-j-preserved : goal.loop-j-preserved
loop-j-preserved c = let v = c.loop-j in
    let l : 1 ≤ v.j = omega arith in
    let e : v.j + 1 - 1 ≡ v.j = omega arith in
    c.entered-r.ensures ∙ rw (e, v.invariant) (sym (sweep_step _ _ _ l))

pub returns : goal.returns
returns c = let e : c.loop-j.j ≡ c.args.k = omega arith in c.loop-j.invariant ∙ ap (λ n. sweep (λ q. get_or c.args.sets.now q 0) (n - 1) c.args.s) e
