-- The invariant: the rows before the kth hold the arcs, and the others are zeros.
use mathlib.Core.Path.{◌≡◌, subst}
use native.Mathlib.Omega.{arith}
use Rattle.plan.specs.Laws.Rows.{FilledTo, filled_none, filled_all}
use Rattle.plan.proofs.rows.rows_of.Goals as goal

pub loop-k-init : goal.loop-k-init
loop-k-init c = filled_none c.args.plan

pub returns : goal.returns
returns c =
    let p = c.args.plan in
    let e : c.loop-k.k ≡ p.m = omega arith in
    filled_all p c.loop-k.rows (subst (FilledTo p c.loop-k.rows) e c.loop-k.invariant)
