-- The invariant: the ranks before the vth are those of their vertices, and `all` is that of v.
use Rattle.std.proofs.Common.{◌≡◌, refl, sym, ap, ◌∙◌, rules, eqb}
use mathlib.Core.List.{List}
use mathlib.Core.Bool.{Bool, cond}
use Prim.Native.Nat.{ℕ, ◌+◌, ◌≤◌}
use native.Mathlib.Omega.{arith}
use Rattle.postman.specs.Lists.{select, below, up_from}
use Rattle.postman.specs.Laws.Tests.{cond_ind}
use Rattle.components.specs.Labels.{is_root, roots_below}
use Rattle.plan.specs.Laws.Prefix.{prefix_none, prefix_more}
use Rattle.postman_laws.specs.Laws.Selection.{select_more}
use Rattle.components.proofs.components.ranks_of.Goals.{then-required-v, else-required-v}
use Rattle.components.proofs.components.ranks_of.Goals as goal

one_more : (r : List Bool) (l : List ℕ) (v n : ℕ) → n ≡ roots_below r l v → n + cond (is_root r l v) 1 0 ≡ roots_below r l (v + 1)
unfolding roots_below
one_more r l v n e = ap (λ x. x + cond (is_root r l v) 1 0) e ∙ sym (select_more (is_root r l) v)

at_most_one : (b : Bool) → cond b 1 0 ≤ 1
at_most_one b = cond_ind b 1 0 (λ x. x ≤ 1) (λ t. omega arith) (λ t. omega arith)

no_roots : (r : List Bool) (l : List ℕ) → 0 ≡ roots_below r l 0
unfolding roots_below select below up_from
no_roots r l = refl

pub loop-v-init : goal.loop-v-init
loop-v-init c = (omega arith, no_roots _ _, prefix_none 64 0 _ 0)

pub loop-v-preserved : goal.loop-v-preserved
loop-v-preserved c =
    let v = c.loop-v.v in
    let o : c.from-in-loop-v.result ≡ cond c.if-required-v.from 1 0 = search rules in
    let t : c.if-required-v.from ≡ is_root c.args.required c.args.labels v = elim c.if-required-v.branch [
      | then-required-v w ↦ rw w.if-required-v.true (w.from-is ∙ ap (λ x. eqb x v) w.from.ensures)
      | else-required-v w ↦ rw w.if-required-v.false (w.from-is ∙ w.if-required-v.false)
    ] in
    let e : c.from-in-loop-v.result ≡ cond (is_root c.args.required c.args.labels v) 1 0 = rw t at o in
    let b = at_most_one (is_root c.args.required c.args.labels c.loop-v.v) in
    let m = one_more c.args.required c.args.labels c.loop-v.v c.loop-v.all c.loop-v.invariant.1 in
    (omega arith, omega arith, prefix_more 64 0 _ c.loop-v.rank-items c.loop-v.v _ c.loop-v.invariant.2 c.loop-v-test.true c.loop-v.invariant.1)
