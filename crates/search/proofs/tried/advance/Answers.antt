-- A branch with no component left is one tree; any other is explored.
use Prim.Native.Nat.{◌+◌, ◌≤◌}
use native.Mathlib.Omega.{arith}
use Rattle.branches.specs.Laws.Below.{fixed_small, balancing_small}
use Rattle.search.specs.Laws.Explore.{one_tree}
use borrow.Author.Rules.{rules}
use Rattle.search.proofs.tried.advance.Goals as goal

pub overflow_add-b : goal.overflow_add-b
overflow_add-b c =
    let b = c.args.b.now in
    let f = fixed_small c.requires.0.1 b c.requires.0.2 in
    let g = balancing_small c.requires.0.1 b c.requires.0.2 in
    let l : b.fixed + b.balancing ≤ 3000000000000 = omega arith in
    search rules

pub returns-then-b-at : goal.returns-then-b-at
returns-then-b-at c =
    λ p h is. one_tree h c.args.b.now is c.if-b-at.true c.args.g c.completed.result c.completed.ensures
