-- One tree where nothing is left, else the total.
use mathlib.Core.Path.{◌≡◌, subst⁻¹}
use Prim.Native.Nat.{◌-◌, min}
use native.Mathlib.Omega.{arith}
use Rattle.postman.specs.Lists.{up_from}
use Rattle.small_counts.specs.Recursion.{count_trees}
use Rattle.small_counts.specs.Matrix.{entries_of, cap}
use Rattle.small_counts.specs.Laws.ClosedForm.{none_left}
use Rattle.search.proofs.tried.number.Goals as goal

pub returns-then-k-eq1 : goal.returns-then-k-eq1
returns-then-k-eq1 c =
    let e = entries_of c.args.root.now.entries in
    subst⁻¹ (λ k. 1 ≡ min (count_trees e (up_from 1 (k - 1))) cap) c.if-k-eq1.true (let z = none_left e 1 in omega arith)
