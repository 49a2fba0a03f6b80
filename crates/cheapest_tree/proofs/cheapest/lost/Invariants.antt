-- From every component below q going back arrives.
use Rattle.std.proofs.Common.{◌≡◌, ◌<◌, ◌≤◌, ℕ, true, false, get_or}
use Rattle.postman.specs.Lists.{iterate}
use Rattle.cheapest_tree.specs.CostMatrix.{entry_of}
use Rattle.cheapest_tree.proofs.cheapest.lost.Given as goal

abbrev pub invariant-loop-q : goal.invariant-loop-q
invariant-loop-q l = (x : ℕ) → 1 ≤ x → x < l.q → get_or l.left x false ≡ true → iterate 8 (entry_of l.e) x ≡ 0
