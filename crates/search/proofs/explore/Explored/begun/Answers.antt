-- The branch's own potentials price it, and the least of the components behind a bounds it.
use mathlib.Core.Path.{refl}
use Prim.Native.Nat.{◌+◌}
use native.Mathlib.Omega.{arith}
use Rattle.branches.specs.Laws.Root.{can_rest}
use Rattle.branches.specs.Laws.Below.{fixed_small, balancing_small}
use Rattle.search.specs.Laws.Explore.{own_prices, bounded_prices}
use Rattle.search.proofs.explore.Explored.begun.Goals as goal

pub bounded-requires : goal.bounded-requires
bounded-requires c =
    let b = c.args.b.now in
    let h = c.requires.0.2 in
    let is = c.requires.0.3 in
    let q = own_prices h b is (record { potentials = b.potentials; value = b.balancing; bound = 0 }) refl refl in
    let f = fixed_small h b is in
    let g = balancing_small h b is in
    (can_rest h b.potentials q.potentials (b.a + 1) (omega arith) (let m = c.requires.1 in omega arith), omega arith)

pub returns : goal.returns
returns c =
    let b = c.args.b.now in
    (refl, λ p f h is. bounded_prices h b is _ _ (own_prices h b is (record { potentials = b.potentials; value = b.balancing; bound = 0 }) refl refl) c.bounded.ensures)
