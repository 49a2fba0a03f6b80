-- The prices of the branch below without the link are the branch's, and the least of the components behind a bounds it.
use mathlib.Core.Path.{refl}
use Prim.Native.Nat.{◌+◌}
use native.Mathlib.Omega.{arith}
use Rattle.branches.specs.Branches.{chosen_in, candidate_link}
use Rattle.branches.specs.Laws.Root.{can_rest}
use Rattle.branches.specs.Laws.Below.{fixed_small}
use Rattle.search.specs.Laws.Explore.{lifted_prices, bounded_prices}
use Rattle.search.proofs.explore.Explored.backed_up.Goals as goal

pub bounded-requires : goal.bounded-requires
bounded-requires c =
    let b = c.args.b.now in
    let h = c.requires.0.2 in
    let is = c.requires.0.3 in
    let q = lifted_prices c.requires.0.0 c.args.at.now.d.now (chosen_in b) b.a (candidate_link c.args.c) c.args.self.pricing c.args.under.pricing c.lifted-prices.result c.requires.0.4 c.requires.0.5 c.lifted-prices.ensures in
    let f = fixed_small h b is in
    (can_rest h c.lifted-prices.result.potentials q.potentials (b.a + 1) (omega arith) (let m = c.requires.1 in omega arith), omega (arith, q.small))

pub returns : goal.returns
returns c =
    let b = c.args.b.now in (
      refl,
      λ p f h is old new. bounded_prices h b is c.lifted-prices.result _
          (lifted_prices p c.args.at.now.d.now (chosen_in b) b.a (candidate_link c.args.c) c.args.self.pricing c.args.under.pricing c.lifted-prices.result old new c.lifted-prices.ensures) c.bounded.ensures,
    )
