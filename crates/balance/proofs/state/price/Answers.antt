-- The parts are what the callees ensure, and the laws of the step give what they ask. Assumes nothing.
use mathlib.Core.Path.{subst⁻¹}
use mathlib.Core.List.{List}
use Prim.Native.Nat.{ℕ, ◌+◌, ◌≤◌, ◌<◌}
use native.Mathlib.Omega.{arith}
use lib.ListN.{length, get_or}
use lib.Dec.{eqb}
use Rattle.postman.specs.Laws.Tests.{cond_ind}
use Rattle.postman.specs.Steps.{cell}
use Rattle.residual_search.specs.Step.{state_in}
use Rattle.balance.specs.Laws.Step.{vertices_small, levels_small, way_found, most_small, sum_small, price_made}
use Rattle.balance.proofs.state.price.Goals as goal

pub invariant_of-search_towards : goal.invariant_of-search_towards
invariant_of-search_towards c = record {
  low = levels_small (cell c.args.d.now) c.args.vs.now c.requires.0 (state_in c.args.f.now c.args.u.now c.args.cost c.args.count) c.requires.1 c.requires.2;
}

pub invariant_of-list : goal.invariant_of-list
invariant_of-list c = record { below_64 = vertices_small (cell c.args.d.now) c.args.vs.now c.requires.0 }

pub search_towards-found-requires : goal.search_towards-found-requires
search_towards-found-requires c = (
  c.requires.0.small c.args.tail c.requires.3,
  c.requires.0.small c.args.head c.requires.4,
  c.requires.4,
  subst⁻¹ (λ n. n ≤ 64) c.settled_by-last.ensures (cond_ind (eqb c.args.tail c.args.head) 1 (length c.args.vs.now) (λ n. n ≤ 64) (λ y. omega arith) (λ y. c.requires.0.size)),
)

pub raise_by-potentials-requires : goal.raise_by-potentials-requires
raise_by-potentials-requires c = (
  most_small (cell c.args.d.now) c.args.vs.now c.requires.0 (state_in c.args.f.now c.args.u.now c.args.cost c.args.count) c.requires.1 c.requires.2 c.args.tail c.args.head c.requires.3 c.requires.4 (way_found (cell c.args.d.now) c.args.vs.now c.requires.0 (state_in c.args.f.now c.args.u.now c.args.cost c.args.count) c.requires.1 c.requires.2 c.args.tail c.args.head c.requires.3 c.requires.4 c.search_towards-found.ensures c.settled_by-last.ensures) c.from-h.ensures,
  levels_small (cell c.args.d.now) c.args.vs.now c.requires.0 (state_in c.args.f.now c.args.u.now c.args.cost c.args.count) c.requires.1 c.requires.2,
)

pub overflow_add-cost : goal.overflow_add-cost
overflow_add-cost c =
    let h = c.from-h in
    record { fits = subst⁻¹ (λ (u : List ℕ). c.args.cost + get_or u h.result 0 < 18446744073709551616) c.raise_by-potentials.ensures (sum_small (cell c.args.d.now) c.args.vs.now c.requires.0 (state_in c.args.f.now c.args.u.now c.args.cost c.args.count) c.requires.1 c.requires.2 c.args.tail c.args.head c.requires.3 c.requires.4 (way_found (cell c.args.d.now) c.args.vs.now c.requires.0 (state_in c.args.f.now c.args.u.now c.args.cost c.args.count) c.requires.1 c.requires.2 c.args.tail c.args.head c.requires.3 c.requires.4 c.search_towards-found.ensures c.settled_by-last.ensures) h.ensures) }

pub returns : goal.returns
returns c =
    price_made (cell c.args.d.now) c.args.vs.now (state_in c.args.f.now c.args.u.now c.args.cost c.args.count) c.args.tail c.args.head (way_found (cell c.args.d.now) c.args.vs.now c.requires.0 (state_in c.args.f.now c.args.u.now c.args.cost c.args.count) c.requires.1 c.requires.2 c.args.tail c.args.head c.requires.3 c.requires.4 c.search_towards-found.ensures c.settled_by-last.ensures) c.from-h.ensures c.from.ensures c.raise_by-potentials.ensures c.saturating_sub-cost.ensures
