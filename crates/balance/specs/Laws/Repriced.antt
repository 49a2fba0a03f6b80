-- A state with other potentials: where they are feasible and tight for its amounts, it is certified as before, and they price
-- the arcs counted at the same cost, by duality.
use Rattle.std.specs.Prelude.{◌≡◌, List, ℕ, ◌≤◌, length, get_or}
use Rattle.std.proofs.Common.{arith}
use Rattle.postman_laws.specs.Laws.Amounts.{Within}
use Rattle.balance.specs.Optimality.{ArePotentials, Tight}
use Rattle.postman.specs.Steps.{amount}
use Rattle.residual_search.specs.Step.{State, potential}
use Rattle.balance.specs.Invariant.{Certified, Counted}
use Rattle.balance.specs.Laws.Duality.{cost_price, tight_slack}

abbrev pub repriced : State → List ℕ → State
repriced s w = record { amounts = s.amounts; potentials = w; cost = s.cost; count = s.count }

module _ (d : ℕ → ℕ → ℕ) (vs : List ℕ) (s : State) (w : List ℕ) (feasible : ArePotentials d vs (potential w))
    (tight : Tight d vs (amount s.amounts) (potential w)) where
  pub repriced_certified : Certified d vs s → length w ≡ 64 → 1 ≤ s.count → ((k : ℕ) → get_or w k 0 ≤ 8257410)
      → Certified d vs (repriced s w)
  repriced_certified c long some low = record {
    numbers = record {
      long_amounts = c.numbers.long_amounts;
      long_potentials = long;
      few = c.numbers.few;
      low = λ k. (let a = low k in omega arith);
      cheap = c.numbers.cheap;
    };
    feasible = feasible;
    tight = tight;
    loopless = c.loopless;
  }

  pub repriced_counted : (hs ts : List ℕ) → Within vs hs → Within vs ts → Certified d vs s → Counted vs s hs ts
      → Counted vs (repriced s w) hs ts
  repriced_counted hs ts wh wt c n = record {
    number = n.number;
    balanced = n.balanced;
    priced =
        (let f = amount s.amounts in
        let u = potential s.potentials in
        let a = cost_price d f vs u hs ts wh wt n.balanced c.feasible in
        let a₀ = tight_slack d f vs u hs ts wh wt n.balanced c.tight in
        let b = cost_price d f vs (potential w) hs ts wh wt n.balanced feasible in
        let b₀ = tight_slack d f vs (potential w) hs ts wh wt n.balanced tight in
        let e = n.priced in
        omega arith);
  }
