-- What a search and a state by value stand for.
use Rattle.balance.specs.declared.state.Balance.{Balance as BalanceRecord}
use Rattle.residual_search.specs.Step.{State}

abbrev pub state_of : BalanceRecord → State
state_of s = record { amounts = s.amounts; potentials = s.potentials; cost = s.cost; count = s.count }
