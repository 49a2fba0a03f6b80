-- What owning a plan by value tells: each record's costs are in their type's range.
use mathlib.Core.List.{List, [], ◌∷◌}
use Prim.Native.Nat.{zero, suc}
use lib.Dec.{lit<}
use mir.Val.{Val}
use denote.Array.{each}
use denote.Shadow.{shadow}
use Rattle.plan.specs.declared.Arc.{Arc}
use Rattle.plan.specs.contracts.Arc.{the_row}
use Rattle.plan_writer.specs.Laws.Reread.{CostsFit}

abbrev Owned : List Arc → List Val → Type 0
Owned records us = shadow (each the_row.Denot the_row.own_val records us)

pub owned_costs : (records : List Arc) (us : List Val) → Owned records us → CostsFit records
owned_costs [] us p k = (lit< tt, lit< tt)
owned_costs (a ∷ records) [] p k = absurd p
owned_costs (a ∷ records) (u ∷ us) p zero = (p.0.1.1.1.1.1.0.1, p.0.1.1.1.1.1.1.0.1)
owned_costs (a ∷ records) (u ∷ us) p (suc k) = owned_costs records us p.1 k
