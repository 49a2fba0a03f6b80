-- Records that are stored one after another from the start of a list.
use Rattle.std.specs.Prelude.{List, ℕ, zero, suc, set}
use Rattle.plan.specs.declared.Arc.{Arc}

-- The records after k stores: record i is `new i` for each i below k.
abbrev pub stored_to : (ℕ → Arc) → List Arc → ℕ → List Arc
stored_to new records zero = records
stored_to new records (suc k) = set (stored_to new records k) k (new k)
