-- The same of a field, which has the arrays.
use Rattle.std.specs.Prelude.{List, ℕ}
use Rattle.postman.specs.Plan.{Plan}
use Rattle.tree_bounds.specs.declared.field.Field.{Field}
use Rattle.tree_bounds.specs.declared.pricing.Pricing.{Pricing}
use Rattle.tree_bounds.specs.Prepared.{Prepared}
use Rattle.tree_bounds.specs.Reducible.{CanRest}
use Rattle.tree_bounds.specs.Pricing.{IsBounded}

-- It is a plan's of k components.
abbrev pub IsPreparedFor : Plan → Field → ℕ → Type 0
IsPreparedFor p at k =
    Prepared p at.d.now at.vs.now at.candidates.now.start at.candidates.now.source at.candidates.now.tails at.candidates.now.heads k

-- It is a plan's.
abbrev pub IsPrepared : Plan → Field → Type 0
IsPrepared p at = IsPreparedFor p at at.k

-- The candidates of the components from a on have reduced costs.
abbrev pub CanRestIn : Field → List ℕ → ℕ → Type 0
CanRestIn at pot a = CanRest at.d.now pot at.candidates.now.start at.candidates.now.tails at.candidates.now.heads a at.k

-- The same prices, and their bound.
abbrev pub IsBoundedIn : Field → Pricing → ℕ → ℕ → Pricing → Type 0
IsBoundedIn at q fixed a r = IsBounded at.d.now at.candidates.now.start at.candidates.now.tails at.candidates.now.heads at.k q fixed a r
