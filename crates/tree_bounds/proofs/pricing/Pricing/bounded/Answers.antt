-- The fields are what the definition says.
use Rattle.std.proofs.Common.{refl}
use Rattle.tree_bounds.proofs.pricing.Pricing.bounded.Goals as goal

pub returns : goal.returns
returns c =
    record {
      potentials_are = refl;
      value_is = refl;
      rest = c.rest.result;
      bound_is = refl;
      small = c.rest.ensures.small;
      low = c.rest.ensures.low;
    }
