-- The number is the same once it has been a word of 64 bits.
use mathlib.Core.Path.{subst⁻¹}
use Rattle.integers.specs.Linear.{back64}
use Rattle.exports.specs.Call.{IsExportedCallAt}
use Rattle.postman_c.proofs.call.postman_plan_call_at.Goals as goal

pub returns : goal.returns
returns c =
    let m = c.postman_plan_call_at in
    subst⁻¹ (IsExportedCallAt _ _ _ _ _ _ _ _ _ _) (back64 _ m.type_inv) m.ensures
