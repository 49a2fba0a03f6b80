-- The number is the same once it has been a word of 64 bits.
use mathlib.Core.Path.{subst⁻¹}
use Rattle.integers.specs.Linear.{back64}
use Rattle.open_plan_exports.specs.Editing.{IsExportedMove}
use Rattle.postman_c.proofs.editing.postman_return.Goals as goal

pub returns : goal.returns
returns c =
    let m = c.postman_return in
    subst⁻¹ (IsExportedMove _ _ _) (back64 _ m.type_inv) m.ensures
