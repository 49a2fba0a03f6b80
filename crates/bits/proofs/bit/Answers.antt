-- `bit` meets its contract: the byte's index is below the length, and the definition is what the code computes.
use mathlib.Core.Path.{refl}
use Rattle.postman.specs.BitField.{bit_at}
use Rattle.bits.proofs.bit.Goals as goal

pub returns : goal.returns
unfolding bit_at
returns c = refl
