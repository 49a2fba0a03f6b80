-- `put_bit` meets its contract: one store, of the byte with the bit.
use mathlib.Core.Path.{ap}
use Prim.Native.Nat.{◌/◌}
use lib.ListN.{set}
use Rattle.bits.specs.FieldUpdate.{set_bit}
use Rattle.bits.proofs.put_bit.Goals as goal

pub returns : goal.returns
unfolding set_bit
returns c = ap (set c.args.s.now (c.args.n / 8)) c.with_bit.ensures
