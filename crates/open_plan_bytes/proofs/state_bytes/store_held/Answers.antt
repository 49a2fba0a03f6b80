-- The length, and then the file.
use mathlib.Core.Path.{refl}
use Prim.Native.Nat.{◌%◌}
use native.Mathlib.Omega.{arith}
use Rattle.encoding.specs.NumberBytes.{number_bytes}
use Rattle.encoding.specs.Laws.NumberBytes.{put_next}
use Rattle.open_plan_bytes.proofs.state_bytes.store_held.Goals as goal

pub returns : goal.returns
returns c =
    let h = c.args.h in
    let file = c.store_file.ensures in
    (file.0, put_next _ _ (number_bytes (h.length % 65536)) h.file 2 1475 refl file.0 (let p = c.requires in omega arith) _ _ c.put_number.ensures file.1)
