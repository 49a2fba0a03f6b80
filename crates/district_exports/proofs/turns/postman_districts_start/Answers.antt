-- A slice that is too short, or zeros.
use mathlib.Core.Path.{refl, ◌∙◌}
use Prim.Native.Nat.{ℕ}
use native.Mathlib.Omega.{arith}
use lib.ListN.{replicate, length-replicate}
use Rattle.machine_bytes.specs.MachineBytes.{districts_bytes}
use Rattle.encoding.specs.Laws.NumberBytes.{put_start}
use Rattle.district_exports.proofs.turns.postman_districts_start.Goals as goal

pub returns : goal.returns
returns c =
    let l = c.if-machine-lt12136.false in
    record { started = λ h. (refl, c.put_bytes.ensures ∙ put_start _ (replicate {A = ℕ} districts_bytes 0) districts_bytes (length-replicate {A = ℕ} districts_bytes 0)); short = λ h. absurd (omega arith) }
