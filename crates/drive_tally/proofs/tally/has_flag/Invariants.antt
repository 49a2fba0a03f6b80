-- The invariant: no flag before the kth is set.
use mathlib.Core.Path.{◌≡◌}
use Prim.Native.Nat.{ℕ, ◌<◌}
use lib.ListN.{get_or}
use mathlib.Core.Bool.{false}
use Rattle.drive_tally.proofs.tally.has_flag.Given as goal

abbrev pub invariant-loop-flag : goal.invariant-loop-flag
invariant-loop-flag l = (j : ℕ) → j < l.flag-index → get_or l.fn.due j false ≡ false
