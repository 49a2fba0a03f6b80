-- The bytes, and zeros behind them.
use Rattle.held_file.specs.Laws.Held.{copied_held}
use Rattle.held_file.proofs.file.hold.Goals as goal

pub returns : goal.returns
returns c = copied_held _ _ c.copy_from_slice.ensures.after
