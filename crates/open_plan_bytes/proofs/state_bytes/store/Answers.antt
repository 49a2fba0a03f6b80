-- The five files are stored one after the other.
use Rattle.open_plan_bytes.specs.Laws.StateBytes.{stored_state}
use Rattle.open_plan_bytes.proofs.state_bytes.store.Goals as goal

pub returns : goal.returns
returns c =
    stored_state c.args.s _ _ _ _ _ _ c.requires c.store_held.ensures c.store_held-2.ensures c.store_held-3.ensures c.store_held-4.ensures c.store_held-5.ensures
