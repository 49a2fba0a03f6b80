-- The fields are put one after the other.
use Rattle.machine_bytes.specs.MachineBytes.{IsReachedSized}
use Rattle.machine_bytes.specs.Laws.MachineBytes.{stored_reached}
use borrow.Author.Rules.{rules}
use Rattle.machine_bytes.proofs.machine_bytes.store_reached.Goals as goal

pub returns : goal.returns
returns c =
    let g = c.args.g in
    let z : IsReachedSized g = record { tails = search (rules, c.well_formed); heads = search (rules, c.well_formed) } in
    (z, stored_reached g z _ _ c.requires _ _ _ _ c.put_long.ensures c.put_bytes.ensures c.put_bytes-2.ensures c.put_word.ensures)
