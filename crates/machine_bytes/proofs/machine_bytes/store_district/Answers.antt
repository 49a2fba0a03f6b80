-- The fields are put one after the other.
use Rattle.machine_bytes.specs.MachineBytes.{IsDistrictSized}
use Rattle.machine_bytes.specs.Laws.MachineBytes.{stored_district}
use Rattle.machine_bytes.proofs.machine_bytes.store_district.Goals as goal

pub returns : goal.returns
returns c =
    let d = c.args.d in
    let f = c.store_file.ensures in
    let g = c.store_reached.ensures in
    let z : IsDistrictSized d = record { file = f.0; held = g.0 } in
    (z, stored_district d z _ _ c.requires _ _ _ _ c.put_long.ensures f.1 c.put_word.ensures g.1)
