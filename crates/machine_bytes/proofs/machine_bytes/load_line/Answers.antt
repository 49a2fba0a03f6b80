-- Each district is the one that is lent at its place.
use Rattle.std.proofs.Common.{rules, ◌≡◌, ◌*◌}
use Rattle.postman_laws.specs.Laws.Arrays.{from_fn_each}
use Rattle.district_machine.specs.Machine.{no_district}
use Rattle.machine_bytes.specs.MachineBytes.{district_in}
use Rattle.machine_bytes.specs.Laws.MachineBytes.{all_loaded}
use Rattle.machine_bytes.proofs.machine_bytes.load_line.Goals as goal

pub returns : goal.returns
returns c = all_loaded c.args.machine.now no_district _ c.from_fn.ensures.items.long
    (λ v l. from_fn_each _ (λ k y. y ≡ district_in c.args.machine.now (1516 * k)) _ (λ k y q h. search rules) _ _ c.from_fn.ensures.items v no_district l)
