-- What is laid are the legs, so what is written is the drive.
use Prim.Native.Nat.{ℕ}
use mathlib.Core.Path.{ap, ◌∙◌}
use native.Mathlib.Omega.{arith}
use lib.ListN.{length, replicate, length-replicate}
use lib.Seq.{length-take-le}
use Rattle.plan.specs.Records.{plan_value}
use Rattle.drive_legs.specs.Filled.{links_of}
use Rattle.drive_legs.specs.Drive.{written}
use Rattle.drive_legs.specs.Laws.Laid.{links_length}
use Rattle.circuit.specs.Laws.Completion.{completion, few_legs, laid_ready}
use Rattle.circuit.proofs.drive.write_drive.Goals as goal

pub lay-laid-requires : goal.lay-laid-requires
lay-laid-requires c =
    let a = c.args in
    let t = links_of a.link_tails.now a.link_heads.now in (
      c.requires.completing.0,
      omega (
        arith,
        few_legs (plan_value a.good.now.plan) a.good.now.well_formed t a.amounts.now c.requires.completing.1,
        links_length a.link_tails.now a.link_heads.now c.requires.completing.0,
      ),
    )

pub write_circuit-requires : goal.write_circuit-requires
write_circuit-requires c =
    let r = laid_ready _ c.args.good.now.well_formed _ _ c.requires.completing.1 c.lay-laid.ensures
    c.numbers.ensures c.tails.ensures c.heads.ensures in
    let z = (completion _ c.args.good.now.well_formed _ _ c.requires.completing.1).short in
    let m = length-replicate {A = ℕ} 526 0 in
    let f = r.few in
    record {
      weighed = c.requires.weighed;
      has_circuit = (f, length-take-le _ (replicate {A = ℕ} 526 0) (omega arith), r.eulerian);
      have_paths = r.have_paths;
      room = omega (arith, z, ap length r.written, c.requires.room);
    }

pub returns : goal.returns
returns c =
    let r = laid_ready _ c.args.good.now.well_formed _ _ c.requires.completing.1 c.lay-laid.ensures
    c.numbers.ensures c.tails.ensures c.heads.ensures in
    let e = c.write_circuit.ensures in
    record {
      places_written = e.places_written ∙ ap (λ z. written z c.args.places.now) r.written;
      place_count = e.place_count ∙ ap length r.written;
    }
