-- The file has room for arc k, so what is stored is its record (`record_in_lem`).
use Rattle.std.proofs.Common.{◌≡◌, ◌∙◌, ◌+◌, ◌*◌, ◌≤◌, ap₂, arith, add-one, List, length, set}
use Rattle.postman.specs.PlanFile.{edition, arc_of, arc_width, file_bits}
use Rattle.postman_laws.specs.Laws.FileLength.{bits_within}
use Rattle.plan.specs.declared.Arc.{Arc}
use Rattle.plan.specs.Records.{record_of}
use Rattle.plan_file.specs.Laws.Room.{record_in_lem}
use Rattle.records.proofs.reader.store_arcs.Goals as goal

pub loop-k-preserved : goal.loop-k-preserved
loop-k-preserved c =
    let a = c.args in
    let s = a.bytes.now in
    let k = c.loop-k.k in
    let e = edition s in
    let all : file_bits e a.m ≤ 8 * length s = c.requires.1 (omega arith) in
    let fits : file_bits e k + arc_width e ≤ 8 * length s = omega (arith, bits_within e k a.m (omega arith), all) in
    let new : c.file_arc.result ≡ record_of (arc_of s e k) = c.file_arc.ensures ∙ record_in_lem s k (omega arith) fits in (
      omega arith,
      rw add-one (ap₂ (λ (l : List Arc) (x : Arc). set l k x) c.loop-k.invariant.1 new),
    )
