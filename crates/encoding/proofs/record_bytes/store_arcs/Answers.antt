-- The loop's invariant: the first k records are the arcs', and the bytes after them are as they were.
use mathlib.Core.Path.{refl, ◌∙◌, ap}
use mathlib.Core.List.{List, flat_map}
use Prim.Native.Nat.{ℕ, ◌*◌}
use native.Mathlib.Omega.{arith}
use Rattle.postman.specs.Lists.{below, up_from}
use Rattle.std.proofs.Common.{length-take-le}
use Rattle.plan.specs.declared.Arc.{Arc as ArcRecord}
use Rattle.std.proofs.lemmas.List.{get_or-take}
use Rattle.plan.specs.Records.{record_at, zero_record, arc_value}
use Rattle.encoding.specs.RecordBytes.{with_arc}
use Rattle.encoding.specs.Laws.RecordBytes.{stored_more}
use Rattle.encoding.proofs.record_bytes.store_arcs.Goals as goal

pub loop-k-init : goal.loop-k-init
unfolding below up_from flat_map
loop-k-init c = (refl, refl)

pub loop-k-preserved : goal.loop-k-preserved
loop-k-preserved c =
    let start = c.args in
    let l = c.loop-k in
    let call = c.put_record in
    let long = length-take-le start.m start.arcs (omega arith) in
    let same = get_or-take start.m start.arcs l.k zero_record (omega arith) in
    let new = call.ensures ∙ ap (λ (x : ArcRecord). with_arc l.lent (7 * l.k) (arc_value x)) same in (
      call.auto.lent ∙ l.invariant.0,
      new
          ∙ ap (λ (s : List ℕ). with_arc s (7 * l.k) (record_at start.arcs l.k)) l.invariant.1
          ∙ stored_more (record_at start.arcs) start.lent.now l.k,
    )
