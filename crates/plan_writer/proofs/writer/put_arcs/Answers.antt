-- `put_arcs` meets its contract. The loop's invariant: the first k arcs are put.
use native.Mathlib.Numerals.{add-one}
use mathlib.Core.Path.{refl, ◌∙◌, ap₂}
use Prim.Native.Nat.{ℕ}
use mathlib.Core.List.{List}
use native.Mathlib.Omega.{arith}
use Rattle.postman_laws.specs.Laws.FileLength.{bits_within}
use Rattle.std.proofs.Common.{length-take-le, ap}
use Rattle.plan.specs.declared.Arc.{Arc as ArcRecord}
use Rattle.std.proofs.lemmas.List.{get_or-take}
use Rattle.plan.specs.Records.{record_at, zero_record, arc_value}
use Rattle.plan_arcs.specs.Laws.Fields.{arc_within}
use Rattle.plan_writer.specs.PlanUpdate.{put_arc, put_arcs}
use Rattle.plan_writer.proofs.writer.put_arcs.Goals as goal

pub loop-k-init : goal.loop-k-init
unfolding put_arcs
loop-k-init c = (refl, refl)

pub put_arc-requires : goal.put_arc-requires
put_arc-requires c =
    let a = c.args in
    let l = c.loop-k in
    let long = length-take-le a.m a.arcs (omega arith) in
    let w = arc_within a.edition l.k _ _ c.file_bits.ensures (omega arith) (bits_within a.edition l.k a.m (omega arith)) in
    (omega (arith, w.2, l.invariant.0), w.0)

pub loop-k-preserved : goal.loop-k-preserved
unfolding put_arcs
loop-k-preserved c =
    let call = c.put_arc in
    let l = c.loop-k in
    let a = c.args in
    let long = length-take-le a.m a.arcs (omega arith) in
    let same = get_or-take a.m a.arcs l.k zero_record (omega arith) in
    let new = call.ensures ∙ ap (λ (x : ArcRecord). put_arc l.s a.edition c.file_bits.result (arc_value x)) same in
    let f = record_at a.arcs in (
      call.auto.s ∙ l.invariant.0,
      rw add-one (new ∙ ap₂ (λ (s : List ℕ) (i : ℕ). put_arc s a.edition i (f l.k)) l.invariant.1 c.file_bits.ensures),
    )
