-- The loop's invariant: the first k records are those that are lent, and the later ones are zeros.
use native.Mathlib.Numerals.{add-one}
use mathlib.Core.Path.{◌≡◌, ◌∙◌, ap}
use Prim.Native.Nat.{◌/◌}
use native.Mathlib.Omega.{arith}
use lib.ListN.{length, set}
use Rattle.record_writer.specs.Stored.{stored_to}
use Rattle.record_writer.specs.Writing.{at_most}
use Rattle.encoding.specs.Laws.RecordBytes.{lent_record, loaded_is}
use Rattle.encoding.proofs.record_bytes.load_records.Goals as goal

pub loop-k-preserved : goal.loop-k-preserved
loop-k-preserved c =
    let l = c.loop-k in
    let f = lent_record c.args.lent.now in (
      omega arith,
      l.invariant.1,
      l.invariant.2,
      rw add-one (ap (set l.arcs l.k) c.record_at.ensures ∙ ap (λ xs. set xs l.k (f l.k)) l.invariant.3),
    )

pub returns : goal.returns
returns c =
    let lent = c.args.lent.now in
    let n = length lent / 7 in
    let all : c.loop-k.k ≡ at_most n 256 = omega (arith, c.at_most-count.ensures) in
    c.loop-k.invariant.3
    ∙ ap (stored_to (lent_record lent) c.no_records-arcs.result) all
    ∙ ap (λ xs. stored_to (lent_record lent) xs (at_most n 256)) c.no_records-arcs.ensures
    ∙ loaded_is lent
