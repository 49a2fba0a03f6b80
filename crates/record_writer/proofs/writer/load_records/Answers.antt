-- The list's records are copied, as many as there is room for.
use Rattle.std.proofs.Common.{◌≡◌, ◌∙◌, sym, ap, ap₂, take, replicate, length, drop, ◌++◌, List, ℕ}
use Rattle.plan.specs.declared.Arc.{Arc}
use Rattle.plan.specs.Records.{zero_record}
use Rattle.record_writer.specs.Writing.{at_most, loaded}
use Rattle.record_writer.specs.Laws.Stored.{copied_is}
use Rattle.record_writer.specs.Laws.Writing.{at_most_le, at_most_fits}
use Rattle.record_writer.proofs.writer.load_records.Goals as goal

pub returns : goal.returns
unfolding loaded
returns c =
    let r = c.args.records.now in
    let zeros = replicate 256 zero_record in
    let n = at_most (length r) 256 in
    let e : c.at_most-count.result ≡ n = c.at_most-count.ensures in
    ap₂ (λ (a b : List Arc). a ++ b)
    (c.copy_from_slice.ensures.after ∙ ap (λ (k : ℕ). take k r) e)
    (ap₂ (λ (k : ℕ) (z : List Arc). drop k z) e c.no_records-arcs.ensures)
    ∙ sym (copied_is zero_record r zeros n (at_most_fits (length r) 256) (at_most_le (length r) 256))
