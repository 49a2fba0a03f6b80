-- The invariant: the pairs before the kth are done. A source that is flagged needs no search; one that is not is searched from, flagged and counted.
use native.Mathlib.Omega.{arith}
use Rattle.distances.specs.Laws.Filling.{source_small, filled_start, filled_again, filled_more, filled_as, filled_count, filled_all}
use Rattle.distances.proofs.entries.put_entries.Goals.{then-not-searched-source, else-not-searched-source}
use Rattle.distances.proofs.entries.put_entries.Goals as goal

pub loop-x-init : goal.loop-x-init
loop-x-init c = filled_start _ _ _ c.requires.1

pub loop-x-preserved : goal.loop-x-preserved
loop-x-preserved c =
    let p = c.requires in
    let e = c.first-source.ensures in
    let s = source_small _ _ c.loop-x.x-index _ c.args.good.now.well_formed.vertices p.0 (omega arith) e in
    let h = c.loop-x.invariant in
    elim c.if-not-searched-source.branch [
      | then-not-searched-source w ↦ filled_as _ _ _ w.distances-is w.searched-is w.searches-is (filled_more _ _ _ _ _ _ _ _ _ e (omega arith) s w.if-not-searched-source.true h w.search.ensures)
      | else-not-searched-source w ↦ filled_as _ _ _ w.distances-is w.searched-is w.searches-is (filled_again _ _ _ _ _ _ _ _ e (omega arith) s w.if-not-searched-source.false h)
    ]

pub returns : goal.returns
returns c =
    let h = c.loop-x.invariant in
    record {
      searches = filled_count _ _ _ _ _ _ _ h (omega arith);
      entries_written = filled_all _ _ _ _ _ _ _ h (omega arith);
    }
