-- The row holds the distances from the source, so the entries that it puts are those of the search.
use Rattle.distances.specs.Laws.Filling.{row_put}
use Rattle.distances.proofs.entries.search.Goals as goal

pub returns : goal.returns
returns c =
    let row = c.row-row in
    row_put _ _ row.result _ _ _ c.args.good.now.well_formed.vertices c.requires.0 row.ensures c.put_row.ensures
