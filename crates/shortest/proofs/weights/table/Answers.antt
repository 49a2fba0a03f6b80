-- Each row is that of its source.
use Rattle.std.proofs.Common.{rules, ◌≡◌, []}
use Rattle.postman_laws.specs.Laws.Arrays.{from_fn_each}
use Rattle.shortest.specs.Columns.{row_from}
use Rattle.shortest.proofs.weights.table.Goals as goal

pub returns : goal.returns
returns c = λ i j l m.
    let e = from_fn_each _ (λ k y. y ≡ row_from c.settled-c.result k) _ (λ k y q h. search rules) _ _ c.from_fn.ensures.items i [] l in
    rw e (c.settled-c.ensures i l j m)
