-- A pair that is near goes by the count of ways, and one that is far has none that is counted.
use Rattle.std.proofs.Common.{◌∙◌}
use borrow.Author.Tests.{le-ltb}
use Rattle.network.specs.Thinning.{far}
use Rattle.network.specs.Laws.Ways.{near_test, far_test}
use Rattle.network.proofs.thinning.is_short.Goals as goal

pub returns-then-a-lt-FAR : goal.returns-then-a-lt-FAR
returns-then-a-lt-FAR c =
    let a = c.args in
    near_test a.row.now a.columns.now a.j a.a c.if-a-lt-FAR.true c.ways.result c.ways.ensures

pub returns-else-a-lt-FAR : goal.returns-else-a-lt-FAR
returns-else-a-lt-FAR c =
    let a = c.args in
    le-ltb a.a far c.if-a-lt-FAR.false ∙ far_test a.row.now a.columns.now a.j a.a c.if-a-lt-FAR.false
