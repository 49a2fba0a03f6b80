-- Equal lists have equal entries, and lists of equal entries are equal.
use Rattle.std.proofs.Common.{rules}
use Rattle.shortest.specs.Laws.Columns.{same_test}
use Rattle.shortest.proofs.columns.same_all.Goals as goal

pub returns : goal.returns
returns c = same_test c.args.a.now c.args.b.now c.told-a c.told-b c.eq.result c.eq.ensures (λ e. search (rules))
