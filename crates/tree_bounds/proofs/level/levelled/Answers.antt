-- What is put is what the definition says.
use Rattle.std.proofs.Common.{rules}
use Rattle.tree_bounds.proofs.level.levelled.Goals as goal

pub returns : goal.returns
returns c =
    record {
      size = c.put.ensures.size;
      each = λ k l. search (rules, c.put.ensures.each k l, c.from.ensures);
      low = c.put.ensures.low;
    }
