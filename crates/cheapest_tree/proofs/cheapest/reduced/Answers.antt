-- Each cost is reduced by what its component pays.
use Rattle.std.proofs.Common.{rules, ◌≡◌, ◌%◌, get_or}
use Rattle.std.specs.Prelude.{pos}
use Rattle.cheapest_tree.specs.CostMatrix.{less, pay_of}
use Rattle.postman_laws.specs.Laws.Arrays.{from_fn_each}
use Rattle.cheapest_tree.proofs.cheapest.reduced.Goals as goal

pub returns : goal.returns
returns c = λ i l.
    from_fn_each _ (λ k y. y ≡ less (get_or c.args.w.now k (pos 0)) (pay_of c.args.w.now c.args.left c.args.e (k % 8))) _
    (λ k y q h. search rules) _ _ c.from_fn.ensures.items i (pos 0) l
