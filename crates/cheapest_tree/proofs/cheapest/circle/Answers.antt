-- After so many turns the components that so many entries pass are marked, and x is the next.
use Rattle.std.proofs.Common.{refl, sym, ap, ◌∙◌, add-one, arith, rules}
use Rattle.postman.specs.Lists.{iterate}
use Rattle.cheapest_tree.specs.CostMatrix.{entry_of}
use Rattle.cheapest_tree.specs.Laws.CostMatrix.{marked_none, marked_more}
use Rattle.cheapest_tree.specs.Laws.Iterates.{iterate_last}
use Rattle.cheapest_tree.proofs.cheapest.circle.Goals as goal

pub loop-init : goal.loop-init
unfolding iterate
loop-init c = record { in_range = c.requires.0; sized = refl; here = refl; marked = marked_none _ _ }

pub loop-preserved : goal.loop-preserved
loop-preserved c =
    let v = c.loop in
    let i = v.invariant in
    record {
      in_range = c.requires.1 v.x i.in_range;
      sized = search rules;
      here = ap (entry_of c.args.e) i.here ∙ sym (iterate_last v.counter (entry_of c.args.e) c.args.y) ∙ rw add-one;
      marked = marked_more _ _ v.counter v.on v.x (let a = i.in_range in let b = i.sized in omega arith) i.here i.marked;
    }
