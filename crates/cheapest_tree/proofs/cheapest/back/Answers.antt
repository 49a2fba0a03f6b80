-- After so many turns y is where so many entries lead.
use Rattle.std.proofs.Common.{refl, sym, ap, ◌∙◌, add-one}
use Rattle.postman.specs.Lists.{iterate}
use Rattle.cheapest_tree.specs.CostMatrix.{entry_of}
use Rattle.cheapest_tree.specs.Laws.Iterates.{iterate_last}
use Rattle.cheapest_tree.proofs.cheapest.back.Goals as goal

pub loop-init : goal.loop-init
unfolding iterate
loop-init c = (c.requires.0, refl)

pub loop-preserved : goal.loop-preserved
loop-preserved c =
    let v = c.loop in
    (c.requires.1 v.y v.invariant.0, ap (entry_of c.args.e) v.invariant.1 ∙ sym (iterate_last v.counter (entry_of c.args.e) c.args.x) ∙ rw add-one)
