-- Each item is a vertex, and the test of all of them is the model's.
use borrow.Author.Tests.{tests}
use lib.IntN.{pos}
use Prim.Native.Nat.{ℕ}
use lib.ListN.{get_or}
use Rattle.std.proofs.Common.{rules}
use Rattle.std.proofs.lemmas.Iterator.{YieldsList-from_slice}
use Rattle.std.proofs.lemmas.Iterator.Adapters.{serves_from_places}
use Rattle.std.proofs.lemmas.Iterator.Search.{all_from_yields_List}
use Rattle.multiplier_steps.specs.Laws.Turns.{item_below, all_turns}
use Rattle.ascent.specs.Step.{is_same, are_unmoved}
use Rattle.ascent.proofs.step.same.Goals as goal

pub all-requires-clause-callable : goal.all-requires-clause-callable
all-requires-clause-callable c =
    serves_from_places (YieldsList-from_slice c.args.vs.vertices.now c.iter.ensures.rest) (λ x q r. search rules)
    (λ x k l e. let m = item_below c.args.vs.vertices.now k x.now c.args.vs.below_64 l e in search rules)

pub returns : goal.returns
unfolding are_unmoved
returns c =
    let alike = λ (v : ℕ). is_same (get_or c.args.x.now v (pos 0)) (get_or c.args.y.now v (pos 0)) in
    all_turns alike c.args.vs.vertices.now
    (all_from_yields_List alike _ _ _ c.all.ensures.ran (YieldsList-from_slice c.args.vs.vertices.now c.iter.ensures.rest) (λ x b q k. search (rules, tests)))
