-- Each item is a vertex, and the test of all of them is the model's.
use borrow.Author.Tests.{tests}
use Rattle.std.proofs.Common.{rules}
use Rattle.std.proofs.lemmas.Iterator.{YieldsList-from_slice}
use Rattle.std.proofs.lemmas.Iterator.Adapters.{serves_from_places}
use Rattle.std.proofs.lemmas.Iterator.Search.{all_from_yields_List}
use Rattle.multiplier_steps.specs.Lawful.{is_vertex_lawful, are_lawful}
use Rattle.multiplier_steps.specs.Laws.Turns.{item_below, all_turns}
use Rattle.multiplier_steps.proofs.lawful.are_lawful.Goals as goal

pub all-requires-clause-callable : goal.all-requires-clause-callable
all-requires-clause-callable c =
    serves_from_places (YieldsList-from_slice c.args.vs.vertices.now c.iter.ensures.rest) (λ x q r. search rules)
    (λ x k l e. let m = item_below c.args.vs.vertices.now k x.now c.args.vs.below_64 l e in search rules)

pub returns : goal.returns
unfolding are_lawful
returns c =
    all_turns (is_vertex_lawful c.args.d.now c.args.f.now c.args.x.now c.args.vs.vertices.now) c.args.vs.vertices.now
    (all_from_yields_List (is_vertex_lawful c.args.d.now c.args.f.now c.args.x.now c.args.vs.vertices.now) _ _ _ c.all.ensures.ran (YieldsList-from_slice c.args.vs.vertices.now c.iter.ensures.rest) (λ x b q k. search (rules, tests)))
