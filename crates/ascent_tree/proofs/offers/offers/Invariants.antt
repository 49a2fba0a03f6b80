-- The loop's state after so many turns is the model's. Assumes nothing.
use mathlib.Core.Path.{◌≡◌}
use lib.IntN.{pos}
use lib.ListN.{get_or, replicate}
use Rattle.residual_search.specs.Search.{beyond}
use Rattle.ascent_tree.specs.Offers.{offers_from}
use Rattle.multiplier_steps.specs.Turns.{turns}
use Rattle.ascent_tree.proofs.offers.offers.Given as goal

abbrev pub invariant-loop-v : goal.invariant-loop-v
invariant-loop-v l = ((l.m, l.at) ≡ turns (λ r a'. offers_from l.d l.x l.component l.vs.vertices.now r (get_or l.vs.vertices.now a' 0)) (replicate 64 (pos beyond), replicate 64 0) l.v-index)
