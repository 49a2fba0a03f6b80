-- The loop's state after so many turns is the model's. Assumes nothing.
use mathlib.Core.Path.{◌≡◌}
use Prim.Native.Nat.{◌*◌}
use lib.IntN.{pos}
use lib.ListN.{get_or}
use Rattle.multiplier_steps.specs.Turns.{turns}
use Rattle.ascent_tree.specs.Offers.{part, offer}
use Rattle.ascent_tree.proofs.offers.offer_from.Given as goal

abbrev pub invariant-loop-v : goal.invariant-loop-v
invariant-loop-v l = (l.row ≡ part l.component l.i * 8) × (l.xi ≡ get_or l.x l.i (pos 0)) × ((l.m, l.at) ≡ turns (λ r a. offer l.d l.x l.component l.i r (get_or l.vs.vertices.now a 0)) (l.initial.m, l.initial.at) l.v-index)
