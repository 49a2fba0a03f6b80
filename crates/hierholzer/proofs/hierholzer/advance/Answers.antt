-- The flags find what the definition's search finds; each of the two ends is then one step of the definition.
use native.Mathlib.Omega.{arith}
use Rattle.hierholzer.specs.Laws.Held.{top_below, has_room, walked_at, placed_at}
use Rattle.hierholzer.specs.Laws.Hints.{hints_used}
use Rattle.hierholzer.proofs.hierholzer.advance.Goals as goal

pub bounds-heads-i : goal.bounds-heads-i
bounds-heads-i c =
    let e = c.from-i.ensures in
    omega (arith, top_below c.args.heads.now c.requires.2 c.requires.3)

pub bounds-order-depth-then-e-tails : goal.bounds-order-depth-then-e-tails
bounds-order-depth-then-e-tails c =
    let w = c.requires.3.within in
    omega (arith, has_room c.args.heads.now c.requires.2 c.requires.3 c.from-i.ensures c.find_leg-e.ensures.0 c.if-e-tails.true)

pub returns-then-e-tails : goal.returns-then-e-tails
returns-then-e-tails c =
    let m = c.requires.3.marks in
    (walked_at c.args.heads.now c.requires.2 c.requires.3 c.from-i.ensures c.find_leg-e.ensures.0 c.if-e-tails.true, hints_used c.args.tails.now c.args.used.now _ c.find_leg-e.ensures.1 c.find_leg-e.result (omega arith))

pub returns : goal.returns
returns c =
    (placed_at c.args.heads.now c.requires.2 c.requires.3 c.from-i.ensures c.find_leg-e.ensures.0 c.if-e-tails.false, c.find_leg-e.ensures.1)
