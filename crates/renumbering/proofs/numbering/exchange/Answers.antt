-- Both vertices are below 64.
use Rattle.std.proofs.Common.{refl, arith}
use Rattle.renumbering.specs.Numbering.{exchanged}
use Rattle.renumbering.specs.Laws.Numbering.{vertex_in}
use Rattle.renumbering.proofs.numbering.exchange.Goals as goal

pub bounds-x-from : goal.bounds-x-from
bounds-x-from c = omega (arith, vertex_in 64 (omega arith) _ c.requires.0 _ c.requires.1)

pub bounds-x-from-2 : goal.bounds-x-from-2
bounds-x-from-2 c = omega (arith, vertex_in 64 (omega arith) _ c.requires.0 _ c.requires.2)

pub returns : goal.returns
unfolding exchanged
returns c = rw (c.from.ensures, c.from-2.ensures) refl
