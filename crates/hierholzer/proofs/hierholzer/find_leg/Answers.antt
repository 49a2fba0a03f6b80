-- The search begins at the hint, and what it finds is the new one.
use mathlib.Core.Path.{subst⁻¹}
use native.Mathlib.Omega.{arith}
use lib.ListN.{set}
use Rattle.hierholzer.specs.Held.{Hints}
use Rattle.hierholzer.specs.Laws.Hints.{hints_found, found_le}
use Rattle.hierholzer.proofs.hierholzer.find_leg.Goals as goal

pub overflow_cast-hints : goal.overflow_cast-hints
overflow_cast-hints c =
    let m = found_le c.args.tails.now c.args.used.now c.args.v in
    let e = c.next_leg-e.ensures in
    let n = c.requires.0 in
    omega arith

pub returns : goal.returns
returns c =
    let w = c.from-i.ensures in
    let e = c.next_leg-e.ensures in
    (e, subst⁻¹ (λ i. Hints c.args.tails.now c.args.used.now (set c.args.hints.now i c.next_leg-e.result)) w (hints_found c.args.tails.now c.args.used.now c.args.hints.now c.requires.1 c.args.v (omega arith) e))
