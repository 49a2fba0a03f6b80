-- What is left of the sweeps, from what the loop holds, is what the multipliers come to. Assumes nothing.
use mathlib.Core.Path.{◌≡◌}
use Prim.Native.Nat.{◌-◌}
use Rattle.multiplier_steps.specs.Steps.{capped_all}
use Rattle.ascent.specs.Relax.{sweeps, settled}
use Rattle.ascent.proofs.relax.Pairs.settle.Given as goal

abbrev pub invariant-loop : goal.invariant-loop
invariant-loop l = capped_all (sweeps l.self.d.now l.self.f.now l.self.up l.self.vs.vertices.now (64 - l.counter) (l.y, l.marks)).0 l.self.vs.vertices.now ≡ settled l.self.d.now l.self.f.now l.self.up l.self.vs.vertices.now l.initial.y
