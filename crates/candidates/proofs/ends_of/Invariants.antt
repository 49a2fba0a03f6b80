-- The invariant: the entries below m are right.
use Rattle.std.proofs.Common.{◌≡◌, length}
use Rattle.candidates.specs.Places.{AreEnds}
use Rattle.candidates.proofs.ends_of.Given as goal

abbrev pub invariant-loop-m : goal.invariant-loop-m
invariant-loop-m l = (length l.source ≡ 4096) × (length l.tails ≡ 4096) × (length l.heads ≡ 4096) × AreEnds l.component l.list l.m l.source l.tails l.heads
