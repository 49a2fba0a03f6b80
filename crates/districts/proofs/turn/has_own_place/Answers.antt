-- A place of 8 or more is none; else the others are looked through.
use native.Mathlib.Omega.{arith}
use Rattle.std.proofs.Common.{sym, ◌∙◌, le-ltb}
use Rattle.districts.specs.Laws.Turned.{no_place, own_is}
use Rattle.districts.proofs.turn.has_own_place.Goals as goal

pub returns-else-place-lt8 : goal.returns-else-place-lt8
returns-else-place-lt8 c = λ d e. le-ltb c.args.place 8 c.if-place-lt8.false ∙ sym (no_place d _ (omega arith))

pub returns-then-place-lt8 : goal.returns-then-place-lt8
returns-then-place-lt8 c = λ d e. own_is d _ _ c.is_taken.result e (omega arith) c.is_taken.ensures
