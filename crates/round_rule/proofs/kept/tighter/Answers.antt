-- The two cases of the definition.
use mathlib.Core.Path.{◌≡◌}
use mathlib.Core.Bool.{true, false}
use lib.Signed.{lt_z}
use mir.Val.{to_z, of_z}
use mir.Syntax.{w64}
use Rattle.round_rule.specs.Laws.Made.{floor_left, floor_taken}
use borrow.Author.Rules.{rules}
use Rattle.round_rule.proofs.kept.tighter.Goals as goal

pub returns-then-k-floor : goal.returns-then-k-floor
returns-then-k-floor c =
    let a : to_z w64 (of_z w64 c.args.k.floor) ≡ c.args.k.floor = search rules in
    let b : to_z w64 (of_z w64 c.args.floor) ≡ c.args.floor = search rules in
    let t : lt_z c.args.k.floor c.args.floor ≡ true = rw (a, b) at c.if-k-floor.true in
    floor_taken _ c.args.k _ _ _ t b

pub returns : goal.returns
returns c =
    let a : to_z w64 (of_z w64 c.args.k.floor) ≡ c.args.k.floor = search rules in
    let b : to_z w64 (of_z w64 c.args.floor) ≡ c.args.floor = search rules in
    let t : lt_z c.args.k.floor c.args.floor ≡ false = rw (a, b) at c.if-k-floor.false in
    floor_left _ c.args.k _ _ t
