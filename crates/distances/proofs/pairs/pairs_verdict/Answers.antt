-- The tests that the code makes are the definition's, in its order.
use mathlib.Core.Path.{◌≡◌}
use mathlib.Core.Bool.{true, false}
use Rattle.postman.specs.DistanceCall.{has_stray}
use Rattle.std.proofs.Common.{lt-ltb, le-ltb}
use Rattle.distances.specs.Laws.Pairs.{stray_refused, short_refused, pairs_good}
use Rattle.distances.proofs.pairs.pairs_verdict.Goals as goal

pub returns-then-has_stray : goal.returns-then-has_stray
returns-then-has_stray c = let e : has_stray c.args.n c.args.pairs.now ≡ true = cc in stray_refused _ _ _ e

pub returns-then-room-pairs : goal.returns-then-room-pairs
returns-then-room-pairs c = let e : has_stray c.args.n c.args.pairs.now ≡ false = cc in short_refused _ _ _ e (lt-ltb _ _ c.if-room-pairs.true)

pub returns : goal.returns
returns c = let e : has_stray c.args.n c.args.pairs.now ≡ false = cc in pairs_good _ _ _ e (le-ltb _ _ c.if-room-pairs.false)
