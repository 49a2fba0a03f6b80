-- At first nothing stands.
use Rattle.std.proofs.Common.{ℕ, refl, arith}
use Rattle.residual_search.specs.Laws.Fill.{zero_at}
use Rattle.tree_bounds.specs.Laws.Levelled.{put_start}
use Rattle.tree_bounds.proofs.put.put.Goals as goal

pub loop-v-init : goal.loop-v-init
loop-v-init g c = (put_start _ c.args.vs.now _ refl (λ v. zero_at {A = ℕ} 64 v 0), omega arith)
