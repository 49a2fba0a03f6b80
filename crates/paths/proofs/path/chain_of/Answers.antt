-- The invariant: the chain of the arcs from the kth on.
use mathlib.Core.Path.{◌≡◌, subst}
use mathlib.Core.List.{List}
use Prim.Native.Nat.{ℕ, ◌+◌, ◌-◌, ◌≤◌, ◌<◌}
use native.Mathlib.Omega.{arith}
use lib.ListN.{length, get_or, set}
use Rattle.paths.specs.Leaving.{tail_of}
use Rattle.paths.specs.Laws.Leaving.{IsChainFrom, chain_none, chain_more}
use Rattle.paths.proofs.path.chain_of.Goals as goal

module _ (arcs : List (List ℕ)) (tails : (k : ℕ) → k < length arcs → tail_of arcs k < 64) {chain : List ℕ} {k t : ℕ} (h : IsChainFrom arcs chain k) (l : 0 < k) (e : t ≡ tail_of arcs (k - 1)) where
  low : t < 64
  low = let f = h.few in let a = tails (k - 1) (omega arith) in omega arith

  linked : length arcs ≤ 256 → IsChainFrom arcs (set (set chain (64 + (k - 1)) (get_or chain t 0)) t (k - 1)) (k - 1)
  linked few = let f = h.few in chain_more arcs chain (k - 1) t few (omega arith) low e (subst (IsChainFrom arcs chain) (omega arith) h)

pub loop-k-init : goal.loop-k-init
loop-k-init c = chain_none _

pub loop-k-preserved : goal.loop-k-preserved
loop-k-preserved c =
    linked c.args.arcs.now c.requires.1 c.loop-k.invariant c.loop-k-test.true c.from-t.ensures c.requires.0
