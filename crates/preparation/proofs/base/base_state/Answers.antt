-- The legs are the required arcs, so adding them to the empty state gives the balancing of the plan.
use mathlib.Core.Path.{◌≡◌, subst⁻¹}
use Prim.Native.Nat.{ℕ, ◌+◌, ◌≤◌}
use native.Mathlib.Omega.{arith}
use Rattle.residual_search.specs.Step.{State, empty as empty_state}
use Rattle.balance.specs.Invariant.{Certified}
use Rattle.balance.specs.Laws.Arcs.{empty_certified}
use Rattle.multipliers.specs.Laws.Lay.{base_metric, is_gathered, base_from}
use Rattle.preparation.proofs.base.base_state.Goals as goal

-- an empty state has room
room : {s : State} {n : ℕ} → s ≡ empty_state → n ≤ 1000 → s.count + n ≤ 1000
unfolding empty_state
room {n = n} e l = subst⁻¹ (λ (s : State). s.count + n ≤ 1000) e (omega arith)

pub add_all-requires : goal.add_all-requires
add_all-requires c =
    let b = c.requires in
    let g = is_gathered _ _ _ b _ c.gather-arcs.ensures in
    let e = c.empty.ensures in
    let f = g.few in
    rw (c.tails.ensures, c.heads.ensures)
    (base_metric _ _ _ b, subst⁻¹ (Certified _ _) e (empty_certified _ _), g.same, room e (omega arith), g.tails_in, g.heads_in)

pub returns : goal.returns
returns c =
    base_from _ _ _ c.requires _ c.gather-arcs.ensures c.empty.ensures (rw (c.tails.ensures, c.heads.ensures) at c.add_all.ensures.0)
