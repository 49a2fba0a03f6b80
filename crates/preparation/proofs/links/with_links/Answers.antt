-- The state with the links added is the balancing of the plan with them.
use mathlib.Core.Path.{sym}
use mathlib.Core.List.{[]}
use native.Mathlib.Omega.{arith}
use Rattle.balance.specs.Records.{state_of}
use Rattle.multipliers.specs.Laws.Lay.{base_metric, state_certified, state_room, tree_length, tails_in, heads_in, full_is}
use Rattle.preparation.proofs.links.with_links.Goals as goal

pub add_all-requires : goal.add_all-requires
add_all-requires c =
    let b = c.args.p.now.prepared.base in
    let t = c.requires in
    let r = state_room _ _ _ b.known [] (λ l m. elim m [ ]) (omega arith) _ b.base_is in
    let n = tree_length _ _ _ _ b _ _ t in
    (base_metric _ _ _ b.known, state_certified _ _ _ b.known [] (λ l m. elim m [ ]) (omega arith) _ b.base_is, sym t.same, omega arith, tails_in _ _ _ _ b _ _ t, heads_in _ _ _ _ b _ _ t)

pub returns : goal.returns
returns c =
    full_is _ _ _ _ c.args.p.now.prepared.base _ _ c.requires (state_of c.add_all.result) c.add_all.ensures.0
