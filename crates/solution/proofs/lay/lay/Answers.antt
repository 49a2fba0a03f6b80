-- The state with the links added is the balancing of the plan with them, and its direct amounts complete it.
use native.Mathlib.Omega.{arith}
use Rattle.balance.specs.Records.{state_of}
use Rattle.multipliers.specs.Laws.Lay.{base_metric, state_certified, state_room, tree_joined, tree_short, amounts_are, amounts_complete}
use Rattle.solution.proofs.lay.lay.Goals as goal

pub direct_amounts-amounts-requires : goal.direct_amounts-amounts-requires
direct_amounts-amounts-requires c =
    let b = c.args.p.now.prepared.base in
    let t = c.requires.0 in
    let e = c.with_links-full.ensures in
    let j = tree_joined _ _ _ _ b _ _ t in
    let l = tree_short _ _ _ _ b _ _ t in
    let r = state_room _ _ _ b.known _ j (omega arith) _ e in
    (base_metric _ _ _ b.known, state_certified _ _ _ b.known _ j (omega arith) _ e, omega arith)

pub write_drive-requires : goal.write_drive-requires
write_drive-requires c =
    let b = c.args.p.now.prepared.base in
    let t = c.requires.0 in
    let full = c.with_links-full in
    let laid = c.direct_amounts-amounts in
    let a = amounts_are _ _ _ _ b _ _ t (state_of full.result) full.ensures laid.result laid.ensures in
    record {
      weighed = c.requires.2;
      completing = (t.same, amounts_complete _ _ _ _ b _ _ t _ a);
      room = c.requires.1;
    }

pub returns : goal.returns
returns c =
    let full = c.with_links-full in
    let laid = c.direct_amounts-amounts in
    let w = c.write_drive in
    let a = amounts_are _ _ _ _ c.args.p.now.prepared.base _ _ c.requires.0 (state_of full.result) full.ensures laid.result laid.ensures in
    record {
      sheet_written = rw a at w.ensures.places_written;
      place_count = rw a at w.ensures.place_count;
    }
