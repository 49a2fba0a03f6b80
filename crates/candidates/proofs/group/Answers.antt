-- The invariant: the places of the components below q are listed, and the starts up to q are theirs.
use mathlib.Core.Path.{sym, ap, ◌∙◌}
use mathlib.Core.List.{List, ◌++◌}
use Prim.Native.Nat.{ℕ, ◌+◌}
use native.Mathlib.Omega.{arith}
use lib.ListN.{length-set, length-replicate}
use Rattle.candidates.specs.Places.{places_of}
use Rattle.candidates.specs.Laws.Holds.{holds_none, holds_as, holds_length}
use Rattle.candidates.specs.Laws.Places.{before_one, before_more, starts_none, starts_more, room_for}
use Rattle.candidates.proofs.group.Goals as goal

pub loop-q-init : goal.loop-q-init
loop-q-init c =
    let s = c.args in
    let p = c.requires.0 in
    record {
      within = omega arith;
      sized = length-replicate {A = ℕ} 9 0;
      starts = starts_none s.links.now s.component.now;
      listed = holds_as (holds_none 4096) (sym (before_one s.links.now s.component.now));
    }

pub scan-requires : goal.scan-requires
scan-requires c =
    let s = c.args in
    let h = c.loop-q.invariant.listed in
    (room_for s.links.now s.component.now c.loop-q.q c.loop-q.places.count c.loop-q.auto.q (holds_length h), h.size)

pub loop-q-preserved : goal.loop-q-preserved
loop-q-preserved c =
    let s = c.args in
    let i = c.loop-q.invariant in
    let p = c.requires.1 in
    let z = i.sized in
    let h = holds_as c.scan.ensures
    (ap (λ (l : List ℕ). l ++ places_of s.links.now s.component.now c.loop-q.q) i.listed.content ∙ sym (before_more s.links.now s.component.now c.loop-q.q c.loop-q.auto.q)) in
    record {
      within = omega arith;
      sized = length-set c.loop-q.start (c.loop-q.q + 1) _ ∙ i.sized;
      starts = starts_more s.links.now s.component.now c.loop-q.q c.loop-q.start _ (omega arith) i.starts (holds_length h);
      listed = h;
    }
