-- A walk with an arc, taken apart at its last one. By induction on the walk.
use Rattle.std.specs.Prelude.{◌≡◌, refl, List, [], ◌∷◌, ℕ, suc, ◌+◌, ◌<◌, length, T}
use Rattle.std.proofs.Common.{sym, arith}
use Rattle.postman.specs.Plan.{Arc, is_open, arc_at}
use Rattle.postman.specs.Drive.{IsWalk, walk_cost}

-- the walk w from i to j is a walk and then arc `last`
pub record Ends (arcs : List Arc) (i : ℕ) (w : List ℕ) (j : ℕ) : Type 0 where
  pub before : List ℕ
  pub last : ℕ
  pub number : last < length arcs
  pub opens : T (is_open (arc_at arcs last))
  pub walk : IsWalk arcs i before (arc_at arcs last).tail
  pub head : (arc_at arcs last).head ≡ j
  pub size : suc (length before) ≡ length w
  pub costs : walk_cost arcs before + (arc_at arcs last).cost ≡ walk_cost arcs w

pub last_arc : (arcs : List Arc) (i k j : ℕ) (w : List ℕ) → IsWalk arcs i (k ∷ w) j → Ends arcs i (k ∷ w) j
last_arc arcs i k j [] h = record {
  before = [];
  last = k;
  number = h.0;
  opens = h.1;
  walk = sym h.2;
  head = h.3;
  size = refl;
  costs = omega arith;
}
last_arc arcs i k j (l ∷ w) h =
    let r = last_arc arcs (arc_at arcs k).head l j w h.3 in
    let s = r.size in
    let c = r.costs in
    record {
      before = k ∷ r.before;
      last = r.last;
      number = r.number;
      opens = r.opens;
      walk = (h.0, h.1, h.2, r.walk);
      head = r.head;
      size = omega arith;
      costs = omega arith;
    }
