-- The components from q on are summed.
use Rattle.std.proofs.Common.{List, ℕ, ◌+◌, ◌*◌, ◌≤◌}
use Rattle.postman.specs.Plan.{Plan}
use Rattle.tree_bounds.specs.Bound.{Low}
use Rattle.tree_bounds.specs.Prepared.{Prepared}
use Rattle.tree_bounds.proofs.field.Field.rest.Given as goal

abbrev pub invariant-loop-q : goal.invariant-loop-q
invariant-loop-q l =
    let c = l.self.candidates.now in
    (l.a ≤ l.q) × (l.q ≤ l.self.k) × (l.sum + l.q * 4000000000 ≤ 32000000000)
    × ((x : Plan) (vs source : List ℕ) → Prepared x l.self.d.now vs c.start source c.tails c.heads l.self.k → Low x l.self.d.now l.p l.sum l.q)
