-- The multipliers that are answered, as a function of the plan: of those that 20 steps meet, from the greatest that are 0 at the lowest
-- required vertex on, the first that gives the largest L(u).
use Rattle.std.specs.Prelude.{Bool, false, ◌&&◌, List, [], map, eqb, ℤ}
use Rattle.std.proofs.Math.Bool.{cond}
use Prim.Native.Nat.{ℕ, ◌+◌, ◌-◌, ◌/◌, ◌%◌, min}
use Rattle.std.proofs.Math.IntN.{pos}
use Rattle.std.specs.Int.Signed.{lt_z}
use Rattle.postman.specs.Lists.{below, maxℤ}
use Rattle.postman.specs.Plan.{Plan}
use Rattle.postman.specs.Required.{required}
use Rattle.postman.specs.Component.{component, component_count}
use Rattle.postman.specs.LagrangianBound.{lagrangian_bound}
use Rattle.postman.specs.PlanCall.{root}
use Rattle.residual_search.specs.Search.{beyond}
use Rattle.postman.specs.Steps.{cell}
use Rattle.balance.specs.Balance.{balance}
use Rattle.balance.specs.Multipliers.{multipliers}
use Rattle.pair_costs.specs.PairCosts.{multipliers_in}
use Rattle.multiplier_steps.specs.Turns.{turns}
use Rattle.multiplier_steps.specs.Steps.{rooted, span}
use Rattle.ascent.specs.Step.{Step, step}
use Rattle.multiplier_steps.specs.Lawful.{are_lawful}
use Rattle.multipliers.specs.Drive.{table_of}

-- Where an ascent stands: the multipliers and those before the last step, the best multipliers met and their bound, the largest cost of a
-- tree met, the length of the next step, and whether a tree was balanced.
pub record Climb : Type 0 where
  pub multipliers : List ℤ
  pub before : List ℤ
  pub best : List ℤ
  pub bound : ℤ
  pub value : ℤ
  pub stride : ℕ
  pub done : Bool

-- Other multipliers are the best so far, with their bound.
abbrev pub improved : Climb → List ℤ → ℤ → Climb
improved c u l =
    record {
      multipliers = c.multipliers;
      before = c.before;
      best = u;
      bound = l;
      value = c.value;
      stride = c.stride;
      done = c.done;
    }

-- A step from c, at which the tree costs `value`. A ninth of the step's length is lost.
abbrev pub moved : Climb → Climb → Step → Climb
moved c b s =
    record {
      multipliers = s.multipliers;
      before = c.multipliers;
      best = b.best;
      bound = b.bound;
      value = maxℤ c.value s.value;
      stride = c.stride - c.stride / 9;
      done = s.balanced;
    }

-- The component of each vertex.
unfoldable pub components_of : Plan → List ℕ
unfolding below component
components_of p = map (component p) (below 64)

-- The greatest multipliers that are 0 at the lowest required vertex.
unfoldable pub greatest_of : Plan → List ℤ
unfolding multipliers balance required root table_of
greatest_of p = multipliers (cell (table_of p)) (required p) (balance (cell (table_of p)) p []) (root p)

module _ (p : Plan) where
  -- L(u)
  abbrev pub bound_of : List ℤ → ℤ
  bound_of u = lagrangian_bound p (multipliers_in u)

  -- The amounts of the required arcs; whether multipliers are lawful; these, once that of the root is taken off; and a step from c.
  abbrev pub amounts_of : List ℕ
  amounts_of = (balance (cell (table_of p)) p []).amounts

  abbrev pub is_lawful : List ℤ → Bool
  is_lawful x = are_lawful (table_of p) amounts_of x (required p)

  abbrev pub from_root : List ℤ → List ℤ
  from_root x = rooted x (required p)

  abbrev pub step_from : Climb → ℕ → Step
  step_from c i =
      step (table_of p) amounts_of (required p) (components_of p) (component_count p) (eqb (i % 2) 1) c.stride c.multipliers c.before

  -- The multipliers, 0 at the root, are the best so far, where they are lawful and their bound is larger.
  unfoldable pub attempt : Climb → Climb
  unfolding are_lawful rooted lagrangian_bound table_of balance required
  attempt c =
      let u = from_root c.multipliers in
      cond (is_lawful c.multipliers && lt_z c.bound (bound_of u)) (improved c u (bound_of u)) c

  -- Step i, unless a tree was balanced. Brought back from above and from below by turns.
  unfoldable pub climb : Climb → ℕ → Climb
  unfolding attempt step table_of balance required components_of component_count
  climb c i = let s = step_from c i in cond c.done c (moved c (cond (lt_z c.value s.value) (attempt c) c) s)

  unfoldable pub begin : Climb
  unfolding lagrangian_bound span table_of required greatest_of
  begin = record {
    multipliers = greatest_of p;
    before = greatest_of p;
    best = greatest_of p;
    bound = bound_of (greatest_of p);
    value = pos 0;
    stride = min (span (table_of p) (required p) / 24 + 1) beyond;
    done = false;
  }

  -- THE MULTIPLIERS THAT ARE ANSWERED: of all met, the first with the largest L(u).
  unfoldable pub multipliers_for : List ℤ
  unfolding turns climb begin
  multipliers_for = (turns climb begin 20).best
