-- The arrays hold the network of the plan.
use mathlib.Core.Path.{ap}
use Rattle.postman.specs.Steps.{cell}
use Rattle.balance.specs.Laws.Step.{vertices_small}
use Rattle.residual_search.specs.Step.{State}
use Rattle.plan.specs.Records.{plan_value}
use Rattle.multipliers.specs.Laws.Lay.{base_metric}
use Rattle.multipliers.specs.Laws.Solve.{greatest_is}
use borrow.Author.Rules.{rules}
use Rattle.multipliers.proofs.ascend.multipliers_for.Goals as goal

pub invariant_of-ascent : goal.invariant_of-ascent
invariant_of-ascent c = record {
  below_64 = vertices_small (cell c.args.table.now) c.args.vs.now (base_metric (plan_value c.args.good.now.plan) c.args.table.now c.args.vs.now c.requires.0.known);
}

pub ascend-requires : goal.ascend-requires
ascend-requires c =
    let b = c.requires.0 in
    let n = c.requires.1 in (
      plan_value c.args.good.now.plan,
      record {
        known = b.known;
        amounts_are = ap (λ (s : State). s.amounts) b.base_is;
        required_long = search rules;
        required_flags = n.required;
        component_long = search rules;
        components = n.components;
        cost = n.required_cost_holds;
        imbalance = n.imbalance;
      },
      greatest_is _ _ _ _ b _ c.requires.2,
    )

pub returns : goal.returns
returns c =
    let b = c.requires.0 in
    let n = c.requires.1 in
    c.ascend.ensures (plan_value c.args.good.now.plan) (record {
      known = b.known;
      amounts_are = ap (λ (s : State). s.amounts) b.base_is;
      required_long = search rules;
      required_flags = n.required;
      component_long = search rules;
      components = n.components;
      cost = n.required_cost_holds;
      imbalance = n.imbalance;
    }) (greatest_is _ _ _ _ b _ c.requires.2)
