-- Each part by what its function ensures, and by the laws that carry thinning and "cut off" from the table to the plan.
use mathlib.Core.Path.{ap, ◌∙◌}
use mathlib.Core.Bool.{Bool}
use mathlib.Core.List.{List}
use Rattle.plan.specs.Records.{plan_value}
use Rattle.network.specs.Thinning.{flag}
use Rattle.network.specs.Laws.CutOff.{cut_off}
use Rattle.network.specs.Laws.LinkPair.{held_links}
use Rattle.network.proofs.network.network_of.Goals as goal

pub returns : goal.returns
returns c =
    let p = plan_value c.args.good.now.plan in
    let r = c.required-required.ensures in
    let flags = c.required-required.result in
    let h = c.pairs.ensures in
    record {
      required = r;
      components = c.components_of-parts.ensures;
      links = λ i j hi hj. ap (λ (h : List Bool). flag h i j) c.thin-links.ensures ∙ held_links p c.args.good.now.well_formed c.args.table.now flags c.requires r _ h.0 h.1 i j hi hj;
      imbalance = c.imbalance-imbalance.ensures;
      required_cost_holds = c.required_cost.ensures;
      cut_off = c.is_cut_off.ensures ∙ cut_off p c.args.good.now.well_formed c.args.table.now _ c.requires r;
    }
