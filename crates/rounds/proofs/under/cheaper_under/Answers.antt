-- The table is renumbered, and so it is that of the plan under the numbering, which is refused as the plan is.
use mathlib.Core.Path.{◌≡◌, ap, ◌∙◌, subst⁻¹}
use native.Mathlib.Omega.{arith}
use lib.ListN.{length}
use Rattle.postman.specs.Plan.{Plan, WellFormed}
use Rattle.multipliers.specs.Drive.{table_of}
use Rattle.multipliers.specs.Laws.Table.{rows}
use Rattle.call_steps.specs.Refusals.{plan_refusal}
use Rattle.tree_search.specs.Improved.{CanImprove}
use Rattle.round_rule.specs.Laws.Tables.{under_well_formed, under_refusal, under_table}
use Rattle.rounds.proofs.under.cheaper_under.Goals as goal

pub invariant_of-under-clause-well_formed : goal.invariant_of-under-clause-well_formed
invariant_of-under-clause-well_formed c =
    subst⁻¹ WellFormed c.renumber-q.ensures (under_well_formed _ c.args.m.now.good.now.well_formed _ c.requires.1.numbers)

pub invariant_of-under-2 : goal.invariant_of-under-2
invariant_of-under-2 c =
    let ok = c.args.m.now.good.now.well_formed in
    let x = c.requires.1.numbers in
    let t = c.renumber_table-d in
    let long : length t.result ≡ 64 = t.type_inv.1.0.1 in
    record {
      has_table = subst⁻¹ (λ (r : Plan). t.result ≡ table_of r) c.renumber-q.ensures
          (under_table _ ok _ x _ t.result c.args.m.now.has_table long (λ i l. rows t.result t.type_inv.0 t.type_inv.1.1 i (omega arith)) t.ensures);
    }

pub cheaper_tabled-requires : goal.cheaper_tabled-requires
cheaper_tabled-requires c =
    let ok = c.args.m.now.good.now.well_formed in
    let x = c.requires.1.numbers in
    let v = c.renumber-q.ensures in (
      ap plan_refusal v ∙ under_refusal _ ok _ x ∙ c.requires.0,
      subst⁻¹ (λ (r : Plan). CanImprove r c.args.cost c.args.before c.args.x.tries) v c.requires.2,
    )
