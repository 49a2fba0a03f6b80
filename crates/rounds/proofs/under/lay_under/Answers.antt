-- The tables are renumbered, and so they are those of the plan under the numbering, which is refused as the plan is.
use mathlib.Core.Path.{◌≡◌, ap, ◌∙◌, subst⁻¹}
use mathlib.Core.List.{List}
use Prim.Native.Nat.{ℕ}
use native.Mathlib.Omega.{arith}
use lib.ListN.{length}
use Rattle.postman.specs.Plan.{Plan, WellFormed}
use Rattle.postman.specs.Component.{component_count}
use Rattle.shortest.specs.StepContracts.{AreWeights}
use Rattle.drive_legs.specs.Drive.{written}
use Rattle.multipliers.specs.Drive.{table_of}
use Rattle.multipliers.specs.Laws.Table.{rows}
use Rattle.call_steps.specs.Refusals.{plan_refusal}
use Rattle.tree_search.specs.Resumed.{HoldsTree}
use Rattle.held_tree.specs.Laws.Cheaper.{best_holds}
use Rattle.round_rule.specs.Laws.Tables.{plan_accepted, under_well_formed, under_refusal, under_few, under_table, under_weights, under_plannable}
use Rattle.rounds.specs.Laws.Held.{laid_as}
use Rattle.rounds.proofs.under.lay_under.Goals as goal

pub invariant_of-under-clause-well_formed : goal.invariant_of-under-clause-well_formed
invariant_of-under-clause-well_formed c =
    subst⁻¹ WellFormed c.renumber-q.ensures (under_well_formed _ c.args.t.now.good.now.well_formed _ c.requires.1.numbers)

pub invariant_of-under-2-clause-has_table : goal.invariant_of-under-2-clause-has_table
invariant_of-under-2-clause-has_table c =
    let m = c.args.t.now in
    let t = c.renumber_table-d in
    let long : length t.result ≡ 64 = t.type_inv.1.0.1 in
    subst⁻¹ (λ (r : Plan). t.result ≡ table_of r) c.renumber-q.ensures
    (under_table _ m.good.now.well_formed _ c.requires.1.numbers _ t.result m.has_table long
    (λ i l. rows t.result t.type_inv.0 t.type_inv.1.1 i (omega arith)) t.ensures)

pub invariant_of-under-2-clause-weighed : goal.invariant_of-under-2-clause-weighed
invariant_of-under-2-clause-weighed c =
    let m = c.args.t.now in
    let w = c.renumber_table-w in
    subst⁻¹ (λ (r : Plan). AreWeights r w.result) c.renumber-q.ensures
    (under_weights _ m.good.now.well_formed _ c.requires.1.numbers c.args.t.now.weights.now w.result c.args.t.now.weighed w.ensures)

pub lay_tabled-requires : goal.lay_tabled-requires
lay_tabled-requires c =
    let ok = c.args.t.now.good.now.well_formed in
    let x = c.requires.1.numbers in
    let v = c.renumber-q.ensures in
    let a = plan_accepted _ ok c.requires.0 in
    let h = best_holds _ (under_plannable _ a.0 _ x) (under_few _ ok _ x a.1) _ c.requires.1.some_tries c.args.g c.requires.2 in (
      ap plan_refusal v ∙ under_refusal _ ok _ x ∙ c.requires.0,
      subst⁻¹ (λ (r : Plan). HoldsTree r c.args.g.tails c.args.g.heads) v h,
      c.requires.3,
    )

pub returns : goal.returns
returns c =
    let v = c.renumber-q.ensures in
    let l = c.lay_tabled.ensures in
    let e = laid_as _ _ _ c.args.g v c.requires.2 in
    (l.0 ∙ ap (λ (w : List ℕ). written w c.args.sheet.now) e, l.1 ∙ ap length e, l.2 ∙ ap component_count v)
