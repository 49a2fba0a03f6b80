-- The plan by value has as many vertices as its plan.
use mathlib.Core.Path.{subst, subst⁻¹}
use Rattle.plan.specs.Laws.Records.{plan_vertices, record_vertices}
use Rattle.renumbering.specs.Numbering.{IsNumberingOf}
use Rattle.round_rule.specs.Laws.Made.{exchanged_as}
use Rattle.round_rule.specs.Laws.Kept.{numbers_kept}
use Rattle.round_rule.proofs.trial.exchanges.Goals as goal

pub shuffle-d-requires : goal.shuffle-d-requires
shuffle-d-requires c =
    let n = record_vertices _ c.args.good.now.well_formed in
    let h = subst⁻¹ (IsNumberingOf _) c.numbers_of.ensures (numbers_kept _ c.args.k c.requires.numbering c.requires.drive.numbers) in
    rw c.from.ensures (subst (λ n. IsNumberingOf n c.numbers_of.result) (plan_vertices _) h, n.0, n.1, c.requires.random_in)

pub returns : goal.returns
returns c = exchanged_as _ _ c.args.k _ _ c.numbers_of.ensures (rw c.from.ensures at c.shuffle-d.ensures)
