-- THE COST THAT IS KEPT IS A DRIVE'S: the drive of a round is one of the plan itself, at its cost; so where all trees of some numbering are
-- tried, the least of them costs no more.
use Rattle.std.proofs.Common.{subst}
use Rattle.std.specs.Prelude.{List, ℕ, ◌≤◌, T}
use Rattle.postman.specs.Plan.{Plan}
use Rattle.postman.specs.Component.{component_count}
use Rattle.postman.specs.PlanCall.{is_whole}
use Rattle.postman.specs.Guarantee.{Guarantee}
use Rattle.postman.specs.Renumbering.{number_in, IsRenumberedDrive}
use Rattle.postman.specs.Steps.{Plannable}
use Rattle.postman_laws.specs.Laws.Optimality.{guaranteed}
use Rattle.postman_laws.specs.Laws.RenumberedMultipliers.{least_cost}
use Rattle.postman_laws.specs.Laws.RenumberedDescription.{drive_back}
use Rattle.multipliers.specs.Ascent.{multipliers_for}
use Rattle.multipliers.specs.Drive.{drive_of}
use Rattle.multipliers.specs.Laws.Drive.{answer_drive}
use Rattle.round_rule.specs.declared.trial.Trial.{Trial}
use Rattle.round_rule.specs.Rounds.{under, cost_of}
use Rattle.round_rule.specs.Trial.{IsTrial}
use Rattle.round_rule.specs.Laws.Tables.{under_few, under_plannable}
use Rattle.round_rule.specs.Laws.Kept.{u_of, under_multipliers}

module _ (p : Plan) (ok : Plannable p) (few : component_count p ≤ 8) (x : Trial) (h : IsTrial p x) where
  abbrev q : Plan
  q = under p x.numbering

  abbrev w : List ℕ
  w = drive_of q x.tries

  pub driven : IsRenumberedDrive p (number_in x.numbering.to) x.tries w
  driven =
      drive_back p h.numbers.numbers x.tries w
      (answer_drive q (under_plannable p ok x.numbering h.numbers) (under_few p ok.well_formed x.numbering h.numbers few)
      x.tries h.some_tries)

  pub whole_least : (y : Trial) → IsTrial p y → T (is_whole (under p y.numbering) y.tries) → cost_of p y ≤ cost_of p x
  whole_least y g t =
      let r = under p y.numbering in
      let u = u_of (multipliers_for r) in
      let s : Guarantee r y.tries u = guaranteed r (under_plannable p ok y.numbering g.numbers) y.tries g.some_tries u
      (under_multipliers p ok few y.numbering g.numbers) in
      subst (λ c. cost_of p y ≤ c) driven.costs (least_cost p g.numbers.numbers y.tries u s t w driven.drive)
