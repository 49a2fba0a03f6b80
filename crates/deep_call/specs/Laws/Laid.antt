-- The drive of the tree that is held is the definition's, and so is the answer that is made of it and of what is kept.
use Rattle.std.specs.Prelude.{◌≡◌, refl, Ok, Bool, List, ℕ, ◌-◌, ◌≤◌, length, ℤ, pos}
use Rattle.std.proofs.Math.Path.{ap}
use Rattle.std.proofs.Common.{◌∙◌, arith}
use Rattle.std.proofs.Math.Option.{none}
use Rattle.std.specs.Int.Signed.{le_z}
use Rattle.postman.specs.Plan.{Plan, WellFormed}
use Rattle.postman.specs.Component.{component_count}
use Rattle.postman_laws.specs.Laws.RenumberedComponents.{count_renumbered}
use Rattle.drive_legs.specs.Drive.{written}
use Rattle.multipliers.specs.Drive.{drive_of}
use Rattle.call_steps.specs.Refusals.{plan_refusal}
use Rattle.held_tree.specs.declared.laid.Laid.{Laid}
use Rattle.round_rule.specs.declared.kept.Kept.{Kept}
use Rattle.round_rule.specs.Rounds.{under, have_met, kept_after, kept, deep_summary, deep_drive}
use Rattle.round_rule.specs.Laws.Tables.{plan_accepted}
use Rattle.rounds.specs.Laws.Round.{is_kept_after}
use Rattle.deep_call.specs.Contract.{IsDeep}
use Rattle.deep_call.specs.Laws.Answer.{is_deep}

module _ (p : Plan) (ok : WellFormed p) (accepted : plan_refusal p ≡ none) (budget : ℕ) (some-trees : 1 ≤ budget) (low : budget ≤ 1000000)
    (rounds : ℕ) (few_rounds : rounds ≤ 1000) (k : Kept) (e : k ≡ kept_after p budget (rounds - 1)) (old new : List ℕ) (a : Laid)
    (sheet : new ≡ written (drive_of (under p k.drive.numbering) k.drive.tries) old)
    (places : a.places ≡ length (drive_of (under p k.drive.numbering) k.drive.tries))
    (parts : a.parts ≡ component_count (under p k.drive.numbering)) where
  as_kept : k ≡ kept p budget rounds
  unfolding kept
  as_kept = e

  parts_are : a.parts ≡ component_count p
  parts_are = parts
      ∙ count_renumbered p ok (is_kept_after p ok accepted budget some-trees low (rounds - 1) k (omega arith) e).drive_numbering.numbers

  laid_drive : drive_of (under p k.drive.numbering) k.drive.tries ≡ deep_drive p budget rounds
  unfolding deep_drive
  laid_drive = ap (λ (k : Kept). drive_of (under p k.drive.numbering) k.drive.tries) as_kept

  fields_are : (f : ℤ) (b : Bool) → f ≡ k.floor → b ≡ le_z (pos k.cost) f
      → record { cost = k.cost; floor = f; trees = k.trees; whole = b; parts = a.parts } ≡ deep_summary p budget rounds
  unfolding deep_summary have_met
  fields_are f b ef eb =
      (λ j. record { cost = k.cost; floor = ef j; trees = k.trees; whole = (eb ∙ ap (le_z (pos k.cost)) ef) j; parts = parts_are j })
      ∙ ap (λ (k : Kept). record {
        cost = k.cost;
        floor = k.floor;
        trees = k.trees;
        whole = le_z (pos k.cost) k.floor;
        parts = component_count p;
      }) as_kept

  pub laid_best : (f : ℤ) (b : Bool) → f ≡ k.floor → b ≡ le_z (pos k.cost) f
      → IsDeep p budget rounds none old new
      (Ok (record {
        places = a.places;
        cost = k.cost;
        floor = f;
        trees = k.trees;
        whole = b;
        parts = a.parts;
        multipliers = k.multipliers;
      }))
  laid_best f b ef eb =
      let ac = plan_accepted p ok accepted in
      is_deep p ac.0 ac.1 budget some-trees low rounds few_rounds old new _ (sheet ∙ ap (λ (w : List ℕ). written w old) laid_drive)
      (places ∙ ap length laid_drive) refl (fields_are f b ef eb) (ap (λ (k : Kept). k.multipliers) as_kept)
