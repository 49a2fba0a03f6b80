-- A plan file of which one arc is changed.
use Rattle.std.specs.Prelude.{List, ℕ}
use Rattle.std.proofs.Math.Option.{Option}
use Rattle.postman.specs.Refusal.{first_refusal}
use Rattle.postman.specs.PlanFile.{edition, plan_of, file_of, file_conditions}
use Rattle.postman.specs.OpenPlan.{Change, changed_plan, change_refusal}
use Rattle.refusal.specs.Verdict.{or_else}
use Rattle.held_file.specs.declared.change.Change.{Change as ChangeRecord}

-- A change by its numbers.
abbrev pub change_of : ℕ → ℕ → ℕ → ℕ → Change
change_of arc cost service standing = record { arc = arc; cost = cost; service = service; standing = standing }

abbrev pub change_in : ChangeRecord → Change
change_in c = change_of c.arc c.cost c.service c.standing

-- The file of a file's plan with an arc changed, in the file's edition.
unfoldable pub changed_file : List ℕ → Change → List ℕ
unfolding file_of edition changed_plan plan_of
changed_file bytes c = file_of (edition bytes) (changed_plan (plan_of bytes) c)

-- A file that does not read is refused for what reading refuses; else the change is refused as its plan says.
unfoldable pub file_change_refusal : List ℕ → Change → Option ℕ
unfolding first_refusal file_conditions change_refusal edition plan_of
file_change_refusal bytes c = or_else (first_refusal (file_conditions bytes)) (change_refusal (edition bytes) (plan_of bytes) c)
