-- A file that is held, and read to be changed.
use Rattle.std.specs.Prelude.{◌≡◌, List, ℕ, ◌≤◌, Result, Ok, Err, IsErrAnd}
use Rattle.std.proofs.Common.{sym}
use Rattle.postman.specs.PlanFile.{file_of}
use Rattle.postman.specs.OpenPlan.{Change, changed_plan, change_refusal}
use Rattle.plan.specs.Records.{plan_value}
use Rattle.plan.specs.Laws.Records.{record_arcs}
use Rattle.plan_file.specs.declared.Reading.{Reading}
use Rattle.plan_file.specs.Reading.{IsReading}
use Rattle.plan_file.specs.Laws.Reading.{accepted_edition, accepted_value, read_good}
use Rattle.refusal.specs.declared.Refusal.{Refusal}
use Rattle.refusal.specs.Verdict.{refusal_number}
use Rattle.held_file.specs.declared.Held.{Held}
use Rattle.held_file.specs.Held.{IsHeld}
use Rattle.held_file.specs.Change.{changed_file, file_change_refusal}
use Rattle.held_file.specs.Laws.Held.{stopped_held}
use Rattle.held_file.specs.Laws.Change.{unread, read_on, changed_file_lem}

-- A plan that was read has at most 256 arcs.
pub few_records : (bytes : List ℕ) (r : Reading) → IsReading bytes (Ok r) → r.plan.m ≤ 256
few_records bytes r i = record_arcs r.plan (read_good i)

module _ (bytes : List ℕ) (c : Change) where
  pub stopped_unread : (q : Refusal) (w : Result Held Refusal) → IsReading bytes (Err q) → IsErrAnd w (λ s. s ≡ q)
      → IsHeld (file_change_refusal bytes c) (changed_file bytes c) w
  stopped_unread q w i h = stopped_held _ q _ w h (unread bytes c (refusal_number q) (sym i.verdict))

  pub change_read : (r : Reading) (w : Result Held Refusal) → IsReading bytes (Ok r)
      → IsHeld (change_refusal r.edition (plan_value r.plan) c) (file_of r.edition (changed_plan (plan_value r.plan) c)) w
      → IsHeld (file_change_refusal bytes c) (changed_file bytes c) w
  change_read r w i h =
      let e = sym i.verdict in
      rw (read_on bytes c e, changed_file_lem bytes c) (rw (accepted_edition bytes (Ok r) i e, accepted_value bytes (Ok r) i e) at h)
