-- A plan that is written and read back.
use Rattle.std.specs.Prelude.{◌≡◌, ℕ, Result}
use Rattle.postman.specs.PlanFile.{write_refusal}
use Rattle.plan.specs.declared.Plan.{Plan}
use Rattle.plan_file.specs.declared.Reading.{Reading}
use Rattle.refusal.specs.declared.Refusal.{Refusal}
use Rattle.refusal.specs.Verdict.{verdict_number}
use Rattle.plan.specs.Records.{plan_value, plan_record}
use Rattle.plan_file.specs.Reading.{edition_unless, plan_unless, edition_in, plan_in}

-- The refusal of writing, if there is one; and the same edition, the same n, the same m and the same arcs.
pub record IsReread (e : ℕ) (p : Plan) (r : Result Reading Refusal) : Type 0 where
  pub verdict : verdict_number r ≡ write_refusal e (plan_value p) 1475
  pub edition_is : edition_in r ≡ edition_unless (write_refusal e (plan_value p) 1475) e
  pub plan : plan_in r ≡ plan_record (plan_unless (write_refusal e (plan_value p) 1475) (plan_value p))
