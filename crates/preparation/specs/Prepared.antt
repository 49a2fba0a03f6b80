-- The plan that is prepared.
use Rattle.postman.specs.Plan.{Plan}
use Rattle.plan.specs.GoodPlan.{good_plan}
use Rattle.preparation.specs.declared.prepared.Prepared.{Prepared}

abbrev pub prepared_plan : Prepared → Plan
prepared_plan p = good_plan p.good.now
