-- The plan that a good plan stands for.
use Rattle.postman.specs.Plan.{Plan}
use Rattle.plan.specs.declared.good_plan.GoodPlan.{GoodPlan}
use Rattle.plan.specs.Records.{plan_value}

abbrev pub good_plan : GoodPlan → Plan
good_plan g = plan_value g.plan
