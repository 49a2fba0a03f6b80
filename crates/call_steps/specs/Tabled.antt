-- The plan whose tables are lent.
use Rattle.postman.specs.Plan.{Plan}
use Rattle.plan.specs.GoodPlan.{good_plan}
use Rattle.call_steps.specs.declared.measured.Measured.{Measured}
use Rattle.call_steps.specs.declared.tabled.Tabled.{Tabled}

abbrev pub measured_plan : Measured → Plan
measured_plan m = good_plan m.good.now

abbrev pub tabled_plan : Tabled → Plan
tabled_plan t = good_plan t.good.now
