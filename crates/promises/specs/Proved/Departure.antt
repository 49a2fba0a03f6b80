-- The plan call at a departure, proved.
use Rattle.postman_laws.specs.Laws.Theorem.{cut_off_at}
use Rattle.windows.specs.Laws.Theorem.{as_plan_call, raised_budget_at}
use Rattle.promises.specs.Departure.{FirstDemand, CutOff, SecondDemand, WrittenAvoids, ThirdDemand, FloorOfAvoiding, OneAnswer, RaisedBudget, NoWindows}
use Rattle.promises.specs.Laws.Demands.{refuses, drives, bounds}
use Rattle.promises.specs.Laws.Equal.{equal_calls}

pub first_demand : FirstDemand
first_demand bytes budget windows d sheet c = refuses c.contract.planned

pub cut_off : CutOff
cut_off = cut_off_at

pub second_demand : SecondDemand
second_demand bytes budget windows d sheet c = drives c.contract.planned

pub written_avoids : WrittenAvoids
written_avoids bytes budget windows d sheet c good =
    (c.contract.written_drive good, c.contract.written_avoids good, c.contract.written_cost good)

pub third_demand : ThirdDemand
third_demand bytes budget windows d sheet c = bounds c.contract.planned

pub floor_of_avoiding : FloorOfAvoiding
floor_of_avoiding bytes budget windows d sheet c good = c.contract.below_every_drive good

pub one_answer : OneAnswer
one_answer bytes budget windows d sheet c c' = equal_calls c.contract.planned c'.contract.planned

pub raised_budget : RaisedBudget
raised_budget bytes b b' windows d sheet sheet' c c' more = raised_budget_at _ _ _ _ _ more _ _ _ _ _ _ c.contract c'.contract

pub no_windows : NoWindows
no_windows bytes budget d sheet c c' good =
    equal_calls (as_plan_call bytes budget d good sheet _ _ c.contract).planned c'.contract.planned
