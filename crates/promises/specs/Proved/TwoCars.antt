-- Two cars, proved.
use Rattle.two_cars.specs.Laws.Theorem.{raised_budget_car}
use Rattle.two_cars.specs.Laws.Own.{as_plan_call}
use Rattle.promises.specs.TwoCars.{EachCar, FirstAlone, SecondAlone, FileRefusal, FirstDemand, CutOff, SecondDemand, ThirdDemand, RaisedBudget, OwnMarks}
use Rattle.promises.specs.Laws.Demands.{refuses, drives, bounds, file_refused_car}
use Rattle.promises.specs.Laws.Equal.{equal_calls}

pub each_car : EachCar
each_car bytes a b c = (c.contract.first, c.contract.second)

pub first_alone : FirstAlone
first_alone bytes a b b' c d = equal_calls c.contract.first.planned d.contract.first.planned

pub second_alone : SecondAlone
second_alone bytes a a' b c d = equal_calls c.contract.second.planned d.contract.second.planned

pub file_refusal : FileRefusal
file_refusal bytes a b c k e = (file_refused_car c.contract.first e, file_refused_car c.contract.second e)

pub first_demand : FirstDemand
first_demand bytes g c = refuses c.contract.planned

pub cut_off : CutOff
cut_off bytes g c = c.contract.cut_off

pub second_demand : SecondDemand
second_demand bytes g c = drives c.contract.planned

pub third_demand : ThirdDemand
third_demand bytes g c = bounds c.contract.planned

pub raised_budget : RaisedBudget
raised_budget bytes marks b b' sheet sheet' c d more = raised_budget_car _ _ _ _ more _ _ _ _ _ _ c.contract d.contract

pub own_marks_lem : OwnMarks
own_marks_lem bytes budget sheet c d = equal_calls (as_plan_call _ _ _ _ _ c.contract).planned d.contract.planned
