-- The plan call, proved.
use Rattle.postman.specs.PlanCall.{default_budget}
use Rattle.postman_laws.specs.Laws.Theorem.{cut_off}
use Rattle.planner.specs.Laws.Theorem.{raised_budget_call}
use Rattle.promises.specs.PlanCall.{FirstDemand, CutOff, SecondDemand, ThirdDemand, OneAnswer, OwnMultipliers, RaisedBudget, ShortCall}
use Rattle.promises.specs.Laws.Demands.{refuses, drives, bounds, equal_multipliers}
use Rattle.promises.specs.Laws.Equal.{equal_calls}

pub first_demand : FirstDemand
first_demand bytes budget sheet c = refuses c.contract.planned

pub cut_off_exactly : CutOff
cut_off_exactly = cut_off

pub second_demand : SecondDemand
second_demand bytes budget sheet c good = drives c.contract.planned good

pub third_demand : ThirdDemand
third_demand bytes budget sheet c good = bounds c.contract.planned good

pub one_answer : OneAnswer
one_answer bytes budget sheet c d = equal_calls c.contract.planned d.contract.planned

pub own_multipliers : OwnMultipliers
own_multipliers bytes bytes' b b' sheet sheet' c d = equal_multipliers c.contract.planned d.contract.planned

pub raised_budget : RaisedBudget
raised_budget bytes b b' sheet sheet' c d more = raised_budget_call _ _ _ more _ _ _ _ _ _ c.contract d.contract

pub short_call : ShortCall
unfolding default_budget
short_call bytes sheet short c = one_answer bytes default_budget sheet short c
