-- What a step by value stands for.
use Rattle.ascent.specs.declared.step.Stepped.{Stepped}
use Rattle.ascent.specs.Step.{Step}

abbrev pub step_of : Stepped → Step
step_of r = record { multipliers = r.multipliers; value = r.value; balanced = r.balanced }
