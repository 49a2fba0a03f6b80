-- A refusal's answer: "a refusal returns its number only".
use Rattle.std.specs.Prelude.{Result, Err}
use Rattle.refusal.specs.declared.Refusal.{Refusal}
use Rattle.solution.specs.declared.Planned.{Planned}

abbrev pub refused_with : Refusal → Result Planned Refusal
refused_with r = Err r
