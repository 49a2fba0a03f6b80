-- The definition, field by field.
use mathlib.Core.Path.{refl}
use Rattle.round_rule.specs.Rounds.{gone_on}
use Rattle.round_rule.proofs.trial.further.Goals as goal

pub returns : goal.returns
unfolding gone_on
returns c = refl
