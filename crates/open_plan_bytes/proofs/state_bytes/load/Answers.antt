-- The five files.
use mathlib.Core.List.{[], ◌∷◌}
use Rattle.open_plan_bytes.proofs.state_bytes.load.Goals as goal

pub returns : goal.returns
returns c = λ j. record { plan = c.load_held-plan.ensures j; marks = c.load_held-first.ensures j ∷ c.load_held-second.ensures j ∷ c.load_held-third.ensures j ∷ c.load_held-fourth.ensures j ∷ [] }
