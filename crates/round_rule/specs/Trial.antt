-- What a round is made with.
use Rattle.std.specs.Prelude.{◌≡◌, ◌≤◌, ◌<◌}
use Rattle.postman.specs.Plan.{Plan}
use Rattle.renumbering.specs.Numbering.{IsNumberingOf}
use Rattle.renumbering.specs.Shuffle.{modulus}
use Rattle.round_rule.specs.declared.kept.Kept.{Kept}
use Rattle.round_rule.specs.declared.trial.Trial.{Trial}
use Rattle.round_rule.specs.Rounds.{cost_of}

-- A numbering of its vertices, and so many trees under it.
pub record IsTrial (p : Plan) (x : Trial) : Type 0 where
  pub numbers : IsNumberingOf p.n x.numbering
  pub some_tries : 1 ≤ x.tries
  pub few_tries : x.tries ≤ 1000000000

-- What is kept can be gone on with: the cost is that of the drive's round, and no tree of the search costs less.
pub record GoesOn (p : Plan) (k : Kept) : Type 0 where
  pub few_trees : k.trees ≤ 1000000000
  pub numbering : IsNumberingOf p.n k.base.numbering
  pub few_tries : k.base.tries ≤ 999000000
  pub least : k.cost ≤ cost_of p k.base
  pub drive : IsTrial p k.drive
  pub cost_is : k.cost ≡ cost_of p k.drive
  pub random_in : k.random < modulus
