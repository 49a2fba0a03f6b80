-- Two answers that are the same: "the answer holds the places written, cost, floor, trees tried T, whole (yes or no), k and u".
use Rattle.std.specs.Prelude.{◌≡◌, Result, ℕ}
use Rattle.refusal.specs.declared.Refusal.{Refusal}
use Rattle.refusal.specs.Verdict.{verdict_number}
use Rattle.solution.specs.declared.Planned.{Planned}
use Rattle.solution.specs.Planned.{answer_in, multipliers_of}

pub record SameAnswer (r s : Result Planned Refusal) : Type 0 where
  pub refusal : verdict_number r ≡ verdict_number s
  pub places : (answer_in r).places ≡ (answer_in s).places
  pub cost : (answer_in r).cost ≡ (answer_in s).cost
  pub floor : (answer_in r).floor ≡ (answer_in s).floor
  pub trees : (answer_in r).trees ≡ (answer_in s).trees
  pub whole : (answer_in r).whole ≡ (answer_in s).whole
  pub parts : (answer_in r).parts ≡ (answer_in s).parts
  pub multipliers : (i : ℕ) → multipliers_of r i ≡ multipliers_of s i
