-- Answers compared: with the plan call's, and with those of other numbers of rounds.
use Rattle.std.specs.Prelude.{◌≡◌, List, ℕ, ◌≤◌, take, T, ◌≤ℤ◌, Result}
use Rattle.refusal.specs.Verdict.{verdict_number}
use Rattle.refusal.specs.declared.Refusal.{Refusal}
use Rattle.solution.specs.declared.Planned.{Planned}
use Rattle.solution.specs.Planned.{summary_of, places_of, u_list}

-- All but whole is the same, which says another thing of the two calls.
pub record SameButWhole (r s : Result Planned Refusal) : Type 0 where
  pub refusal : verdict_number r ≡ verdict_number s
  pub places : places_of r ≡ places_of s
  pub cost : (summary_of r).cost ≡ (summary_of s).cost
  pub floor : (summary_of r).floor ≡ (summary_of s).floor
  pub trees : (summary_of r).trees ≡ (summary_of s).trees
  pub parts : (summary_of r).parts ≡ (summary_of s).parts
  pub multipliers : u_list r ≡ u_list s

-- s is no worse than r: its drive is no dearer, and its floor no lower.
pub record NoWorse (r s : Result Planned Refusal) : Type 0 where
  pub no_dearer : (summary_of s).cost ≤ (summary_of r).cost
  pub no_lower : (summary_of r).floor ≤ℤ (summary_of s).floor

-- s is the answer after more rounds. Where floor and cost have met, more rounds change nothing.
pub record Deepens (r s : Result Planned Refusal) (new new' : List ℕ) : Type 0 where
  pub no_worse : NoWorse r s
  pub met_fields : T (summary_of r).whole → summary_of s ≡ summary_of r
  pub met_multipliers : T (summary_of r).whole → u_list s ≡ u_list r
  pub met_drive : T (summary_of r).whole → take (places_of s) new' ≡ take (places_of r) new
