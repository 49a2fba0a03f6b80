-- What a raised budget buys: "For one plan […] and two budgets, the larger gives a drive no dearer and a floor no lower. u depends on the
-- plan alone […], so two answers that aren't whole have equal floors." r is the answer at the smaller budget and s the one at the larger,
-- neither of them a refusal, and the sheets are those at exit.
use Rattle.std.specs.Prelude.{◌≡◌, Result, true, false, List, ℕ, ◌≤◌, take, ◌≤ℤ◌}
use Rattle.refusal.specs.declared.Refusal.{Refusal}
use Rattle.solution.specs.declared.Planned.{Planned}
use Rattle.solution.specs.Planned.{answer_in}

pub record Buys (r s : Result Planned Refusal) (new new' : List ℕ) : Type 0 where
  -- the drive is no dearer, and the floor no lower
  pub no_dearer : (answer_in s).cost ≤ (answer_in r).cost
  pub no_lower : (answer_in r).floor ≤ℤ (answer_in s).floor
  -- u is the same, all 64 numbers of it
  pub same_multipliers : (answer_in s).multipliers ≡ (answer_in r).multipliers
  -- two answers that aren't whole have equal floors
  pub partial_floors : (answer_in r).whole ≡ false → (answer_in s).whole ≡ false → (answer_in s).floor ≡ (answer_in r).floor
  -- where the smaller budget reached all trees, the larger buys nothing: every field is the same, and so is the drive
  pub whole_same : (answer_in r).whole ≡ true → s ≡ r
  pub whole_drive : (answer_in r).whole ≡ true → take (answer_in s).places new' ≡ take (answer_in r).places new
