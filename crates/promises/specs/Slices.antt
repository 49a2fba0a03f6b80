-- What callers in other languages lend for an answer, what they read there, and what two calls leave there.
use Rattle.std.specs.Prelude.{◌≡◌, List, ℕ, ◌≤◌, ℤ, length, get_or, take, Result}
use Rattle.postman.specs.Refusal.{unless}
use Rattle.postman.specs.Windows.{Departure}
use Rattle.refusal.specs.Verdict.{verdict_number}
use Rattle.drive_legs.specs.Drive.{written}
use Rattle.refusal.specs.declared.Refusal.{Refusal}
use Rattle.solution.specs.Planned.{answer_in}
use Rattle.solution.specs.declared.Planned.{Planned}
use Rattle.answers.specs.Answer.{put_first, IsHandedOver}
use Rattle.exports.specs.Call.{IsExportedCall, IsExportedCallAt}
use Rattle.open_plan_exports.specs.Editing.{IsExportedAsk}

-- The slices of one call, at entry or at exit.
pub record Slices : Type 0 where
  pub sheet : List ℕ
  pub words : List ℕ
  pub multipliers : List ℤ

-- ---- the calls, over such slices

abbrev pub HandsOver : Result Planned Refusal → Slices → Slices → ℤ → Type 0
HandsOver r old new n = IsHandedOver r old.words new.words old.multipliers new.multipliers n

abbrev pub IsCalled : List ℕ → ℕ → Slices → Slices → ℤ → Type 0
IsCalled bytes budget old new n =
    IsExportedCall bytes budget old.sheet new.sheet old.words new.words old.multipliers new.multipliers n

abbrev pub IsCalledAt : List ℕ → ℕ → List ℕ → Departure → Slices → Slices → ℤ → Type 0
IsCalledAt bytes budget windows d old new n =
    IsExportedCallAt bytes budget windows d old.sheet new.sheet old.words new.words old.multipliers new.multipliers n

abbrev pub IsAsked : List ℕ → ℕ → List ℕ → Departure → Slices → Slices → ℤ → Type 0
IsAsked state budget windows d old new n =
    IsExportedAsk state budget windows d old.sheet new.sheet old.words new.words old.multipliers new.multipliers n

-- ---- what is read there, where there is room for all six words

abbrev pub HasRoom : Slices → Type 0
HasRoom s = 6 ≤ length s.words

abbrev pub cost_in : Slices → ℕ
cost_in s = get_or s.words 1 0

abbrev pub floor_in : Slices → ℕ
floor_in s = get_or s.words 2 0

abbrev pub whole_in : Slices → ℕ
whole_in s = get_or s.words 4 0

-- The places written.
abbrev pub drive_in : Slices → List ℕ
drive_in s = take (get_or s.words 0 0) s.sheet

-- ---- one answer

-- A call leaves this answer: its number, its words and multipliers, as many as there is room for, and its drive from the sheet's start. All
-- else is as it was, and in a refusal everything.
pub record Leaves (r : Result Planned Refusal) (drive : List ℕ) (old new : Slices) (n : ℤ) : Type 0 where
  pub handed_over : HandsOver r old new n
  pub sheet_is : new.sheet ≡ unless (verdict_number r) (written drive old.sheet) old.sheet

-- TWO CALLS LEAVE ONE ANSWER, whatever their slices held before.
pub record LeaveOneAnswer (old new : Slices) (n : ℤ) (old' new' : Slices) (n' : ℤ) : Type 0 where
  pub answer : Result Planned Refusal
  pub drive : List ℕ
  pub counted : (answer_in answer).places ≡ length drive
  pub first : Leaves answer drive old new n
  pub second : Leaves answer drive old' new' n'

-- ---- what a raised budget buys

-- "The larger gives a drive no dearer and a floor no lower. u depends on the plan alone […], so two answers that aren't whole have equal
-- floors." The first call is the one at the smaller budget.
pub record BuysLent (old new old' new' : Slices) : Type 0 where
  pub no_dearer : cost_in new' ≤ cost_in new
  pub no_lower : floor_in new ≤ floor_in new'
  pub partial_floors : whole_in new ≡ 0 → whole_in new' ≡ 0 → floor_in new' ≡ floor_in new
  -- one u is put from the start of both slices
  pub u : List ℤ
  pub first_multipliers : new.multipliers ≡ put_first u old.multipliers
  pub second_multipliers : new'.multipliers ≡ put_first u old'.multipliers
  -- where the smaller budget reached all trees, the larger buys nothing: every word is the same, and so is the drive
  pub whole_words : whole_in new ≡ 1 → take 6 new'.words ≡ take 6 new.words
  pub whole_drive : whole_in new ≡ 1 → drive_in new' ≡ drive_in new
