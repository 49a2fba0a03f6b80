-- FOR OTHER LANGUAGES: what the C functions answer, over the numbers and slices that callers lend. None of them asks anything of its
-- caller.
use Rattle.std.specs.Prelude.{◌≡◌, not, ℕ, ◌+◌, ◌*◌, ◌/◌, ◌≤◌, length, drop, ℤ, pos, neg_ℤ, T, Result}
use mathlib.Core.List.{List, [], ◌++◌, flat_map}
use Rattle.std.proofs.Math.Option.{none, some}
use Rattle.postman.specs.PlanFile.{edition, vertex_count, arc_count, plan_of, read_refusal, read_answer, file_length, file_of}
use Rattle.postman.specs.PlanFile.{write_refusal}
use Rattle.postman.specs.PlanFile.{write_answer, bytes_after}
use Rattle.postman.specs.Windows.{Departure, is_bad_departure}
use Rattle.postman.specs.TreeCount.{count_call}
use Rattle.postman.specs.DistanceCall.{distance_answer, distances_after}
use Rattle.postman.specs.Judge.{judge_answer}
use Rattle.refusal.specs.declared.Refusal.{Refusal}
use Rattle.solution.specs.declared.Planned.{Planned}
use Rattle.two_cars.specs.Contract.{IsCar}
use Rattle.count_call.specs.Contract.{count_answer}
use Rattle.distances.specs.Answer.{searched_answer}
use Rattle.judge.specs.Contract.{judged_answer}
use Rattle.encoding.specs.RecordBytes.{arc_bytes, arcs_in}
use Rattle.answers.specs.Number.{one_number}
use Rattle.answers.specs.FileNumber.{packed}
use Rattle.answers.specs.Count.{count_of}
use Rattle.answers.specs.Answer.{IsHandedOver}
use Rattle.file_exports.specs.Codec.{lent_after, lent_plan}
use Rattle.exports.specs.Call.{IsExportedDeepCall}
use Rattle.exports.specs.Cars.{Lent, IsExportedCars}
use Rattle.promises.specs.Slices.{Slices, HandsOver, IsCalled, IsCalledAt, HasRoom, cost_in, drive_in, LeaveOneAnswer, BuysLent}
use Rattle.promises.specs.CarNumber.{first_number, second_number}
use Rattle.promises.specs.PlanCall.{Call}
use Rattle.promises.specs.DeepCall.{Deep}
use Rattle.promises.specs.Departure.{CallAt}
use Rattle.promises.specs.TreeCount.{Count}
use Rattle.promises.specs.Distances.{Page}
use Rattle.promises.specs.Judging.{Judging}

-- ---- plan files

-- `postman_read_plan` ensures these two equations: records are seven bytes each.
pub record LentReading (file lent : List ℕ) : Type 0 where
  pub after : List ℕ
  pub number : ℤ
  pub number_is : number ≡ one_number (packed (read_answer file (arcs_in lent)))
  pub after_is : after ≡ lent_after file lent

-- Minus the refusal's number, with every byte untouched; or edition, n and m in one number, the arcs in the list from its start, and the
-- bytes after them untouched.
abbrev pub ReadRefused : Type 0
ReadRefused = (file lent : List ℕ) (r : LentReading file lent) (k : ℕ) → read_refusal file (length lent / 7) ≡ some k
    → (r.number ≡ neg_ℤ (pos k)) × (r.after ≡ lent)

abbrev pub ReadGiven : Type 0
ReadGiven = (file lent : List ℕ) (r : LentReading file lent) → read_refusal file (length lent / 7) ≡ none
    → (r.number ≡ pos (edition file * 65536 + vertex_count file * 512 + arc_count file))
    × (r.after ≡ flat_map arc_bytes (plan_of file).arcs ++ drop (7 * arc_count file) lent)

-- `postman_write_plan` ensures these two equations.
pub record LentWriting (e n : ℕ) (lent bytes : List ℕ) : Type 0 where
  pub after : List ℕ
  pub number : ℤ
  pub number_is : number ≡ one_number (write_answer e (lent_plan n lent) bytes)
  pub after_is : after ≡ bytes_after e (lent_plan n lent) bytes

abbrev pub WriteRefused : Type 0
WriteRefused = (e n : ℕ) (lent bytes : List ℕ) (w : LentWriting e n lent bytes) (k : ℕ)
    → write_refusal e (lent_plan n lent) (length bytes) ≡ some k
    → (w.number ≡ neg_ℤ (pos k)) × (w.after ≡ bytes)

abbrev pub WriteGiven : Type 0
WriteGiven = (e n : ℕ) (lent bytes : List ℕ) (w : LentWriting e n lent bytes) → write_refusal e (lent_plan n lent) (length bytes) ≡ none
    → (w.number ≡ pos (file_length e (length (arcs_in lent))))
    × (w.after ≡ file_of e (lent_plan n lent) ++ drop (file_length e (length (arcs_in lent))) bytes)

-- ---- plan calls

-- `postman_plan_call`, and `postman_short_call` at the short call's budget; `postman_plan_call_at`.
pub record LentCall (bytes : List ℕ) (budget : ℕ) (old : Slices) : Type 0 where
  pub after : Slices
  pub number : ℤ
  pub contract : IsCalled bytes budget old after number

pub record LentCallAt (bytes : List ℕ) (budget : ℕ) (windows : List ℕ) (d : Departure) (old : Slices) : Type 0 where
  pub after : Slices
  pub number : ℤ
  pub contract : IsCalledAt bytes budget windows d old after number

-- `postman_deep_call`.
pub record LentDeep (bytes : List ℕ) (budget rounds : ℕ) (old : Slices) : Type 0 where
  pub after : Slices
  pub number : ℤ
  pub contract : IsExportedDeepCall bytes budget rounds old.sheet after.sheet old.words after.words old.multipliers
      after.multipliers number

-- They hand over what the plan call answers: 0 or minus the refusal's number; words, multipliers and the sheet, which a refusal leaves as
-- they were.
abbrev pub PlanCallHandsOver : Type 0
PlanCallHandsOver = (bytes : List ℕ) (budget : ℕ) (old : Slices) (l : LentCall bytes budget old)
    → (c : Call bytes budget old.sheet) × (c.after ≡ l.after.sheet) × HandsOver c.answer old l.after l.number

abbrev pub DepartureHandsOver : Type 0
DepartureHandsOver = (bytes : List ℕ) (budget : ℕ) (windows : List ℕ) (d : Departure) (old : Slices)
    (l : LentCallAt bytes budget windows d old)
    → (c : CallAt bytes budget windows d old.sheet) × (c.after ≡ l.after.sheet) × HandsOver c.answer old l.after l.number

abbrev pub DeepCallHandsOver : Type 0
DeepCallHandsOver = (bytes : List ℕ) (budget rounds : ℕ) (old : Slices) (l : LentDeep bytes budget rounds old)
    → (c : Deep bytes budget rounds old.sheet) × (c.after ≡ l.after.sheet) × HandsOver c.answer old l.after l.number

-- No windows: what the plan call leaves.
abbrev pub NoWindows : Type 0
NoWindows = (bytes : List ℕ) (budget : ℕ) (d : Departure) (old old' : Slices) (x : LentCallAt bytes budget [] d old)
    (y : LentCall bytes budget old')
    → T (not (is_bad_departure d)) → length old.sheet ≡ length old'.sheet
    → LeaveOneAnswer old x.after x.number old' y.after y.number

-- What a raised budget buys, where both answer 0 and there is room for the words.
abbrev pub RaisedBudget : Type 0
RaisedBudget = (bytes : List ℕ) (b b' : ℕ) (old old' : Slices) (x : LentCall bytes b old) (y : LentCall bytes b' old')
    → b ≤ b' → x.number ≡ pos 0 → y.number ≡ pos 0 → HasRoom old → HasRoom old' → BuysLent old x.after old' y.after

abbrev pub RaisedBudgetAt : Type 0
RaisedBudgetAt = (bytes : List ℕ) (b b' : ℕ) (windows : List ℕ) (d : Departure) (old old' : Slices)
    (x : LentCallAt bytes b windows d old) (y : LentCallAt bytes b' windows d old')
    → b ≤ b' → x.number ≡ pos 0 → y.number ≡ pos 0 → HasRoom old → HasRoom old' → BuysLent old x.after old' y.after

-- ---- two cars

-- A car is handed over what it is answered; n is its own number, 0 or minus its refusal's.
abbrev pub CarHandsOver : List ℕ → Lent → ℤ → Type 0
CarHandsOver bytes c n = (r : Result Planned Refusal) × IsCar bytes c.marks c.budget c.sheet c.sheet' r
    × IsHandedOver r c.words c.words' c.u c.u' n

-- `postman_two_cars` ensures the contract; its one number tells each car's.
abbrev pub CarsHandOver : Type 0
CarsHandOver = (bytes : List ℕ) (a b : Lent) (n : ℤ) → IsExportedCars bytes a b n
    → CarHandsOver bytes a (first_number n) × CarHandsOver bytes b (second_number n)

-- ---- number of trees, distances, judging

-- `postman_tree_count`: the number of trees, 4,294,967,296 for "above", or minus the refusal's number.
pub record LentCount (bytes : List ℕ) : Type 0 where
  pub number : ℤ
  pub number_is : number ≡ one_number (count_of (count_call bytes))

abbrev pub CountHandsOver : Type 0
CountHandsOver = (bytes : List ℕ) (l : LentCount bytes) (c : Count bytes) → l.number ≡ one_number (count_of (count_answer c.answer))

-- `postman_distances`: the number of searches, or minus the refusal's number; and the distances.
pub record LentPage (bytes pairs distances : List ℕ) : Type 0 where
  pub after : List ℕ
  pub number : ℤ
  pub number_is : number ≡ one_number (distance_answer bytes pairs (length distances))
  pub after_is : after ≡ distances_after bytes pairs distances

abbrev pub PageHandsOver : Type 0
PageHandsOver = (bytes pairs distances : List ℕ) (l : LentPage bytes pairs distances) (c : Page bytes pairs distances)
    → (l.number ≡ one_number (searched_answer c.answer)) × (l.after ≡ c.after)

-- `postman_judge`: the cost, or minus the refusal's number.
pub record LentJudging (bytes w : List ℕ) : Type 0 where
  pub number : ℤ
  pub number_is : number ≡ one_number (judge_answer bytes w)

abbrev pub JudgeHandsOver : Type 0
JudgeHandsOver = (bytes w : List ℕ) (l : LentJudging bytes w) (j : Judging bytes w) → l.number ≡ one_number (judged_answer j.answer)

-- A drive that words and sheet hold passes with the cost that the words say.
abbrev pub WrittenPasses : Type 0
WrittenPasses = (bytes : List ℕ) (budget : ℕ) (old : Slices) (l : LentCall bytes budget old) → l.number ≡ pos 0 → HasRoom old
    → (j : LentJudging bytes (drive_in l.after)) → j.number ≡ pos (cost_in l.after)

abbrev pub WrittenPassesAt : Type 0
WrittenPassesAt = (bytes : List ℕ) (budget : ℕ) (windows : List ℕ) (d : Departure) (old : Slices)
    (l : LentCallAt bytes budget windows d old)
    → l.number ≡ pos 0 → HasRoom old → (j : LentJudging bytes (drive_in l.after)) → j.number ≡ pos (cost_in l.after)
