-- What an entry and a turn answer, as a number and in a lent machine.
use Rattle.std.specs.Prelude.{◌≡◌, true, cond, List, ◌++◌, ℕ, ℤ, drop}
use Rattle.std.proofs.Math.Option.{none}
use Rattle.postman.specs.Refusal.{unless}
use Rattle.district_entry.specs.declared.enter.Entered.{Entered}
use Rattle.districts.specs.declared.turn.Turned.{Turned}
use Rattle.district_entry.specs.Admitted.{admitted, admission_number}
use Rattle.districts.specs.Number.{outcome_number, had_turn, had_last}
use Rattle.solution.specs.Planned.{u_list}
use Rattle.answers.specs.Number.{one_number}
use Rattle.answers.specs.Answer.{words_of, put_first}
use Rattle.machine_bytes.specs.MachineBytes.{districts_bytes, machine_bytes, IsSized}

-- An entry's answer in a number and the lent machine, which a refusal does not change; bytes after the machine are untouched.
pub record IsEntryStored (r : Entered) (bytes bytes' : List ℕ) (number : ℤ) : Type 0 where
  pub number_is : number ≡ one_number (admitted r.answer)
  pub machine_is : bytes' ≡ unless (admission_number r.answer) (machine_bytes r.machine ++ drop districts_bytes bytes) bytes
  pub sized : admission_number r.answer ≡ none → IsSized r.machine

-- A turn's answer in a number and three lent slices. The words are those of the answer, which are 0 before the last turn
-- but for the least cost and the trees so far.
pub record IsTurnHandedOver (r : Turned) (bytes bytes' words words' : List ℕ) (u u' : List ℤ) (number : ℤ) : Type 0 where
  pub number_is : number ≡ one_number (outcome_number r.outcome)
  pub machine_is : bytes' ≡ cond (had_turn r.outcome) (machine_bytes r.machine ++ drop districts_bytes bytes) bytes
  pub sized : had_turn r.outcome ≡ true → IsSized r.machine
  pub words_are : words' ≡ cond (had_turn r.outcome) (put_first (words_of r.planned) words) words
  pub multipliers_are : u' ≡ cond (had_last r.outcome) (put_first (u_list r.planned) u) u
