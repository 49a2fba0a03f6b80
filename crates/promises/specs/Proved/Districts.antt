-- Eight districts in turn, proved.
use Rattle.std.proofs.Common.{ap, ◌∙◌}
use Rattle.std.specs.Prelude.{Result}
use Rattle.refusal.specs.declared.Refusal.{Refusal}
use Rattle.solution.specs.Planned.{summary_of}
use Rattle.solution.specs.declared.Planned.{Planned}
use Rattle.postman.specs.Districts.{Line, entry_refusal}
use Rattle.districts.specs.Laws.Theorem.{run_line, served, finished_as_plan_call}
use Rattle.promises.specs.Districts.{LineOfRun, EntryAnswers, RefusedEntry, NobodyInside, ShortSheets, StillGoing, AsOnePlanCall, LastTurnPasses, AsEntered, LastTurn, SevenTurns}
use Rattle.promises.specs.Laws.JudgedTheorem.{last_turn_passes}
use Rattle.promises.specs.Laws.Districts.{entry_place, refused_still, nobody_still, short_still, last_multipliers, entered_with, rounded_up, seven}
use Rattle.promises.specs.Laws.Equal.{equal}

pub line_of_run : LineOfRun
line_of_run = run_line

pub entry_answers : EntryAnswers
entry_answers es bytes budget x =
    let l = run_line es x.machine x.led in
    (x.contract.refusal ∙ ap (λ (l : Line). entry_refusal l bytes budget) l, λ q e. entry_place x.contract l q e)

pub refused_entry : RefusedEntry
refused_entry es bytes budget x k e = refused_still x.contract e

pub nobody_inside : NobodyInside
nobody_inside es sheet t = nobody_still es t.led t.contract

pub short_sheets : ShortSheets
short_sheets es sheet t = short_still es t.led t.contract

pub unfinished : StillGoing
unfinished es sheet t d l e long f =
    let s = (served es t.machine t.led sheet t.after t.answer t.contract d l e long).going f in
    (s.0, s.2, ap (λ (p : Result Planned Refusal). (summary_of p).trees) s.1, ap (λ (p : Result Planned Refusal). (summary_of p).cost) s.1)

pub as_one_plan_call : AsOnePlanCall
as_one_plan_call es sheet t d l e long f c =
    let x = finished_as_plan_call es t.machine t.led sheet t.after t.answer t.contract d l e long f c.after c.answer
    c.contract in
    (x.0, equal x.1 (last_multipliers es t.led t.contract d l e long f c.contract), x.2)

pub last_passes : LastTurnPasses
last_passes es sheet t d l e long f j =
    last_turn_passes es t.machine t.led d l e f sheet t.after t.answer t.contract long j.answer j.contract

pub as_it_entered : AsEntered
as_it_entered = entered_with

pub in_last_turn : LastTurn
in_last_turn = rounded_up

pub at_most_seven : SevenTurns
at_most_seven = seven
