-- Runs of entries and turns, in any order, accepted or not.
use Rattle.std.specs.Prelude.{◌≡◌, Bool, false, not, cond, ◌&&◌, List, [], ◌∷◌, ◌++◌, ℕ, ◌+◌, length, T, eqb}
use Rattle.postman.specs.Refusal.{is_good}
use Rattle.postman.specs.Districts.{District, Line, entry_refusal, lowest_free, enter, turn, is_accepted}

-- An entry, by its plan and budget; a turn, by the length of the sheet that is lent.
pub data Event : Type 0 where
  entry : List ℕ → ℕ → Event
  turned : ℕ → Event

unfoldable pub step : Line → Event → Line
unfolding enter turn is_accepted
step l (entry bytes budget) = enter l bytes budget
step l (turned sheet) = cond (is_accepted l sheet) (turn l) l

-- A run is a list of events, the latest first. The line that it leads to from a line, and from the empty machine.
unfoldable pub run_from : Line → List Event → Line
unfolding step
run_from l [] = l
run_from l (e ∷ es) = step (run_from l es) e

abbrev pub run : List Event → Line
run es = run_from [] es

-- ---- whose turn

-- The front district's place.
unfoldable pub serves_place : Line → ℕ → Bool
serves_place [] q = false
serves_place (d ∷ l) q = eqb d.place q

-- Whether an event is an accepted turn; and one of the district at place q.
unfoldable pub is_turn : Line → Event → Bool
unfolding is_accepted
is_turn l (entry bytes budget) = false
is_turn l (turned sheet) = is_accepted l sheet

abbrev pub is_turn_of : ℕ → Line → Event → Bool
is_turn_of q l e = is_turn l e && serves_place l q

-- How many accepted turns a run has, from a line on; and how many of them are of place q.
unfoldable pub turns_in : Line → List Event → ℕ
unfolding is_turn run_from
turns_in l [] = 0
turns_in l (e ∷ es) = cond (is_turn (run_from l es) e) 1 0 + turns_in l es

unfoldable pub turns_of : ℕ → Line → List Event → ℕ
unfolding is_turn serves_place run_from
turns_of q l [] = 0
turns_of q l (e ∷ es) = cond (is_turn_of q (run_from l es) e) 1 0 + turns_of q l es

-- ---- the last entry that was answered place q, and the turns of that place since

-- Whether an event is an entry that is answered place q.
unfoldable pub enters_at : ℕ → Line → Event → Bool
unfolding is_good entry_refusal lowest_free
enters_at q l (entry bytes budget) = is_good (entry_refusal l bytes budget) && eqb (lowest_free l) q
enters_at q l (turned sheet) = false

pub record Entry : Type 0 where
  pub bytes : List ℕ
  pub budget : ℕ

unfoldable pub entry_of : Event → Entry
entry_of (entry bytes budget) = record { bytes = bytes; budget = budget }
entry_of (turned sheet) = record { bytes = []; budget = 0 }

unfoldable pub last_entry : ℕ → List Event → Entry
unfolding enters_at entry_of run_from
last_entry q [] = record { bytes = []; budget = 0 }
last_entry q (e ∷ es) = cond (enters_at q (run es) e) (entry_of e) (last_entry q es)

unfoldable pub turns_since : ℕ → List Event → ℕ
unfolding enters_at is_turn serves_place run_from
turns_since q [] = 0
turns_since q (e ∷ es) = cond (enters_at q (run es) e) 0 (cond (is_turn_of q (run es) e) 1 0 + turns_since q es)

-- ---- waiting in a line

-- i districts are ahead of d.
pub record Waits (l : Line) (i : ℕ) (d : District) : Type 0 where
  pub ahead : Line
  pub behind : Line
  pub line : l ≡ ahead ++ d ∷ behind
  pub number : length ahead ≡ i

-- No turn of a run, from a line on, is of place q.
unfoldable pub NoTurnOf : ℕ → Line → List Event → Type 0
unfolding is_turn serves_place run_from
NoTurnOf q l [] = Unit {0}
NoTurnOf q l (e ∷ es) = T (not (is_turn_of q (run_from l es) e)) × NoTurnOf q l es
