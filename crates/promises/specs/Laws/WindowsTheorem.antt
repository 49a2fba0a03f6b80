-- NO WINDOWS, for callers in other languages: at any good departure the call at a departure leaves what the plan call leaves, on sheets of
-- one length; its refusal too.
use Rattle.std.specs.Prelude.{◌≡◌, not, List, [], ℕ, T, ℤ, length}
use Rattle.postman.specs.Windows.{Departure, is_bad_departure}
use Rattle.windows.specs.Laws.Theorem.{as_call_at}
use Rattle.promises.specs.Slices.{Slices, IsCalled, IsCalledAt, LeaveOneAnswer}
use Rattle.promises.specs.Laws.OneAnswer.{one_answer_at}

pub no_windows_lent : (bytes : List ℕ) (budget : ℕ) (d : Departure) → T (not (is_bad_departure d))
    → (old new old' new' : Slices) (n n' : ℤ) → length old.sheet ≡ length old'.sheet
    → IsCalledAt bytes budget [] d old new n
    → IsCalled bytes budget old' new' n'
    → LeaveOneAnswer old new n old' new' n'
no_windows_lent bytes budget d good old new old' new' n n' e x y =
    one_answer_at bytes budget [] d old new old' new' n n' e x
    (record { answer = y.answer; called = as_call_at bytes budget d good _ _ y.answer y.called; handed_over = y.handed_over })
