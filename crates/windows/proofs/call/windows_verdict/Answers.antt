-- The tests are the definition's, in its order.
use Rattle.std.proofs.Common.{sym, ◌∙◌}
use Rattle.windows.specs.Laws.Call.{bad_refused, must_refused, windows_good}
use Rattle.windows.proofs.call.windows_verdict.Goals as goal

pub returns-then-has_bad_window : goal.returns-then-has_bad_window
returns-then-has_bad_window c = bad_refused _ _ _ (sym c.has_bad_window.ensures ∙ c.if-has_bad_window.true)

pub returns-then-must_shut : goal.returns-then-must_shut
returns-then-must_shut c =
    must_refused _ _ _ (sym c.has_bad_window.ensures ∙ c.if-has_bad_window.false) (sym c.must_shut.ensures ∙ c.if-must_shut.true)

pub returns : goal.returns
returns c =
    windows_good _ _ _ (sym c.has_bad_window.ensures ∙ c.if-has_bad_window.false) (sym c.must_shut.ensures ∙ c.if-must_shut.false)
