-- Each test is a condition of the definition; the flags that are left tell 16.
use mathlib.Core.Path.{sym, ap, ◌∙◌}
use Rattle.postman.specs.Refusal.{given}
use Rattle.judge.specs.Laws.Call.{foreign_answer, unjoined_answer, missed_answer, cost_answer}
use Rattle.judge.proofs.call.judge_list.Goals as goal

pub returns-then-has_foreign : goal.returns-then-has_foreign
returns-then-has_foreign c = foreign_answer _ _ (sym c.has_foreign.ensures ∙ c.if-has_foreign.true)

pub returns-then-is_unjoined : goal.returns-then-is_unjoined
returns-then-is_unjoined c = unjoined_answer _ _ (sym c.has_foreign.ensures ∙ c.if-has_foreign.false) (sym c.is_unjoined.ensures ∙ c.if-is_unjoined.true)

pub returns-then-has_flag : goal.returns-then-has_flag
returns-then-has_flag c = missed_answer _ _ (sym c.has_foreign.ensures ∙ c.if-has_foreign.false) (sym c.is_unjoined.ensures ∙ c.if-is_unjoined.false) (sym c.priced-t.ensures.left ∙ sym c.has_flag.ensures ∙ c.if-has_flag.true)

pub returns : goal.returns
returns c = ap given c.priced-t.ensures.costs ∙ cost_answer _ _ (sym c.has_foreign.ensures ∙ c.if-has_foreign.false) (sym c.is_unjoined.ensures ∙ c.if-is_unjoined.false) (sym c.priced-t.ensures.left ∙ sym c.has_flag.ensures ∙ c.if-has_flag.false)
