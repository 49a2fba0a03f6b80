-- Some flag is set exactly if some arc is a must arc.
use mathlib.Core.Path.{sym, ap, ◌∙◌}
use mathlib.Core.Bool.{not}
use Rattle.drive_tally.specs.Laws.Tally.{has_required}
use Rattle.judge.specs.Laws.Call.{idle_answer, list_answer_lem}
use Rattle.judge.proofs.call.judge_arcs.Goals as goal

pub returns : goal.returns
returns c = c.judge_list.ensures ∙ list_answer_lem _ _ (has_required _ _ c.required_flags-required.ensures ∙ ap not (sym c.has_flag.ensures ∙ c.if-not-has_flag.false))

pub returns-then-not-has_flag : goal.returns-then-not-has_flag
returns-then-not-has_flag c = idle_answer _ _ (has_required _ _ c.required_flags-required.ensures ∙ ap not (sym c.has_flag.ensures ∙ c.if-not-has_flag.true))
