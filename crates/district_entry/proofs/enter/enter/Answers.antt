-- A plan or a budget that is refused refuses the entry; else the budget is within its limits, and `admit` decides.
use Rattle.std.proofs.Common.{sym, rules}
use Rattle.district_entry.specs.Laws.Entered.{refused_entered, entry_refused, part_limits}
use Rattle.district_entry.proofs.enter.enter.Goals as goal

pub overflow_cast-budget : goal.overflow_cast-budget
overflow_cast-budget c = let h = (part_limits _ _ (sym c.in-Ok.ensures)).1 in search rules

pub returns-in-Err : goal.returns-in-Err
returns-in-Err c = refused_entered _ _ _ _ (entry_refused _ _ _ _ (sym c.in-Err.ensures))
