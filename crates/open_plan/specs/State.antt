-- The open plan by value, and what each call makes of it.
use Rattle.std.specs.Prelude.{cond, [], ℕ, length, get_or, set, replicate, eqb, ltb}
use Rattle.std.proofs.Math.Option.{Option, none, some}
use Rattle.postman.specs.OpenPlan.{Call, change, mark, return}
use Rattle.held_file.specs.declared.Held.{Held}
use Rattle.open_plan.specs.declared.OpenPlan.{OpenPlan}
use Rattle.held_file.specs.Held.{file_in, held_of}
use Rattle.held_file.specs.Change.{file_change_refusal, changed_file}

-- "Sets no mark."
unfoldable pub fresh_state : Held → OpenPlan
unfolding held_of
fresh_state file = record { plan = file; marks = replicate 4 (held_of []) }

-- The open plan with another file, and the same marks.
abbrev pub with_plan : OpenPlan → Held → OpenPlan
with_plan s file = record { plan = file; marks = s.marks }

-- The file of mark k; none where there is no such mark.
abbrev pub mark_in : OpenPlan → ℕ → Held
mark_in s k = get_or s.marks k (record { length = 0; file = [] })

-- The refusal of a call, or none. A mark that holds no file was never set.
abbrev pub refusal_of : OpenPlan → Call → Option ℕ
refusal_of s (change c) = file_change_refusal (file_in s.plan) c
refusal_of s (mark k) = cond (ltb 3 k) (some 21) none
refusal_of s (return k) = cond (ltb 3 k) (some 21) (cond (eqb (mark_in s k).length 0) (some 21) none)

-- The open plan after a call that is not refused.
abbrev pub next : OpenPlan → Call → OpenPlan
next s (change c) = with_plan s (held_of (changed_file (file_in s.plan) c))
next s (mark k) = record { plan = s.plan; marks = set s.marks k s.plan }
next s (return k) = with_plan s (mark_in s k)
