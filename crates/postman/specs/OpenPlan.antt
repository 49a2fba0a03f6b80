-- "Marks to come back to": a plan that is open for changes, with marks that hold it as it was, and what a history of such calls gives.
use Rattle.std.specs.Prelude.{cond, List, [], ◌∷◌, ℕ, length, set, eqb, ltb, leb}
use Rattle.std.proofs.Math.Option.{Option, none, some}
use Rattle.postman.specs.Plan.{Arc, Plan, arc_at}
use Rattle.postman.specs.PlanFile.{write_refusal}

-- ---- changes

-- "Changes, each setting one arc's costs and standing together": the arc's number, and what its cost, service cost and standing become.
pub record Change : Type 0 where
  pub arc : ℕ
  pub cost : ℕ
  pub service : ℕ
  pub standing : ℕ

-- The arc keeps its ends, and every other arc is as it was.
abbrev pub changed_arc : Arc → Change → Arc
changed_arc a c = record { tail = a.tail; head = a.head; standing = c.standing; cost = c.cost; service = c.service }

unfoldable pub changed_plan : Plan → Change → Plan
changed_plan p c = record { n = p.n; arcs = set p.arcs c.arc (changed_arc (arc_at p.arcs c.arc) c) }

-- The longest file, of 256 arcs in edition 2: "1,475 bytes".
abbrev pub longest_file : ℕ
longest_file = 1475

-- "A change to arc m or above gets 14, and one the writer would refuse in the plan's edition gets the writer's
-- number." Every file has room in 1,475 bytes.
unfoldable pub change_refusal : ℕ → Plan → Change → Option ℕ
unfolding changed_plan write_refusal
change_refusal e p c = cond (leb (length p.arcs) c.arc) (some 14) (write_refusal e (changed_plan p c) longest_file)

-- ---- the open plan

-- The plan, and what each mark holds: a plan, or nothing where it was never set.
pub record Open : Type 0 where
  pub plan : Plan
  pub marks : ℕ → Option Plan

-- "Opening […] sets no mark."
abbrev pub opened : Plan → Open
opened p = record { plan = p; marks = λ k. none }

-- Changes; "up to four marks, numbered 0 to 3, each holding the plan at that moment"; "returning brings that
-- plan back". Any numbers may stand in a call.
pub data Call : Type 0 where
  change : Change → Call
  mark : ℕ → Call
  return : ℕ → Call

-- What a mark holds, or else the plan.
abbrev pub held_or : Plan → Option Plan → Plan
held_or p none = p
held_or p (some q) = q

-- The open plan once it has taken a call. "Setting a mark again replaces it." "Returning brings that plan back and keeps all marks."
abbrev pub taken : Open → Call → Open
taken s (change c) = record { plan = changed_plan s.plan c; marks = s.marks }
taken s (mark k) = record { plan = s.plan; marks = λ j. cond (eqb j k) (some s.plan) (s.marks j) }
taken s (return k) = record { plan = held_or s.plan (s.marks k); marks = s.marks }

-- WHAT A HISTORY GIVES, from an open plan on: its calls are taken one after the other.
unfoldable pub outcome : Open → List Call → Open
outcome s [] = s
outcome s (c ∷ h) = outcome (taken s c) h

-- ---- the refusals

-- 21 no mark: "the mark's number is above 3 or was never set; it is the only check of a return, and
-- for setting a mark it is given only above 3"
abbrev pub unless_held : Option Plan → Option ℕ
unless_held none = some 21
unless_held (some q) = none

abbrev pub refusal_in : ℕ → Open → Call → Option ℕ
refusal_in e s (change c) = change_refusal e s.plan c
refusal_in e s (mark k) = cond (ltb 3 k) (some 21) none
refusal_in e s (return k) = cond (ltb 3 k) (some 21) (unless_held (s.marks k))

-- A refused call alters nothing.
abbrev pub unless_refused : {A : Type 0} → Option ℕ → A → A → A
unless_refused none new old = new
unless_refused (some r) new old = old

abbrev pub after_call : ℕ → Open → Call → Open
after_call e s c = unless_refused (refusal_in e s c) (taken s c) s

-- THE HISTORY of a list of calls to a plan of edition e: "accepted changes, marks and returns". And the refusal, or none, of each call.
unfoldable pub history : ℕ → Open → List Call → List Call
history e s [] = []
history e s (c ∷ cs) = unless_refused (refusal_in e s c) (c ∷ history e (after_call e s c) cs) (history e (after_call e s c) cs)

unfoldable pub refusals : ℕ → Open → List Call → List (Option ℕ)
refusals e s [] = []
refusals e s (c ∷ cs) = refusal_in e s c ∷ refusals e (after_call e s c) cs
