-- Market days, "streets shut on stated weekdays": the plan call with windows and a departure.
use Rattle.std.specs.Prelude.{Bool, not, cond, ◌&&◌, ◌||◌, ℕ, ◌+◌, ◌*◌, ◌/◌, ◌%◌, length, get_or, T, eqb, ltb, leb}
use mathlib.Core.List.{List, [], ◌∷◌, ◌++◌, map, Memᴰ}
use Rattle.std.proofs.Math.Option.{Option}
use Rattle.postman.specs.Lists.{any_of, below}
use Rattle.postman.specs.Plan.{Arc, Plan, arc_at, required_numbers}
use Rattle.postman.specs.Refusal.{Conditions, first_refusal}
use Rattle.postman.specs.PlanFile.{plan_of}
use Rattle.postman.specs.PlanCall.{conditions_before, is_cut_off}

-- ---- windows and departures

-- "Add a list of up to 128 windows: arc (0 to m−1, of any standing), weekday 0 (Monday) to 6, from minute, to
-- minute, with from < to and to at most 1,440."
pub record Window : Type 0 where
  pub arc : ℕ
  pub weekday : ℕ
  pub from : ℕ
  pub to : ℕ

-- "A departure is a weekday and a minute t (0 to 1,439)."
pub record Departure : Type 0 where
  pub weekday : ℕ
  pub minute : ℕ

-- A list of windows is lent as numbers of 16 bits, four a window. Window k of such a list, and all of them; up to
-- three numbers that are left over are no window.
abbrev pub window_in : List ℕ → ℕ → Window
window_in ns k =
    record { arc = get_or ns (4 * k) 0; weekday = get_or ns (4 * k + 1) 0; from = get_or ns (4 * k + 2) 0; to = get_or ns (4 * k + 3) 0 }

unfoldable pub windows_in : List ℕ → List Window
unfolding below
windows_in numbers = map (window_in numbers) (below (length numbers / 4))

-- ---- the plan at a departure

-- "A window of that weekday shuts its arc when from ≤ t < to." Whether a window shuts arc k;
-- whether one of a list does. "Windows may overlap."
unfoldable pub shuts : Departure → ℕ → Window → Bool
shuts d k w = eqb w.arc k && (eqb w.weekday d.weekday && (leb w.from d.minute && ltb d.minute w.to))

unfoldable pub is_shut : List Window → Departure → ℕ → Bool
unfolding any_of shuts
is_shut windows d k = any_of (shuts d k) windows

-- "The arc then counts as closed for that plan call." THE PLAN OF THE CALL: the file's, with the arcs that are shut at
-- departure closed; "later minutes play no part".
unfoldable pub closed_if : Bool → Arc → Arc
closed_if shut a = record { tail = a.tail; head = a.head; standing = cond shut 2 a.standing; cost = a.cost; service = a.service }

unfoldable pub plan_at : Plan → List Window → Departure → Plan
unfolding closed_if is_shut below
plan_at p windows d = record { n = p.n; arcs = map (λ k. closed_if (is_shut windows d k) (arc_at p.arcs k)) (below (length p.arcs)) }

-- Drives "that avoid arcs shut at departure". `Laws.Windows`: where no must arc is shut, the drives of that plan are the drives of the
-- file's plan that avoid them, at equal costs.
abbrev pub Avoids : List Window → Departure → List ℕ → Type 0
Avoids windows d w = (k : ℕ) → Memᴰ k w → T (not (is_shut windows d k))

-- ---- the refusals

-- 19 bad window: "a field, the list length or the departure breaks these limits". Every window is tested, of whatever weekday.
unfoldable pub is_bad_window : ℕ → Window → Bool
is_bad_window m w = leb m w.arc || (ltb 6 w.weekday || (leb w.to w.from || ltb 1440 w.to))

unfoldable pub is_bad_departure : Departure → Bool
is_bad_departure d = ltb 6 d.weekday || ltb 1439 d.minute

unfoldable pub is_bad_length : ℕ → Bool
is_bad_length numbers = not (eqb (numbers % 4) 0) || ltb 128 (numbers / 4)

unfoldable pub has_bad_window : ℕ → List ℕ → Departure → Bool
unfolding is_bad_departure is_bad_length is_bad_window windows_in any_of
has_bad_window m numbers d = is_bad_departure d || (is_bad_length (length numbers) || any_of (is_bad_window m) (windows_in numbers))

-- 20 must shut: "a must arc is shut"
unfoldable pub is_must_shut : Plan → List Window → Departure → Bool
unfolding any_of is_shut required_numbers
is_must_shut p windows d = any_of (is_shut windows d) (required_numbers p)

-- "19 then 20, after 9, before 10"; from 10 on the plan is that of the departure.
unfoldable pub window_conditions : Plan → List ℕ → Departure → Conditions
unfolding has_bad_window is_must_shut windows_in
window_conditions p numbers d = (has_bad_window (length p.arcs) numbers d, 19) ∷ (is_must_shut p (windows_in numbers) d, 20) ∷ []

unfoldable pub earlier_conditions_at : List ℕ → ℕ → ℕ → List ℕ → Departure → Conditions
unfolding conditions_before window_conditions windows_in plan_at plan_of
earlier_conditions_at bytes budget places numbers d =
    conditions_before bytes budget places (window_conditions (plan_of bytes) numbers d) (plan_at (plan_of bytes) (windows_in numbers) d)

unfoldable pub call_refusal_at : List ℕ → ℕ → ℕ → List ℕ → Departure → Option ℕ
unfolding first_refusal earlier_conditions_at is_cut_off windows_in plan_at plan_of
call_refusal_at bytes budget places numbers d =
    first_refusal (earlier_conditions_at bytes budget places numbers d ++ (is_cut_off (plan_at (plan_of bytes) (windows_in numbers) d), 12) ∷ [])
