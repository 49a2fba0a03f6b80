-- One step. A line keeps its order: an entry and a district that goes on come to the back, so that those ahead of a
-- district only leave; and places stay apart.
use Rattle.std.specs.Prelude.{◌≡◌, refl, ◌⊎◌, ◌≢◌, Bool, not, ℕ, suc, ◌≤◌, ◌<◌, length, leb, ltb, eqb}
use Rattle.std.proofs.Common.{sym, ap, ◌∙◌, inl, inr, length-append, nltb→le}
use Rattle.std.proofs.Math.Path.{subst⁻¹}
use Rattle.std.proofs.Math.Bool.{true, false}
use mathlib.Core.List.Memᴰ
use mathlib.Core.List.{List, [], ◌∷◌, ◌++◌, append_assoc, Memᴰ}
use Rattle.std.proofs.Math.Option.{Option, none, some}
use native.Mathlib.Omega.{arith}
use Rattle.std.proofs.Math.Dec.{T, nleb→lt}
use Rattle.postman.specs.Plan.{Plan, WellFormed, required_arcs}
use Rattle.postman.specs.Refusal.{Conditions, first_refusal, unless}
use Rattle.postman.specs.PlanFile.{file_conditions, is_outside, plan_of}
use Rattle.postman.specs.Component.{component_count}
use Rattle.postman.specs.PlanCall.{highest_budget, is_cut_off, parts_conditions, last_conditions, tried_count}
use Rattle.postman.specs.Laws.Tests.{cond_ind, eqb_other, is_false}
use Rattle.postman_laws.specs.Laws.Refusal.{accepted_cons, accepted_append}
use Rattle.postman_laws.specs.Laws.Acceptance.{file_accepted, inside}
use Rattle.postman.specs.Steps.{Plannable}
use Rattle.postman_laws.specs.Laws.Optimality.{some_arborescence}
use Rattle.call_steps.specs.Refusals.{plan_refusal}
use Rattle.call_steps.specs.Laws.Call.{parts_refusal}
use Rattle.postman.specs.Districts.{District, district, Line, entry_conditions, entry_refusal, lowest_free, enter, total, gone_on, finishes, turn}
use Rattle.postman.specs.DistrictRuns.{Waits}

-- ---- a plan that 10, 11 and 12 do not refuse

pub plan_ok : (p : Plan) → WellFormed p → first_refusal (last_conditions p) ≡ none → Plannable p × (component_count p ≤ 8)
unfolding parts_conditions
plan_ok p w e =
    let a = accepted_append (parts_conditions p) ((is_cut_off p, 12) ∷ []) e in
    let ten = accepted_cons (eqb (length (required_arcs p)) 0) 10 _ a.0 in
    let eleven = accepted_cons (ltb 8 (component_count p)) 11 [] ten.1 in
    let some : length (required_arcs p) ≢ 0 = eqb_other ten.0 in (
      record {
        well_formed = w;
        some_arc = omega arith;
        connected = (accepted_cons (is_cut_off p) 12 [] a.1).0;
      },
      nltb→le 8 (component_count p) eleven.0,
    )

-- ---- what an accepted entry makes sure of

module _ (l : Line) (bytes : List ℕ) (budget : ℕ) (e : entry_refusal l bytes budget ≡ none) where
  abbrev p : Plan
  p = plan_of bytes

  abbrev full : Conditions
  full = (leb 8 (length l), 22) ∷ []

  pub parts : (first_refusal (file_conditions bytes) ≡ none)
      × (first_refusal ((is_outside budget 1 highest_budget, 9) ∷ (last_conditions p ++ full)) ≡ none)
  unfolding entry_refusal entry_conditions
  parts = accepted_append (file_conditions bytes) ((is_outside budget 1 highest_budget, 9) ∷ (last_conditions p ++ full)) e

  pub later : T (not (is_outside budget 1 highest_budget)) × (first_refusal (last_conditions p ++ full) ≡ none)
  later = accepted_cons (is_outside budget 1 highest_budget) 9 (last_conditions p ++ full) parts.1

  ends : (first_refusal (last_conditions p) ≡ none) × (first_refusal full ≡ none)
  ends = accepted_append (last_conditions p) full later.1

  pub plan_good : plan_refusal p ≡ none
  plan_good = sym (parts_refusal p (file_accepted bytes parts.0)) ∙ ends.0

  pub room : length l < 8
  room = nleb→lt 8 (length l) (accepted_cons (leb 8 (length l)) 22 [] ends.1).0

  plannable : Plannable p
  plannable = (plan_ok p (file_accepted bytes parts.0) ends.0).0

  pub some_total : 0 < total (district (lowest_free l) bytes budget 0)
  unfolding total tried_count
  some_total =
      let s = some_arborescence p plannable in
      let o = (inside budget 1 highest_budget (is_false (λ t. nothing (is_outside budget 1 highest_budget) later.0 t))).0 in
      omega arith
    where
      nothing : (b : Bool) → T (not b) → T b → ⊥
      nothing true s t = s
      nothing false s t = t

-- ---- an entry, accepted or not

pub enter_refused : (l : Line) (bytes : List ℕ) (budget r : ℕ) → entry_refusal l bytes budget ≡ some r → enter l bytes budget ≡ l
unfolding enter unless
enter_refused l bytes budget r e = rw e refl

pub enter_accepted : (l : Line) (bytes : List ℕ) (budget : ℕ) → entry_refusal l bytes budget ≡ none
    → enter l bytes budget ≡ l ++ district (lowest_free l) bytes budget 0 ∷ []
unfolding enter unless
enter_accepted l bytes budget e = rw e refl

-- ---- places are apart

unfoldable pub Apart : Line → Type 0
Apart [] = Unit {0}
Apart (d ∷ l) = ((e : District) → Memᴰ e l → e.place ≢ d.place) × Apart l

pub last_cases : {d x : District} (l : Line) → Memᴰ d (l ++ x ∷ []) → Memᴰ d l ⊎ (d ≡ x)
last_cases l m = elim (Memᴰ.append_cases l m) [
  | inl a ↦ inl a
  | inr b ↦ elim (Memᴰ.cases_cons b) [ inl e ↦ inr e | inr n ↦ elim n [ ] ]
]

pub apart_more : (l : Line) (x : District) → Apart l → ((e : District) → Memᴰ e l → e.place ≢ x.place) → Apart (l ++ x ∷ [])
unfolding Apart
apart_more [] x a h = ((λ e m. elim m [ ]), tt)
apart_more (d ∷ l) x a h = (
  λ e m q. elim (last_cases l m) [
    | inl n ↦ a.0 e n q
    | inr y ↦ h d (Memᴰ.head refl) (sym q ∙ ap (λ (z : District). z.place) y)
  ],
  apart_more l x a.1 (λ e m. h e (Memᴰ.tail m)),
)

-- ---- the order of the line

pub waits_short : {l : Line} {i : ℕ} {d : District} → Waits l i d → i < length l
waits_short {l} {i} {d} w =
    let e = ap length w.line in
    let a = length-append w.ahead (d ∷ w.behind) in
    let n = w.number in
    omega arith

waits_more : {l : Line} {i : ℕ} {d : District} (x : District) → Waits l i d → Waits (l ++ x ∷ []) i d
waits_more {l} {i} {d} x w = record {
  ahead = w.ahead;
  behind = w.behind ++ x ∷ [];
  line = ap (λ (y : Line). y ++ x ∷ []) w.line ∙ append_assoc w.ahead (d ∷ w.behind) (x ∷ []);
  number = w.number;
}

pub waits_entry : {i : ℕ} {d : District} (l : Line) (bytes : List ℕ) (budget : ℕ) → Waits l i d → Waits (enter l bytes budget) i d
waits_entry {i} {d} l bytes budget w = at (entry_refusal l bytes budget) refl
  where
    at : (o : Option ℕ) → entry_refusal l bytes budget ≡ o → Waits (enter l bytes budget) i d
    at none e = subst⁻¹ (λ (y : Line). Waits y i d) (enter_accepted l bytes budget e) (waits_more _ w)
    at (some r) e = subst⁻¹ (λ (y : Line). Waits y i d) (enter_refused l bytes budget r e) w

-- one that is ahead has a turn
pub waits_turn : {i : ℕ} {d : District} (l : Line) → Waits l (suc i) d → Waits (turn l) i d
unfolding turn
waits_turn {i} {d} l w = at w.ahead w.line w.number
  where
    gone : (f : District) (a : Line) → length a ≡ i → Waits (turn (f ∷ (a ++ d ∷ w.behind))) i d
    gone f a n =
        let v : Waits (a ++ d ∷ w.behind) i d = record { ahead = a; behind = w.behind; line = refl; number = n } in
        cond_ind (finishes f) (a ++ d ∷ w.behind) ((a ++ d ∷ w.behind) ++ gone_on f ∷ []) (λ (y : Line). Waits y i d) (λ t. v)
        (λ t. waits_more (gone_on f) v)

    at : (a : Line) → l ≡ a ++ d ∷ w.behind → length a ≡ suc i → Waits (turn l) i d
    at [] e n = absurd (omega arith)
    at (f ∷ a) e n = subst⁻¹ (λ (y : Line). Waits (turn y) i d) e (gone f a (omega arith))
