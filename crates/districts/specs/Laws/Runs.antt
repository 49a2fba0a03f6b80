-- Over runs, by induction on the events. What is known of a line that a run from the empty machine leads to: at most eight districts, at
-- places below 8 that are apart; each has the plan and the budget of the last entry that was answered its place, has tried 1,000 trees in
-- each of its turns since, and is not finished.
use Rattle.std.specs.Prelude.{◌≡◌, ◌≢◌, Bool, not, ◌&&◌, length, eqb}
use Rattle.std.proofs.Math.Path.{refl, subst, subst⁻¹}
use Rattle.std.proofs.Common.{sym, ap, ◌∙◌, T_not, eqb→eq}
use Rattle.std.proofs.Math.Logic.{inl, inr}
use Rattle.std.proofs.Math.Bool.{true, false, cond}
use mathlib.Core.List.Memᴰ
use mathlib.Core.List.{List, [], ◌∷◌, ◌++◌, Memᴰ}
use Rattle.std.proofs.Math.Option.{Option, none, some}
use Prim.Native.Nat.{ℕ, zero, suc, ◌+◌, ◌-◌, ◌*◌, ◌≤◌, ◌<◌}
use native.Mathlib.Omega.{arith}
use Rattle.std.proofs.Math.ListN.{length-append}
use Rattle.std.proofs.Math.Dec.{T, nleb→lt, eqb_refl}
use Rattle.postman.specs.Laws.Tests.{is_true, is_false}
use Rattle.postman.specs.Districts.{District, district, Line, entry_refusal, lowest_free, enter, total, gone_on, finishes, turn, is_accepted}
use Rattle.postman.specs.DistrictRuns.{Event, entry, turned, step, run_from, run, serves_place, is_turn, is_turn_of, turns_in, enters_at, Entry, entry_of, last_entry, turns_since, Waits, NoTurnOf}
use Rattle.postman.specs.Refusal.{is_good}
use Rattle.district_machine.specs.Laws.Places.{free_small, free_other}
use Rattle.district_entry.specs.Laws.Line.{room, some_total, enter_refused, enter_accepted, Apart, last_cases, apart_more, waits_entry, waits_turn}

-- ---- waiting

-- the front district is served
front_served : {d : District} (l : Line) → Waits l 0 d → T (serves_place l d.place)
unfolding serves_place
front_served {d} l w = at w.ahead w.line w.number
  where
    at : (a : Line) → l ≡ a ++ d ∷ w.behind → length a ≡ 0 → T (serves_place l d.place)
    at [] e n = subst⁻¹ (λ (y : Line). T (serves_place y d.place)) e (eqb_refl d.place)
    at (f ∷ a) e n = absurd (omega arith)

-- one event, which is no turn of d: those ahead of it are fewer by the turn, if it is one
module _ {d : District} (l : Line) where
  waits_step : (i : ℕ) (e : Event) → Waits l i d → T (not (is_turn_of d.place l e))
      → (cond (is_turn l e) 1 0 ≤ i) × Waits (step l e) (i - cond (is_turn l e) 1 0) d
  unfolding is_turn step
  waits_step i (entry bytes budget) w never =
      (omega arith, subst (λ n. Waits (enter l bytes budget) n d) (let e : i ≡ i - 0 = omega arith in e) (waits_entry l bytes budget w))
  waits_step i (turned sheet) w never = at i (is_accepted l sheet) w never
    where
      at : (i : ℕ) (b : Bool) → Waits l i d → T (not (b && serves_place l d.place))
          → (cond b 1 0 ≤ i) × Waits (cond b (turn l) l) (i - cond b 1 0) d
      at i false w never = (omega arith, subst (λ n. Waits l n d) (let e : i ≡ i - 0 = omega arith in e) w)
      at zero true w never = absurd (T_not (serves_place l d.place) never (front_served l w))
      at (suc i) true w never = (omega arith, subst (λ n. Waits (turn l) n d) (let e : i ≡ suc i - 1 = omega arith in e) (waits_turn l w))

pub waits_run : {d : District} (l : Line) (i : ℕ) → Waits l i d → (es : List Event) → NoTurnOf d.place l es
    → (turns_in l es ≤ i) × Waits (run_from l es) (i - turns_in l es) d
unfolding NoTurnOf turns_in run_from
waits_run {d} l i w [] never = (omega arith, subst (λ n. Waits l n d) (let e : i ≡ i - 0 = omega arith in e) w)
waits_run {d} l i w (e ∷ es) never =
    let r = waits_run l i w es never.1 in
    let s = waits_step (run_from l es) (i - turns_in l es) e r.1 never.0 in
    let x : ℕ = cond (is_turn (run_from l es) e) 1 0 in
    let a = s.0 in
    let b = r.0 in (
      omega arith,
      subst (λ n. Waits (run_from l (e ∷ es)) n d) (let q : i - turns_in l es - x ≡ i - (x + turns_in l es) = omega arith in q) s.1,
    )

-- one that is in the line waits in it
pub waits_in : (l : Line) (d : District) → Memᴰ d l → (i : ℕ) × Waits l i d
waits_in [] d m = elim m [ ]
waits_in (x ∷ l) d m = elim (Memᴰ.cases_cons m) [
  | inl e ↦ (0, record { ahead = []; behind = l; line = ap (λ (y : District). y ∷ l) (sym e); number = refl })
  | inr k ↦ (let r = waits_in l d k in (
    suc r.0,
    record {
      ahead = x ∷ r.1.ahead;
      behind = r.1.behind;
      line = ap (λ (y : Line). x ∷ y) r.1.line;
      number = ap suc r.1.number;
    },
  ))
]

-- ---- what is known of a line

-- Of a district, where `last` is the last entry of its place, and it has had n turns since.
pub record Known (last : Entry) (n : ℕ) (d : District) : Type 0 where
  pub small : d.place < 8
  pub bytes_are : d.bytes ≡ last.bytes
  pub budget_is : d.budget ≡ last.budget
  pub tried_are : d.tried ≡ n * 1000
  pub unfinished : d.tried < total d

pub record InOrder (last : ℕ → Entry) (n : ℕ → ℕ) (l : Line) : Type 0 where
  pub short : length l ≤ 8
  pub apart : Apart l
  pub each : (d : District) → Memᴰ d l → Known (last d.place) (n d.place) d

abbrev last_now : (ℕ → Entry) → Line → Event → ℕ → Entry
last_now last l e q = cond (enters_at q l e) (entry_of e) (last q)

abbrev turns_now : (ℕ → ℕ) → Line → Event → ℕ → ℕ
turns_now n l e q = cond (enters_at q l e) 0 (cond (is_turn_of q l e) 1 0 + n q)

not_same : {i j : ℕ} → i ≢ j → eqb i j ≡ false
not_same {i} {j} h = is_false (λ t. h (eqb→eq i j t))

module _ (last : ℕ → Entry) (n : ℕ → ℕ) where
  -- as it was, for a district that does not enter and has no turn
  stays : (l : Line) (e : Event) (d : District) → enters_at d.place l e ≡ false → is_turn_of d.place l e ≡ false
      → Known (last d.place) (n d.place) d
      → Known (last_now last l e d.place) (turns_now n l e d.place) d
  stays l e d a b k = rw (a, b) (subst (λ m. Known (last d.place) m d) (let q : n d.place ≡ 0 + n d.place = omega arith in q) k)

  -- an entry
  module _ (l : Line) (bytes : List ℕ) (budget : ℕ) (h : InOrder last n l) where
    abbrev e : Event
    e = entry bytes budget

    abbrev x : District
    x = district (lowest_free l) bytes budget 0

    entry_no_turn : (q : ℕ) → is_turn_of q l e ≡ false
    unfolding is_turn
    entry_no_turn q = refl

    refused_not : (r q : ℕ) → entry_refusal l bytes budget ≡ some r → enters_at q l e ≡ false
    unfolding enters_at is_good
    refused_not r q g = rw g refl

    accepted_other : (q : ℕ) → q ≢ lowest_free l → entry_refusal l bytes budget ≡ none → enters_at q l e ≡ false
    unfolding enters_at is_good
    accepted_other q o g = rw g (not_same (λ t. o (sym t)))

    accepted_there : entry_refusal l bytes budget ≡ none → enters_at (lowest_free l) l e ≡ true
    unfolding enters_at is_good
    accepted_there g = rw g (is_true (eqb_refl (lowest_free l)))

    entered : entry_refusal l bytes budget ≡ none → Known (last_now last l e (lowest_free l)) (turns_now n l e (lowest_free l)) x
    unfolding entry_of
    entered g = rw (accepted_there g)
        (record {
          small = free_small l (room l bytes budget g);
          bytes_are = refl;
          budget_is = refl;
          tried_are = refl;
          unfinished = some_total l bytes budget g;
        })

    entry_kept : InOrder (last_now last l e) (turns_now n l e) (enter l bytes budget)
    entry_kept = at (entry_refusal l bytes budget) refl
      where
        at : (o : Option ℕ) → entry_refusal l bytes budget ≡ o → InOrder (last_now last l e) (turns_now n l e) (enter l bytes budget)
        at (some r) g = subst⁻¹ (λ (y : Line). InOrder (last_now last l e) (turns_now n l e) y) (enter_refused l bytes budget r g)
            (record {
              short = h.short;
              apart = h.apart;
              each = λ d m. stays l e d (refused_not r d.place g) (entry_no_turn d.place) (h.each d m);
            })
        at none g = subst⁻¹ (λ (y : Line). InOrder (last_now last l e) (turns_now n l e) y) (enter_accepted l bytes budget g)
            (let few = room l bytes budget g in
            record {
              short = (let a = length-append l (x ∷ []) in omega arith);
              apart = apart_more l x h.apart (λ d m. free_other l few d m);
              each = λ d m. elim (last_cases l m) [
                | inl i ↦ stays l e d (accepted_other d.place (free_other l few d i) g) (entry_no_turn d.place) (h.each d i)
                | inr q ↦ subst⁻¹ (λ (d : District). Known (last_now last l e d.place) (turns_now n l e d.place) d) q (entered g)
              ];
            })

  -- a turn
  no_entry : (l : Line) (sheet q : ℕ) → enters_at q l (turned sheet) ≡ false
  unfolding enters_at
  no_entry l sheet q = refl

  no_turn : (l : Line) (sheet q : ℕ) → is_accepted l sheet ≡ false → is_turn_of q l (turned sheet) ≡ false
  unfolding is_turn
  no_turn l sheet q g = rw g refl

  idle_kept : (l : Line) (sheet : ℕ) → is_accepted l sheet ≡ false → InOrder last n l
      → InOrder (last_now last l (turned sheet)) (turns_now n l (turned sheet)) l
  idle_kept l sheet g h = record {
    short = h.short;
    apart = h.apart;
    each = λ d m. stays l (turned sheet) d (no_entry l sheet d.place) (no_turn l sheet d.place g) (h.each d m);
  }

  module _ (f : District) (l : Line) (sheet : ℕ) (g : is_accepted (f ∷ l) sheet ≡ true) (h : InOrder last n (f ∷ l)) where
    abbrev t : Event
    t = turned sheet

    other : (d : District) → d.place ≢ f.place → is_turn_of d.place (f ∷ l) t ≡ false
    unfolding is_turn serves_place
    other d o = rw g (not_same (λ q. o (sym q)))

    served : is_turn_of f.place (f ∷ l) t ≡ true
    unfolding is_turn serves_place
    served = rw g (is_true (eqb_refl f.place))

    apart_front : ((d : District) → Memᴰ d l → d.place ≢ f.place) × Apart l
    unfolding Apart
    apart_front = h.apart

    behind : (d : District) → Memᴰ d l → Known (last_now last (f ∷ l) t d.place) (turns_now n (f ∷ l) t d.place) d
    behind d m = stays (f ∷ l) t d (no_entry (f ∷ l) sheet d.place) (other d (apart_front.0 d m)) (h.each d (Memᴰ.tail m))

    went_on : T (not (finishes f)) → Known (last_now last (f ∷ l) t f.place) (turns_now n (f ∷ l) t f.place) (gone_on f)
    unfolding finishes total
    went_on u =
        let k = h.each f (Memᴰ.head refl) in
        let e = k.tried_are in
        rw (no_entry (f ∷ l) sheet f.place, served) (record {
          small = k.small;
          bytes_are = k.bytes_are;
          budget_is = k.budget_is;
          tried_are = omega arith;
          unfinished = nleb→lt (total f) (f.tried + 1000) u;
        })

    turn_kept : InOrder (last_now last (f ∷ l) t) (turns_now n (f ∷ l) t) (turn (f ∷ l))
    unfolding turn
    turn_kept = at (finishes f) refl
      where
        at : (b : Bool) → finishes f ≡ b → InOrder (last_now last (f ∷ l) t) (turns_now n (f ∷ l) t) (cond b l (l ++ gone_on f ∷ []))
        at true q = record { short = (let a = h.short in omega arith); apart = apart_front.1; each = behind }
        at false q = record {
          short = (let a = h.short in let b = length-append l (gone_on f ∷ []) in omega arith);
          apart = apart_more l (gone_on f) apart_front.1 apart_front.0;
          each = λ d m. elim (last_cases l m) [
            | inl i ↦ behind d i
            | inr y ↦ subst⁻¹ (λ (d : District). Known (last_now last (f ∷ l) t d.place) (turns_now n (f ∷ l) t d.place) d) y
                (went_on (subst⁻¹ (λ (b : Bool). T (not b)) q tt))
          ];
        }

  none_accepted : (sheet : ℕ) → is_accepted [] sheet ≡ false
  unfolding is_accepted
  none_accepted sheet = refl

  pub step_kept : (l : Line) (e : Event) → InOrder last n l → InOrder (last_now last l e) (turns_now n l e) (step l e)
  unfolding step
  step_kept l (entry bytes budget) h = entry_kept l bytes budget h
  step_kept [] (turned sheet) h = at (is_accepted [] sheet) refl
    where
      at : (b : Bool) → is_accepted [] sheet ≡ b
          → InOrder (last_now last [] (turned sheet)) (turns_now n [] (turned sheet)) (cond b (turn []) [])
      at true q = absurd (subst T (sym q ∙ none_accepted sheet) tt)
      at false q = idle_kept [] sheet q h
  step_kept (f ∷ l) (turned sheet) h = at (is_accepted (f ∷ l) sheet) refl
    where
      at : (b : Bool) → is_accepted (f ∷ l) sheet ≡ b
          → InOrder (last_now last (f ∷ l) (turned sheet)) (turns_now n (f ∷ l) (turned sheet)) (cond b (turn (f ∷ l)) (f ∷ l))
      at true q = turn_kept f l sheet q h
      at false q = idle_kept (f ∷ l) sheet q h

-- EVERY RUN FROM THE EMPTY MACHINE
pub run_kept : (es : List Event) → InOrder (λ q. last_entry q es) (λ q. turns_since q es) (run es)
unfolding last_entry turns_since run_from Apart
run_kept [] = record { short = omega arith; apart = tt; each = λ d m. elim m [ ] }
run_kept (e ∷ es) = step_kept (λ q. last_entry q es) (λ q. turns_since q es) (run es) e (run_kept es)
