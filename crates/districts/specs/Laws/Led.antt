-- Machines that entries and turns lead to. By the contracts each step's line is the definition's, so that a machine's line is its
-- run's, and what runs promise holds of the calls.
use Rattle.std.specs.Prelude.{◌≡◌, Bool, true, false, cond, ◌&&◌, ℕ, ◌+◌, ◌≤◌, ◌<◌, length, eqb}
use Rattle.std.proofs.Math.Path.{refl, ap, subst⁻¹}
use Rattle.std.proofs.Common.{sym, ◌∙◌, inl, inr, arith, lt-ltb, le-ltb, length-append}
use Rattle.std.proofs.Math.Bool.{not}
use mathlib.Core.List.Memᴰ
use mathlib.Core.List.{List, [], ◌∷◌, ◌++◌, map, Memᴰ, map-append}
use Rattle.postman.specs.PlanCall.{sheet_places}
use Rattle.district_machine.specs.declared.machine.District.{District as DistrictRecord}
use Rattle.district_machine.specs.declared.machine.Machine.{Machine}
use Rattle.postman.specs.Districts.{District, Line, enter, gone_on, finishes, turn, is_accepted}
use Rattle.postman.specs.DistrictRuns.{Event, entry, turned, step, run_from, run, serves_place}
use Rattle.district_machine.specs.Machine.{district_of, waiting_in, line_of, empty_machine}
use Rattle.districts.specs.Number.{had_turn, is_of}
use Rattle.district_entry.specs.Entered.{after_entry}
use Rattle.districts.specs.Turned.{Meeting, meeting, held_now, reached_now, after_turn, outcome_of}
use Rattle.districts.specs.Led.{LedFrom, Led}
use Rattle.district_machine.specs.Laws.Held.{line_is}
use Rattle.district_entry.specs.Laws.Entered.{entry_line}
use Rattle.districts.specs.Laws.Runs.{run_kept}
use Rattle.districts.specs.Laws.Sound.{IsUnderWay, IsSound, sound_of, gone_on_lem, still_under_way, entry_sound, Met, no_one, too_short, going, last, InPlace, meets}

-- ---- a turn of a sound machine

module _ (m : Machine) (sheet : ℕ) where
  -- accepted or not
  abbrev stepped : Line → Line
  stepped l = cond (is_accepted l sheet) (turn l) l

  none_accepted : is_accepted [] sheet ≡ false
  unfolding is_accepted
  none_accepted = refl

  short_not : (d : District) (l : Line) → sheet < sheet_places → is_accepted (d ∷ l) sheet ≡ false
  unfolding is_accepted
  short_not d l s = ap not (lt-ltb sheet sheet_places s)

  long_is : (d : District) (l : Line) → sheet_places ≤ sheet → is_accepted (d ∷ l) sheet ≡ true
  unfolding is_accepted
  long_is d l s = ap not (le-ltb sheet sheet_places s)

  stays : (l : Line) → is_accepted l sheet ≡ false → stepped l ≡ l
  stays l e = ap (λ (b : Bool). cond b (turn l) l) e

  turns : (l : Line) → is_accepted l sheet ≡ true → stepped l ≡ turn l
  turns l e = ap (λ (b : Bool). cond b (turn l) l) e

  turn_goes : (d : District) (l : Line) → finishes d ≡ false → turn (d ∷ l) ≡ l ++ gone_on d ∷ []
  unfolding turn
  turn_goes d l f = rw f refl

  turn_leaves : (d : District) (l : Line) → finishes d ≡ true → turn (d ∷ l) ≡ l
  unfolding turn
  turn_leaves d l f = rw f refl

  line_by : (f : DistrictRecord) (ds : List DistrictRecord) → waiting_in m ≡ f ∷ ds → line_of m ≡ district_of f ∷ map district_of ds
  line_by f ds e = ap (λ (x : List DistrictRecord). map district_of x) e

  -- THE LINE AFTER IT
  pub met_line : Met m sheet → line_of (after_turn m (meeting m sheet)) ≡ stepped (line_of m)
  met_line (no_one e k) = ap (λ (x : Meeting). line_of (after_turn m x)) k ∙ e ∙ sym (ap stepped e ∙ stays [] none_accepted)
  met_line (too_short f ds e s k) =
      ap (λ (x : Meeting). line_of (after_turn m x)) k ∙ line_by f ds e ∙ sym (ap stepped (line_by f ds e) ∙ stays _ (short_not _ _ s))
  met_line (going f ds e s u q k) =
      ap (λ (x : Meeting). line_of (after_turn m x)) k
      ∙ line_is (ds ++ held_now f (reached_now f) ∷ [])
      ∙ map-append district_of ds (held_now f (reached_now f) ∷ [])
      ∙ ap (λ (y : District). map district_of ds ++ y ∷ []) (gone_on_lem f u q)
      ∙ sym (ap stepped (line_by f ds e) ∙ turns _ (long_is _ _ s) ∙ turn_goes (district_of f) (map district_of ds) q)
  met_line (last f ds e s u q k) =
      ap (λ (x : Meeting). line_of (after_turn m x)) k ∙ line_is ds
      ∙ sym (ap stepped (line_by f ds e) ∙ turns _ (long_is _ _ s) ∙ turn_leaves (district_of f) (map district_of ds) q)

  -- AN ANSWERED TURN IS AN ACCEPTED ONE, and of the front district
  pub met_answered : Met m sheet → had_turn (outcome_of (meeting m sheet)) ≡ is_accepted (line_of m) sheet
  met_answered (no_one e k) = ap (λ (x : Meeting). had_turn (outcome_of x)) k
      ∙ sym (ap (λ (l : Line). is_accepted l sheet) e ∙ none_accepted)
  met_answered (too_short f ds e s k) =
      ap (λ (x : Meeting). had_turn (outcome_of x)) k ∙ sym (ap (λ (l : Line). is_accepted l sheet) (line_by f ds e) ∙ short_not _ _ s)
  met_answered (going f ds e s u q k) =
      ap (λ (x : Meeting). had_turn (outcome_of x)) k ∙ sym (ap (λ (l : Line). is_accepted l sheet) (line_by f ds e) ∙ long_is _ _ s)
  met_answered (last f ds e s u q k) =
      ap (λ (x : Meeting). had_turn (outcome_of x)) k ∙ sym (ap (λ (l : Line). is_accepted l sheet) (line_by f ds e) ∙ long_is _ _ s)

  abbrev of : ℕ → Line → Bool
  of x l = is_accepted l sheet && serves_place l x

  of_none : (x : ℕ) (l : Line) → is_accepted l sheet ≡ false → of x l ≡ false
  of_none x l e = ap (λ (b : Bool). b && serves_place l x) e

  of_front : (x : ℕ) (d : District) (l : Line) → sheet_places ≤ sheet → of x (d ∷ l) ≡ eqb d.place x
  unfolding serves_place
  of_front x d l s = ap (λ (b : Bool). b && serves_place (d ∷ l) x) (long_is d l s)

  pub met_of : (x : ℕ) → Met m sheet → is_of x (outcome_of (meeting m sheet)) ≡ of x (line_of m)
  met_of x (no_one e k) = ap (λ (y : Meeting). is_of x (outcome_of y)) k ∙ sym (ap (of x) e ∙ of_none x [] none_accepted)
  met_of x (too_short f ds e s k) =
      ap (λ (y : Meeting). is_of x (outcome_of y)) k ∙ sym (ap (of x) (line_by f ds e) ∙ of_none x _ (short_not _ _ s))
  met_of x (going f ds e s u q k) = ap (λ (y : Meeting). is_of x (outcome_of y)) k ∙ sym (ap (of x) (line_by f ds e) ∙ of_front x _ _ s)
  met_of x (last f ds e s u q k) = ap (λ (y : Meeting). is_of x (outcome_of y)) k ∙ sym (ap (of x) (line_by f ds e) ∙ of_front x _ _ s)

  -- IT STAYS SOUND
  module _ (h : IsSound m) where
    under_way : (f : DistrictRecord) (ds : List DistrictRecord) → waiting_in m ≡ f ∷ ds → (d : DistrictRecord) → Memᴰ d ds
        → IsUnderWay d
    under_way f ds e d x = h.each d (subst⁻¹ (λ (y : List DistrictRecord). Memᴰ d y) e (Memᴰ.tail x))

    number : (f : DistrictRecord) (ds : List DistrictRecord) → waiting_in m ≡ f ∷ ds → length ds + 1 ≤ 8
    number f ds e =
        let a = ap (λ (x : Machine). x.waiting) h.exact in
        let b = ap length e in
        let c = h.few in
        omega arith

    pub met_sound : Met m sheet → IsSound (after_turn m (meeting m sheet))
    met_sound (no_one e k) = subst⁻¹ (λ (x : Meeting). IsSound (after_turn m x)) k h
    met_sound (too_short f ds e s k) = subst⁻¹ (λ (x : Meeting). IsSound (after_turn m x)) k h
    met_sound (going f ds e s u q k) =
        let a = length-append ds (held_now f (reached_now f) ∷ []) in
        let b = number f ds e in
        subst⁻¹ (λ (x : Meeting). IsSound (after_turn m x)) k
        (sound_of (ds ++ held_now f (reached_now f) ∷ []) (omega arith) (λ d y. elim (Memᴰ.append_cases ds y) [
          | inl i ↦ under_way f ds e d i
          | inr o ↦ elim (Memᴰ.cases_cons o) [ inl w ↦ subst⁻¹ IsUnderWay w (still_under_way f u q) | inr z ↦ elim z [ ] ]
        ]))
    met_sound (last f ds e s u q k) = let b = number f ds e in
        subst⁻¹ (λ (x : Meeting). IsSound (after_turn m x)) k (sound_of ds (omega arith) (under_way f ds e))

-- ---- runs

empty_sound : IsSound empty_machine
empty_sound = sound_of [] (omega arith) (λ d x. elim x [ ])

pub in_place : (es : List Event) (m : Machine) → line_of m ≡ run es → InPlace (line_of m)
in_place es m e = subst⁻¹ InPlace e ((run_kept es).apart, λ d x. ((run_kept es).each d x).small)

-- THE LINE OF THE MACHINE IS THE RUN'S
pub led : (es : List Event) (m : Machine) → Led es m → (line_of m ≡ run es) × IsSound m
unfolding LedFrom run_from step
led [] m h = (ap (λ (x : Machine). line_of x) h ∙ line_is [], subst⁻¹ IsSound h empty_sound)
led (entry bytes budget ∷ es) m h =
    let i = led es h.0 h.2 in
    let e : m ≡ after_entry h.0 bytes budget = sym h.4 ∙ h.3.machine in (
      ap (λ (x : Machine). line_of x) e ∙ entry_line h.0 bytes budget
          ∙ ap (λ (l : Line). enter l bytes budget) i.0,
      subst⁻¹ IsSound e (entry_sound h.0 i.1 bytes budget),
    )
led (turned sheet ∷ es) m h =
    let i = led es h.0 h.4 in
    let b = h.0 in
    let e : m ≡ after_turn b (meeting b sheet) = sym h.7 ∙ h.5.machine ∙ ap (λ n. after_turn b (meeting b n)) h.6 in
    let x = meets b sheet i.1 (in_place es b i.0) in
    (ap (λ (x : Machine). line_of x) e ∙ met_line b sheet x ∙ ap (stepped b sheet) i.0, subst⁻¹ IsSound e (met_sound b sheet i.1 x))

-- what a turn meets then
pub led_meets : (es : List Event) (m : Machine) → Led es m → (sheet : ℕ) → Met m sheet
led_meets es m h sheet = let i = led es m h in meets m sheet i.1 (in_place es m i.0)
