-- A turn, by what it meets. Each test that the program makes decides one of the cases.
use Rattle.std.specs.Prelude.{◌≡◌, Bool, cond, ◌&&◌, List, [], ◌∷◌, map, ℕ, ◌≤◌, ◌<◌, length, get_or, drop, leb}
use Rattle.std.proofs.Math.Path.{refl}
use Rattle.std.proofs.Common.{sym, ap, ◌∙◌, subst, arith, length-drop, length-take-le, ltb→lt}
use Rattle.std.proofs.Math.Bool.{true, false, not, or-true}
use Rattle.std.proofs.Math.Option.{none, some}
use borrow.Author.Tests.{le-leb, lt-leb, lt-ltb, le-ltb}
use Rattle.std.proofs.Math.Dec.{ltb}
use Rattle.postman.specs.Lists.{occurs}
use Rattle.postman.specs.Plan.{Plan}
use Rattle.postman.specs.Refusal.{first_refusal, is_good}
use Rattle.postman.specs.PlanFile.{file_conditions, is_outside}
use Rattle.postman.specs.PlanCall.{sheet_places, highest_budget, tried_count}
use Rattle.call_steps.specs.Refusals.{plan_refusal}
use Rattle.district_turn.specs.declared.plan_turn.DistrictTurn.{DistrictTurn}
use Rattle.district_turn.specs.DistrictTurn.{is_holding, is_resumable, can_go_on, is_last, turn_given, sheet_given, IsDistrictTurn}
use Rattle.district_turn.specs.Laws.DistrictTurn.{and_no, and_first, and_yes}
use Rattle.district_machine.specs.declared.machine.District.{District as DistrictRecord}
use Rattle.district_machine.specs.declared.machine.Machine.{Machine}
use Rattle.districts.specs.declared.turn.Turned.{Turned}
use Rattle.postman.specs.Districts.{District, Line, places}
use Rattle.district_machine.specs.Machine.{bytes_of, district_of, line_of, waiting_in, machine_of, no_district}
use Rattle.district_machine.specs.Laws.Held.{front, waiting_are}
use Rattle.districts.specs.Number.{HasPlace}
use Rattle.postman.specs.Laws.Tests.{and_parts, of_true}
use Rattle.districts.specs.Turned.{plan_by, has_own_place, is_readable, can_be_served, Meeting, nobody, short_sheet, stuck, goes_on, leaves, meeting_in, meeting, after_turn, outcome_of, answer_of, sheet_after, turned_by, IsTurned}

-- from what is met to what is promised
pub turned_as : (m : Machine) (old new : List ℕ) (r : Turned) (k : Meeting) → meeting m (length old) ≡ k → r.outcome ≡ outcome_of k
    → r.planned ≡ answer_of k → r.machine ≡ after_turn m k → new ≡ sheet_after k old
    → IsTurned m old new r
turned_as m old new r k e a b c d = record {
  outcome = a ∙ ap outcome_of (sym e);
  planned = b ∙ ap answer_of (sym e);
  machine = c ∙ ap (after_turn m) (sym e);
  sheet = d ∙ ap (λ (k : Meeting). sheet_after k old) (sym e);
}

-- ---- what is met

pub none_met : (m : Machine) (sheet : ℕ) → m.waiting ≡ 0 → meeting m sheet ≡ nobody
unfolding meeting_in
none_met m sheet e = rw e refl

module _ (m : Machine) (f : DistrictRecord) (ds : List DistrictRecord) (ahead : waiting_in m ≡ f ∷ ds) (sheet : ℕ) where
  met : meeting m sheet ≡ meeting_in m.waiting sheet (f ∷ ds)
  met = ap (meeting_in m.waiting sheet) ahead

  pub short_met : sheet < sheet_places → meeting m sheet ≡ short_sheet
  unfolding meeting_in
  short_met l = let e : ltb sheet sheet_places ≡ true = lt-ltb sheet sheet_places l in met ∙ rw e refl

  module _ (enough : sheet_places ≤ sheet) where
    fits : ltb sheet sheet_places ≡ false
    fits = le-ltb sheet sheet_places enough

    stuck_if : (leb m.waiting 8 && (has_own_place f ds && can_be_served f)) ≡ false → meeting m sheet ≡ stuck
    unfolding meeting_in
    stuck_if e = met ∙ rw (fits, e) refl

    pub crowd_met : 8 < m.waiting → meeting m sheet ≡ stuck
    crowd_met l = stuck_if (and_first (leb m.waiting 8) _ (lt-leb m.waiting 8 l))

    pub other_met : has_own_place f ds ≡ false → meeting m sheet ≡ stuck
    other_met e = stuck_if (and_no (leb m.waiting 8) _ (and_first (has_own_place f ds) (can_be_served f) e))

    pub unserved_met : can_be_served f ≡ false → meeting m sheet ≡ stuck
    unserved_met e = stuck_if (and_no (leb m.waiting 8) _ (and_no (has_own_place f ds) (can_be_served f) e))

    module _ (few : m.waiting ≤ 8) (own : has_own_place f ds ≡ true) (can : can_be_served f ≡ true) where
      good : (leb m.waiting 8 && (has_own_place f ds && can_be_served f)) ≡ true
      good = and_yes (leb m.waiting 8) _ (le-leb m.waiting 8 few) (and_yes (has_own_place f ds) (can_be_served f) own can)

      pub last_met : is_last (plan_by f) f.budget f.held ≡ true → meeting m sheet ≡ leaves f ds
      unfolding meeting_in
      last_met e = met ∙ rw (fits, good, e) refl

      pub going_met : is_last (plan_by f) f.budget f.held ≡ false → meeting m sheet ≡ goes_on f ds
      unfolding meeting_in
      going_met e = met ∙ rw (fits, good, e) refl

-- ---- the front district's turn

and_of : (b c : Bool) → b ≡ true → (b && c) ≡ c
and_of b c e = ap (λ (x : Bool). x && c) e

module _ (m : Machine) (f : DistrictRecord) (ds : List DistrictRecord) (ahead : waiting_in m ≡ f ∷ ds) (few : m.waiting ≤ 8)
    (old new : List ℕ) (enough : sheet_places ≤ length old) where
  pub served_turned : (s : DistrictTurn) (r : Turned) → has_own_place f ds ≡ true
      → IsDistrictTurn (plan_by f) f.budget f.held (can_be_served f) old new s → r ≡ turned_by m f ds s → IsTurned m old new r
  served_turned s r own st e = at (can_be_served f) (is_last (plan_by f) f.budget f.held) refl refl st.turned st.sheet
    where
      as_met : (k : Meeting) → meeting m (length old) ≡ k → (t : DistrictTurn) → s ≡ t → (turned_by m f ds t).outcome ≡ outcome_of k
          → (turned_by m f ds t).planned ≡ answer_of k → (turned_by m f ds t).machine ≡ after_turn m k → new ≡ sheet_after k old
          → IsTurned m old new r
      as_met k met t is o a n w =
          let q = e ∙ ap (turned_by m f ds) is in
          turned_as m old new r k met (ap (λ (x : Turned). x.outcome) q ∙ o) (ap (λ (x : Turned). x.planned) q ∙ a)
          (ap (λ (x : Turned). x.machine) q ∙ n) w

      at : (c l : Bool) → can_be_served f ≡ c → is_last (plan_by f) f.budget f.held ≡ l
          → s ≡ turn_given (plan_by f) f.budget f.held c l → new ≡ sheet_given (plan_by f) f.budget f.held c l old
          → IsTurned m old new r
      at false l can last is w = as_met stuck (unserved_met m f ds ahead (length old) enough can) _ is refl refl refl w
      at true true can last is w =
          as_met (leaves f ds) (last_met m f ds ahead (length old) enough few own can last) _ is refl refl refl w
      at true false can last is w =
          as_met (goes_on f ds) (going_met m f ds ahead (length old) enough few own can last) _ is refl refl refl w

-- ---- its place

pub no_place : (d : DistrictRecord) (ds : List DistrictRecord) → 8 ≤ d.place → has_own_place d ds ≡ false
unfolding has_own_place
no_place d ds l = and_first (ltb d.place 8) (not (occurs d.place (places (map district_of ds)))) (le-ltb d.place 8 l)

pub own_is : (d : DistrictRecord) (ds : List DistrictRecord) (q : ℕ) (b : Bool) → d.place ≡ q → q < 8
    → b ≡ occurs q (places (map district_of ds)) → not b ≡ has_own_place d ds
unfolding has_own_place
own_is d ds q b e l h =
    ap not (h ∙ ap (λ (x : ℕ). occurs x (places (map district_of ds))) (sym e))
    ∙ sym (and_of (ltb d.place 8) (not (occurs d.place (places (map district_of ds)))) (lt-ltb d.place 8 (omega arith)))

-- ---- whether it can be served

module _ (d : DistrictRecord) where
  abbrev outside : Bool
  outside = is_outside d.budget 1 highest_budget

  abbrev read : Bool
  read = is_good (first_refusal (file_conditions (bytes_of d)))

  not_readable : is_readable d ≡ false → can_be_served d ≡ false
  not_readable e = and_first (is_readable d) (can_go_on (plan_by d) d.budget d.held) e

  pub too_long : 1475 < d.plan.length → can_be_served d ≡ false
  unfolding is_readable
  too_long l = not_readable (and_first (leb d.plan.length 1475) (not outside && read) (lt-leb d.plan.length 1475 l))

  pub too_dear : 1000000 < d.budget → can_be_served d ≡ false
  unfolding is_readable is_outside highest_budget
  too_dear l =
      let t : ltb 1000000 d.budget ≡ true = lt-ltb 1000000 d.budget l in
      let o : outside ≡ true = rw (t, or-true (ltb d.budget 1)) refl in
      not_readable (and_no (leb d.plan.length 1475) (not outside && read) (and_first (not outside) read (ap not o)))

  pub all_tried : d.budget ≤ d.held.tried → can_be_served d ≡ false
  unfolding tried_count
  all_tried l =
      and_no (is_readable d) (can_go_on (plan_by d) d.budget d.held)
      (and_no (is_good (plan_refusal (plan_by d))) (is_resumable (plan_by d) d.budget d.held)
      (and_no (is_holding (plan_by d) d.held) (ltb d.held.tried (tried_count (plan_by d) d.budget))
      (le-ltb d.held.tried (tried_count (plan_by d) d.budget) (omega arith))))

  pub unread : (k : ℕ) → first_refusal (file_conditions (bytes_of d)) ≡ some k → can_be_served d ≡ false
  unfolding is_readable is_good
  unread k e = not_readable (and_no (leb d.plan.length 1475) (not outside && read) (and_no (not outside) read (ap is_good e)))

  pub readable : d.plan.length ≤ 1475 → 1 ≤ d.budget → d.budget ≤ 1000000 → first_refusal (file_conditions (bytes_of d)) ≡ none
      → is_readable d ≡ true
  unfolding is_readable is_good is_outside highest_budget
  readable n o b e =
      let x : ltb d.budget 1 ≡ false = le-ltb d.budget 1 o in
      let y : ltb 1000000 d.budget ≡ false = le-ltb 1000000 d.budget b in
      let z : not outside ≡ true = rw (x, y) refl in
      and_yes (leb d.plan.length 1475) (not outside && read) (le-leb d.plan.length 1475 n)
      (and_yes (not outside) read z (ap is_good e))

  -- its plan is read
  pub turn_by_file : (p : Plan) (old new : List ℕ) (r : DistrictTurn) → p ≡ plan_by d → is_readable d ≡ true
      → IsDistrictTurn p d.budget d.held (can_go_on p d.budget d.held) old new r
      → IsDistrictTurn (plan_by d) d.budget d.held (can_be_served d) old new r
  turn_by_file p old new r e i h =
      subst (λ (c : Bool). IsDistrictTurn (plan_by d) d.budget d.held c old new r)
      (sym (and_of (is_readable d) (can_go_on (plan_by d) d.budget d.held) i))
      (subst (λ (p : Plan). IsDistrictTurn p d.budget d.held (can_go_on p d.budget d.held) old new r) e h)

-- ---- the machine's front, and the others

pub ahead_is : (m : Machine) → length m.line ≡ 8 → 1 ≤ m.waiting → waiting_in m ≡ get_or m.line 0 no_district ∷ drop 1 (waiting_in m)
ahead_is m long one = front m.line m.waiting no_district one (omega arith)

pub others_few : (m others : Machine) → length m.line ≡ 8 → 1 ≤ m.waiting → m.waiting ≤ 8 → others ≡ machine_of (drop 1 (waiting_in m))
    → others.waiting < 8
others_few m others long one most e =
    let a = ap (λ (x : Machine). x.waiting) e in
    let b = length-drop 1 (waiting_in m) in
    let c = length-take-le m.waiting m.line (omega arith) in
    omega arith

pub own_as : (d : DistrictRecord) (others : Machine) (ds : List DistrictRecord) → others ≡ machine_of ds
    → has_own_place d (waiting_in others) ≡ has_own_place d ds
own_as d others ds e = ap (λ (x : Machine). has_own_place d (waiting_in x)) e ∙ ap (has_own_place d) (waiting_are ds)

-- ---- the places that a turn answers

in_meeting : (waiting sheet : ℕ) (ws : List DistrictRecord) → HasPlace (outcome_of (meeting_in waiting sheet ws))
unfolding meeting_in has_own_place
in_meeting waiting sheet [] = tt
in_meeting waiting sheet (d ∷ ds) =
    at (ltb sheet sheet_places) (leb waiting 8 && (has_own_place d ds && can_be_served d)) (is_last (plan_by d) d.budget d.held) refl
  where
    small : (leb waiting 8 && (has_own_place d ds && can_be_served d)) ≡ true → d.place < 8
    small e =
        let a = and_parts (leb waiting 8) (has_own_place d ds && can_be_served d) (of_true e) in
        let b = and_parts (has_own_place d ds) (can_be_served d) a.1 in
        ltb→lt d.place 8 (and_parts (ltb d.place 8) (not (occurs d.place (places (map district_of ds)))) b.0).0

    at : (x y z : Bool) → (leb waiting 8 && (has_own_place d ds && can_be_served d)) ≡ y
        → HasPlace (outcome_of (cond x short_sheet (cond y (cond z (leaves d ds) (goes_on d ds)) stuck)))
    at true y z e = tt
    at false true true e = small e
    at false true false e = small e
    at false false z e = tt

pub placed : (m : Machine) (sheet : ℕ) → HasPlace (outcome_of (meeting m sheet))
placed m sheet = in_meeting m.waiting sheet (waiting_in m)

-- ---- by the line

pub empty_met : (m : Machine) (sheet : ℕ) → line_of m ≡ [] → meeting m sheet ≡ nobody
unfolding meeting_in
empty_met m sheet e = at (waiting_in m) e
  where
    at : (ws : List DistrictRecord) → map district_of ws ≡ [] → meeting_in m.waiting sheet ws ≡ nobody
    at [] q = refl
    at (f ∷ ds) q = (let n = ap length q in absurd (omega arith))

pub line_short_met : (m : Machine) (sheet : ℕ) (d : District) (l : Line) → line_of m ≡ d ∷ l → sheet < sheet_places
    → meeting m sheet ≡ short_sheet
line_short_met m sheet d l e s = at (waiting_in m) refl e
  where
    at : (ws : List DistrictRecord) → waiting_in m ≡ ws → map district_of ws ≡ d ∷ l → meeting m sheet ≡ short_sheet
    at [] w q = (let n = ap length q in absurd (omega arith))
    at (f ∷ ds) w q = short_met m f ds w sheet s
