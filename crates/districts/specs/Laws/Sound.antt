-- Machines that entries and turns lead to: each district holds the best of the trees that it has tried. So its front
-- district can be gone on with, its turn is its last one or leaves it with 1,000 trees more, and the line then is the
-- definition's, by cases on whether it finishes.
use Rattle.std.specs.Prelude.{◌≡◌, Bool, true, false, not, ℕ, ◌+◌, ◌-◌, ◌≤◌, ◌<◌, min, length, eqb, ltb, Ok}
use Rattle.std.proofs.Math.Path.{refl, ap, subst⁻¹}
use Rattle.std.proofs.Common.{sym, ◌∙◌, subst, inl, inr, length-append}
use mathlib.Core.List.Memᴰ
use mathlib.Core.List.{List, [], ◌∷◌, ◌++◌, map, Memᴰ}
use Rattle.std.proofs.Math.Option.{Option, none, some}
use Rattle.std.proofs.Math.Decide.{ℕ_discrete, dec_lt}
use native.Mathlib.Omega.{arith}
use borrow.Author.Tests.{leb-true, leb-false, lt-ltb, eq-eqb}
use Rattle.std.proofs.lemmas.List.{length-map}
use Rattle.postman.specs.Lists.{occurs}
use Rattle.postman.specs.Plan.{Plan, WellFormed}
use Rattle.postman.specs.Refusal.{first_refusal, is_good}
use Rattle.postman.specs.PlanFile.{file_conditions, plan_of}
use Rattle.postman.specs.Component.{component_count}
use Rattle.postman.specs.Arborescence.{IsArborescence}
use Rattle.postman.specs.Balancing.{completion_cost}
use Rattle.postman.specs.PlanCall.{sheet_places, tried_count, is_whole, best_cost, best_arborescence}
use Rattle.postman_laws.specs.Laws.Acceptance.{file_accepted}
use Rattle.postman_laws.specs.Laws.Distance.{bounded}
use Rattle.postman_laws.specs.Laws.Distinct.{occurs_mem}
use Rattle.postman.specs.Laws.Membership.{map_mem}
use Rattle.postman.specs.Steps.{Plannable}
use Rattle.postman_laws.specs.Laws.Optimality.{some_arborescence}
use Rattle.postman_laws.specs.Laws.Search.{best_value}
use Rattle.postman.specs.Laws.Tests.{is_true, is_false}
use Rattle.call_steps.specs.Refusals.{plan_refusal}
use Rattle.call_steps.specs.Laws.Call.{parts_refusal}
use Rattle.tree_search.specs.declared.trees.Reached.{Reached}
use Rattle.tree_search.specs.Resumed.{links_by, held_after, IsReachedBy}
use Rattle.solution.specs.Planned.{IsPlanned}
use Rattle.solution.specs.Laws.Answer.{concluded_best}
use Rattle.tree_search.specs.Laws.BestTree.{best_tree}
use Rattle.tree_search.specs.Laws.Resumed.{best_after, tried_few, tried_cost, tried_tree}
use Rattle.district_turn.specs.DistrictTurn.{is_tree, is_holding, is_resumable, can_go_on, is_last, last_answer, last_sheet}
use Rattle.district_turn.specs.Laws.DistrictTurn.{of_arborescence, holding_first, holding_later, and_yes, padded_links}
use Rattle.held_file.specs.Held.{held_of}
use Rattle.held_file.specs.Laws.Held.{held_file}
use Rattle.district_machine.specs.declared.machine.District.{District as DistrictRecord}
use Rattle.district_machine.specs.declared.machine.Machine.{Machine}
use Rattle.postman.specs.Districts.{District, district, Line, places, entry_refusal, lowest_free, total, gone_on, finishes}
use Rattle.district_machine.specs.Machine.{bytes_of, district_of, waiting_in, line_of, machine_of}
use Rattle.district_entry.specs.Entered.{entrant, after_entry}
use Rattle.districts.specs.Turned.{plan_by, has_own_place, is_readable, can_be_served, nobody, short_sheet, goes_on, leaves, meeting_in, meeting, held_now, reached_now}
use Rattle.district_entry.specs.Laws.Line.{plan_ok, parts, plan_good, some_total, Apart}
use Rattle.district_entry.specs.Laws.Line as line
use Rattle.district_machine.specs.Laws.Held.{waiting_are}
use Rattle.district_entry.specs.Laws.Entered.{entry_stays, entry_moves, entrant_is, call_part_lem, part_limits, short_file}
use Rattle.districts.specs.Laws.Turned.{short_met, last_met, going_met, readable}

-- A district that was let in and is not finished: it holds the best of the trees that it has tried.
pub record IsUnderWay (d : DistrictRecord) : Type 0 where
  pub fits : d.plan.length ≤ 1475
  pub file : first_refusal (file_conditions (bytes_of d)) ≡ none
  pub some_budget : 1 ≤ d.budget
  pub most_budget : d.budget ≤ 1000000
  pub plan : plan_refusal (plan_by d) ≡ none
  pub unfinished : d.held.tried < total (district_of d)
  pub reached : IsReachedBy (plan_by d) d.held

-- Nothing stands behind the line.
pub record IsSound (m : Machine) : Type 0 where
  pub few : m.waiting ≤ 8
  pub exact : m ≡ machine_of (waiting_in m)
  pub each : (d : DistrictRecord) → Memᴰ d (waiting_in m) → IsUnderWay d

pub sound_of : (ds : List DistrictRecord) → length ds ≤ 8 → ((d : DistrictRecord) → Memᴰ d ds → IsUnderWay d) → IsSound (machine_of ds)
sound_of ds few h = record {
  few = few;
  exact = ap machine_of (sym (waiting_are ds));
  each = λ d x. h d (subst (λ (y : List DistrictRecord). Memᴰ d y) (waiting_are ds) x);
}

-- ---- a district under way

module _ (d : DistrictRecord) (u : IsUnderWay d) where
  abbrev p : Plan
  p = plan_by d

  abbrev g : Reached
  g = d.held

  wf : WellFormed p
  wf = file_accepted (bytes_of d) u.file

  ok : Plannable p
  ok = (plan_ok p wf (parts_refusal p wf ∙ u.plan)).0

  few8 : component_count p ≤ 8
  few8 = (plan_ok p wf (parts_refusal p wf ∙ u.plan)).1

  below : g.tried < tried_count p d.budget
  unfolding total
  below = u.unfinished

  holding : is_holding p g ≡ true
  holding = elim (ℕ_discrete g.tried 0) [
    | yes e ↦ holding_first p g e
    | no o ↦ (let one : 1 ≤ g.tried = omega (arith, o) in
        let l = u.reached.links_are one in
        let c : g.cost ≡ completion_cost p (links_by p g) =
        u.reached.cost_is one ∙ sym (best_value p g.tried one (some_arborescence p ok)) ∙ ap (completion_cost p) (sym l) in
        holding_later p g o
        ∙ and_yes (is_tree p (links_by p g)) (eqb g.cost (completion_cost p (links_by p g)))
        (is_true (of_arborescence p (links_by p g) (bounded wf).ends
        (subst⁻¹ (IsArborescence p) l (best_tree p ok few8 g.tried one))))
        (eq-eqb g.cost (completion_cost p (links_by p g)) c))
  ]

  pub served : can_be_served d ≡ true
  unfolding is_good
  served =
      and_yes (is_readable d) (can_go_on p d.budget g) (readable d u.fits u.some_budget u.most_budget u.file)
      (and_yes (is_good (plan_refusal p)) (is_resumable p d.budget g) (ap is_good u.plan)
      (and_yes (is_holding p g) (ltb g.tried (tried_count p d.budget)) holding
      (lt-ltb g.tried (tried_count p d.budget) below)))

  abbrev n : ℕ
  n = g.tried + min 1000 (tried_count p d.budget - g.tried)

  best : ((held_after p d.budget g).cost ≡ best_cost p n) × ((held_after p d.budget g).links ≡ best_arborescence p n)
  best = let t = tried_few p ok d.budget in let b = below in
      best_after p ok g (min 1000 (tried_count p d.budget - g.tried)) (omega arith) (omega arith) u.reached

  pub last_is : is_last p d.budget g ≡ finishes (district_of d)
  unfolding finishes total
  last_is = refl

  -- ITS LAST TURN
  pub last_planned : finishes (district_of d) ≡ true → (old new : List ℕ) → new ≡ last_sheet p d.budget g old
      → IsPlanned p d.budget none old new (Ok (last_answer p d.budget g))
  unfolding finishes total
  last_planned f old new h =
      let b = below in
      let l = leb-true (tried_count p d.budget) (g.tried + 1000) f in
      let e : n ≡ tried_count p d.budget = omega arith in
      concluded_best p ok few8 d.budget u.some_budget (held_after p d.budget g).links (held_after p d.budget g).cost
      (tried_count p d.budget) (is_whole p d.budget) old new
      (best.1 ∙ ap (best_arborescence p) e ∙ tried_tree p d.budget) (best.0 ∙ ap (best_cost p) e ∙ tried_cost p d.budget) refl refl h

  -- ANOTHER ONE
  module _ (f : finishes (district_of d) ≡ false) where
    more : g.tried + 1000 < tried_count p d.budget
    unfolding finishes total
    more = leb-false (tried_count p d.budget) (g.tried + 1000) f

    pub tried_now : (reached_now d).tried ≡ g.tried + 1000
    tried_now = let m = more in omega arith

    pub cost_now : (reached_now d).cost ≡ best_cost p (g.tried + 1000)
    cost_now = best.0 ∙ ap (best_cost p) tried_now

    reached_now_lem : IsReachedBy p (reached_now d)
    reached_now_lem =
        let m = more in
        let t = tried_few p ok d.budget in
        let one : 1 ≤ n = omega arith in
        let a = (best_tree p ok few8 n one).size in
        let ls = (held_after p d.budget g).links in
        let size : length ls ≡ component_count p - 1 = ap length best.1 ∙ a in
        record { within = omega arith; cost_is = λ o. best.0; links_are = λ o. padded_links ls (component_count p - 1) size ∙ best.1 }

    pub still_under_way : IsUnderWay (held_now d (reached_now d))
    unfolding total
    still_under_way = record {
      fits = u.fits;
      file = u.file;
      some_budget = u.some_budget;
      most_budget = u.most_budget;
      plan = u.plan;
      unfinished = (let m = more in let t = tried_now in omega arith);
      reached = reached_now_lem;
    }

    pub gone_on_lem : district_of (held_now d (reached_now d)) ≡ gone_on (district_of d)
    gone_on_lem = ap (λ k. district d.place (bytes_of d) d.budget k) tried_now

-- ---- an entry

module _ (m : Machine) (h : IsSound m) (bytes : List ℕ) (budget : ℕ) where
  abbrev x : DistrictRecord
  x = entrant (lowest_free (line_of m)) bytes budget

  entrant_under_way : entry_refusal (line_of m) bytes budget ≡ none → length bytes ≤ 1475 → IsUnderWay x
  unfolding held_of
  entrant_under_way e fits =
      let same = held_file bytes in
      let one = part_limits bytes budget (call_part_lem bytes budget (line_of m) e) in
      record {
        fits = fits;
        file = subst⁻¹ (λ (b : List ℕ). first_refusal (file_conditions b) ≡ none) same (parts (line_of m) bytes budget e).0;
        some_budget = one.0;
        most_budget = one.1;
        plan = subst⁻¹ (λ (b : List ℕ). plan_refusal (plan_of b) ≡ none) same (plan_good (line_of m) bytes budget e);
        unfinished =
            subst⁻¹ (λ (d : District). 0 < total d) (entrant_is (lowest_free (line_of m)) bytes budget)
            (some_total (line_of m) bytes budget e);
        reached = record { within = omega arith; cost_is = λ o. absurd (omega arith); links_are = λ o. absurd (omega arith) };
      }

  pub entry_sound : IsSound (after_entry m bytes budget)
  entry_sound = at (entry_refusal (line_of m) bytes budget) refl
    where
      at : (o : Option ℕ) → entry_refusal (line_of m) bytes budget ≡ o → IsSound (after_entry m bytes budget)
      at (some k) f = subst⁻¹ IsSound (entry_stays m bytes budget k f) h
      at none f =
          let r = line.room (line_of m) bytes budget f in
          let a = length-append (waiting_in m) (x ∷ []) in
          let b = length-map (waiting_in m) district_of in
          subst⁻¹ IsSound (entry_moves m bytes budget f)
          (sound_of (waiting_in m ++ x ∷ []) (omega arith) (λ d y. elim (Memᴰ.append_cases (waiting_in m) y) [
            | inl i ↦ h.each d i
            | inr o ↦ elim (Memᴰ.cases_cons o) [
              | inl q ↦ subst⁻¹ IsUnderWay q (entrant_under_way f (short_file bytes budget (call_part_lem bytes budget (line_of m) f)))
              | inr z ↦ elim z [ ]
            ]
          ]))

-- ---- a turn

-- What a turn meets in a sound machine whose places are apart and below 8.
pub data Met (m : Machine) (sheet : ℕ) : Type 0 where
  no_one : line_of m ≡ [] → meeting m sheet ≡ nobody → Met m sheet
  too_short : (f : DistrictRecord) (ds : List DistrictRecord) → waiting_in m ≡ f ∷ ds → sheet < sheet_places → meeting m sheet ≡ short_sheet
      → Met m sheet
  going : (f : DistrictRecord) (ds : List DistrictRecord) → waiting_in m ≡ f ∷ ds → sheet_places ≤ sheet → IsUnderWay f
      → finishes (district_of f) ≡ false → meeting m sheet ≡ goes_on f ds → Met m sheet
  last : (f : DistrictRecord) (ds : List DistrictRecord) → waiting_in m ≡ f ∷ ds → sheet_places ≤ sheet → IsUnderWay f
      → finishes (district_of f) ≡ true → meeting m sheet ≡ leaves f ds → Met m sheet

abbrev pub InPlace : Line → Type 0
InPlace l = Apart l × ((d : District) → Memᴰ d l → d.place < 8)

own_place : (f : DistrictRecord) (ds : List DistrictRecord) → InPlace (district_of f ∷ map district_of ds) → has_own_place f ds ≡ true
unfolding has_own_place Apart
own_place f ds i =
    let free : occurs f.place (places (map district_of ds)) ≡ false = is_false (λ t.
    let r = map_mem (λ (d : District). d.place) (map district_of ds) (occurs_mem f.place (places (map district_of ds)) t) in
    i.0.0 r.0 r.1 (sym r.2)) in
    and_yes (ltb f.place 8) (not (occurs f.place (places (map district_of ds))))
    (lt-ltb f.place 8 (i.1 (district_of f) (Memᴰ.head refl))) (ap not free)

pub meets : (m : Machine) (sheet : ℕ) → IsSound m → InPlace (line_of m) → Met m sheet
unfolding meeting_in
meets m sheet h i = at (waiting_in m) refl
  where
    at : (ws : List DistrictRecord) → waiting_in m ≡ ws → Met m sheet
    at [] e = no_one (ap (λ (x : List DistrictRecord). map district_of x) e) (ap (meeting_in m.waiting sheet) e)
    at (f ∷ ds) e = elim (dec_lt sheet sheet_places) [
      | yes l ↦ too_short f ds e l (short_met m f ds e sheet l)
      | no l ↦ (let enough : sheet_places ≤ sheet = omega arith in
          let u = h.each f (subst⁻¹ (λ (y : List DistrictRecord). Memᴰ f y) e (Memᴰ.head refl)) in
          let own = own_place f ds (subst (λ (y : List DistrictRecord). InPlace (map district_of y)) e i) in
          whether enough u own (finishes (district_of f)) refl)
    ]
      where
        whether : sheet_places ≤ sheet → IsUnderWay f → has_own_place f ds ≡ true → (b : Bool) → finishes (district_of f) ≡ b → Met m sheet
        whether enough u own true q = last f ds e enough u q (last_met m f ds e sheet enough h.few own (served f u) (last_is f u ∙ q))
        whether enough u own false q = going f ds e enough u q (going_met m f ds e sheet enough h.few own (served f u) (last_is f u ∙ q))
