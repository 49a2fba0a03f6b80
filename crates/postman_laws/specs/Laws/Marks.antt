-- The plan of a car. It has the arcs of the plan that it is made from, with the same ends and costs, and the same arcs may be driven: so it
-- is well formed, and its distances are those of the plan, whatever the marks are. By the plan's own marks, where just its must arcs have
-- checking costs, it is the plan itself, and the car's refusal is the plan call's.
use Rattle.std.specs.Prelude.{◌≡◌, Bool, not, cond, ℕ, zero, suc, ◌<◌, ◌≤◌, get_or, eqb}
use Rattle.std.proofs.Math.Path.{refl, sym, ap, fun_ext, subst, subst⁻¹}
use Rattle.std.proofs.Common.{◌∙◌, le-ltb, ne_eqb, T_not}
use Rattle.std.proofs.Math.Logic.{inl, inr}
use Rattle.std.proofs.Math.Bool.{true, false}
use mathlib.Core.List.{List, [], ◌∷◌, ◌++◌, Memᴰ}
use Rattle.std.proofs.Math.Option.{none}
use native.Mathlib.Omega.{arith}
use Rattle.std.proofs.Math.ListN.{length, length-map}
use Rattle.std.proofs.Math.Seq.{ext_get_or}
use Rattle.std.proofs.Math.Dec.{T, not_T, ltb}
use Rattle.postman.specs.Lists.{any_of, below}
use Rattle.postman.specs.Plan.{Arc, Plan, is_open, is_required_arc, arc_at, IsArc, WellFormed}
use Rattle.postman.specs.Refusal.{Conditions, first_refusal}
use Rattle.postman.specs.PlanFile.{edition, file_conditions, plan_of}
use Rattle.postman.specs.PlanCall.{call_conditions, parts_conditions, conditions_before, earlier_conditions, call_refusal, is_cut_off}
use Rattle.postman.specs.Distance.{distance}
use Rattle.postman.specs.Marks.{marked_service, marked, car_plan, own_marks, is_bad_mark, has_bad_mark, mark_conditions, earlier_conditions_for, car_refusal}
use Rattle.postman.specs.Laws.Tests.{cond_ind, or_cases, eqb_other}
use Rattle.postman.specs.Laws.Membership.{get_d_mem, get_d_map_in, below_mem, any_of_at}
use Rattle.postman_laws.specs.Laws.WellFormed.{of_made_arcs}
use Rattle.postman_laws.specs.Laws.Below.{length_map_below, get_d_map_below}
use Rattle.postman_laws.specs.Laws.Refusal.{Other, nothing_refused, accepted_cons, cons_accepted, own_passed, before_order, before_other}
use Rattle.postman_laws.specs.Laws.Acceptance.{BeforeAccepted, before_accepted, file_accepted, file_arcs, required_priced, others_unpriced}
use Rattle.postman_laws.specs.Laws.Roads.{SameRoad, SameRoads, distance_same}

-- ---- one arc

module _ (mark : ℕ) (a : Arc) where
  marked_open : is_open (marked mark a) ≡ is_open a
  unfolding marked
  marked_open = at (is_open a) (eqb mark 1) refl
    where
      at : (o m : Bool) → o ≡ is_open a → ltb (cond o (cond m 1 0) a.standing) 2 ≡ o
      at true true e = refl
      at true false e = refl
      at false m e = sym e

  pub marked_road : SameRoad a (marked mark a)
  unfolding marked
  marked_road = record { tail_same = refl; head_same = refl; cost_same = refl; open_same = sym marked_open }

  service_small : a.cost ≤ 65535 → a.service ≤ 65535 → marked_service mark a ≤ 65535
  unfolding marked_service
  service_small c s =
      cond_ind (eqb mark 1) _ 0 (λ x. x ≤ 65535)
      (λ t. cond_ind (eqb a.service 0) a.cost a.service (λ x. x ≤ 65535) (λ t. c) (λ t. s)) (λ t. omega arith)

  pub marked_arc : (n : ℕ) → IsArc n a → IsArc n (marked mark a)
  unfolding marked
  marked_arc n h = record {
    tail_in = h.tail_in;
    head_in = h.head_in;
    standing_in = cond_ind (is_open a) (cond (eqb mark 1) 1 0) a.standing (λ s. s ≤ 2)
        (λ t. cond_ind (eqb mark 1) 1 0 (λ s. s ≤ 2) (λ t. omega arith) (λ t. omega arith)) (λ t. h.standing_in);
    cost_in_holds = h.cost_in_holds;
    service_in =
        cond_ind (is_open a) (marked_service mark a) a.service (λ s. s ≤ 65535) (λ t. service_small h.cost_in_holds h.service_in)
        (λ t. h.service_in);
  }

-- ---- the plan

module _ (p : Plan) (marks : List ℕ) where
  abbrev q : Plan
  q = car_plan p marks

  abbrev one : ℕ → Arc
  one k = marked (get_or marks k 0) (arc_at p.arcs k)

  pub car_length : length q.arcs ≡ length p.arcs
  unfolding car_plan
  car_length = length_map_below one (length p.arcs)

  pub car_arc : (k : ℕ) → k < length p.arcs → arc_at q.arcs k ≡ one k
  unfolding car_plan
  car_arc k l = get_d_map_below one (length p.arcs) k _ l

  pub car_well_formed : WellFormed p → WellFormed q
  unfolding car_plan
  car_well_formed w = of_made_arcs p w one (λ k. marked_arc (get_or marks k 0) (arc_at p.arcs k) p.n)

-- two lists of the same length, alike at each place
roads_at : (xs ys : List Arc) → length xs ≡ length ys → ((k : ℕ) → k < length xs → SameRoad (arc_at xs k) (arc_at ys k)) → SameRoads xs ys
roads_at [] [] e h = tt
roads_at [] (y ∷ ys) e h = absurd (omega arith)
roads_at (x ∷ xs) [] e h = absurd (omega arith)
roads_at (x ∷ xs) (y ∷ ys) e h = (h 0 (omega arith), roads_at xs ys (omega arith) (λ k l. h (suc k) (omega arith)))

-- D DOES NOT DEPEND ON MARKS
pub car_roads : (p : Plan) (marks : List ℕ) → SameRoads p.arcs (car_plan p marks).arcs
car_roads p marks =
    roads_at p.arcs (car_plan p marks).arcs (sym (car_length p marks)) (λ k l.
    subst⁻¹ (λ (b : Arc). SameRoad (arc_at p.arcs k) b) (car_arc p marks k l) (marked_road (get_or marks k 0) (arc_at p.arcs k)))

pub car_distance : (p : Plan) (marks : List ℕ) (i j : ℕ) → distance (car_plan p marks) i j ≡ distance p i j
unfolding car_plan
car_distance p marks i j = sym (distance_same p (car_plan p marks) refl (car_roads p marks) i j)

pub car_table : (p : Plan) (marks : List ℕ) → distance (car_plan p marks) ≡ distance p
car_table p marks = fun_ext (λ i. fun_ext (λ j. car_distance p marks i j))

-- ---- the plan's own marks

-- just the must arcs have checking costs
pub record HasOwnService (a : Arc) : Type 0 where
  pub required_priced : T (is_required_arc a) → T (not (eqb a.service 0))
  pub others_not : T (not (is_required_arc a)) → a.service ≡ 0

abbrev own_mark : Arc → ℕ
own_mark a = cond (is_required_arc a) 1 0

abbrev arc_of : ℕ → ℕ → ℕ → ℕ → ℕ → Arc
arc_of t h s c v = record { tail = t; head = h; standing = s; cost = c; service = v }

own_arc : (t h s c v : ℕ) → HasOwnService (arc_of t h s c v) → marked (own_mark (arc_of t h s c v)) (arc_of t h s c v) ≡ arc_of t h s c v
unfolding marked marked_service
own_arc t h zero c v g = ap (arc_of t h 0 c) (sym (g.others_not tt))
own_arc t h (suc zero) c v g =
    ap (arc_of t h 1 c) (cond_ind (eqb v 0) c v (λ x. x ≡ v) (λ e. absurd (T_not (eqb v 0) (g.required_priced tt) e)) (λ e. refl))
own_arc t h (suc (suc s)) c v g =
    let closed : ltb (suc (suc s)) 2 ≡ false = le-ltb (suc (suc s)) 2 (omega arith) in
    rw closed refl

own_good : (t h s c v : ℕ) → is_bad_mark (own_mark (arc_of t h s c v)) (arc_of t h s c v) ≡ false
unfolding is_bad_mark
own_good t h zero c v = refl
own_good t h (suc zero) c v = refl
own_good t h (suc (suc s)) c v =
    let other : eqb (suc (suc s)) 1 ≡ false = ne_eqb (suc (suc s)) 1 (λ e. omega arith) in
    rw other refl

good_arc : (a : Arc) → is_bad_mark (own_mark a) a ≡ false
good_arc a = own_good a.tail a.head a.standing a.cost a.service

same_arc : (a : Arc) → HasOwnService a → marked (own_mark a) a ≡ a
same_arc a g = own_arc a.tail a.head a.standing a.cost a.service g

module _ (p : Plan) where
  own_length : length (own_marks p) ≡ length p.arcs
  unfolding own_marks
  own_length = length-map p.arcs own_mark

  own_at : (k : ℕ) → k < length p.arcs → get_or (own_marks p) k 0 ≡ own_mark (arc_at p.arcs k)
  unfolding own_marks
  own_at k l = get_d_map_in own_mark p.arcs k _ l

  abbrev bad : ℕ → Bool
  bad k = is_bad_mark (get_or (own_marks p) k 0) (arc_at p.arcs k)

  none_bad : T (not (has_bad_mark p (own_marks p)))
  unfolding has_bad_mark
  none_bad = not_T (has_bad_mark p (own_marks p))
      (λ t. elim (or_cases (not (eqb (length (own_marks p)) (length p.arcs))) (any_of bad (below (length p.arcs))) t) [
        | inl u ↦ eqb_other u own_length
        | inr u ↦
            let r = any_of_at bad (below (length p.arcs)) u in
            let l = below_mem r.1 in
            let g : is_bad_mark (get_or (own_marks p) r.0 0) (arc_at p.arcs r.0) ≡ false =
            rw (own_at r.0 l) (good_arc (arc_at p.arcs r.0)) in
            subst T g r.2
      ])

  module _ (priced : (a : Arc) → Memᴰ a p.arcs → HasOwnService a) where
    pub own_plan : car_plan p (own_marks p) ≡ p
    unfolding car_plan
    own_plan = λ i. record { n = p.n; arcs = arcs_same i }
      where
        arcs_same : (car_plan p (own_marks p)).arcs ≡ p.arcs
        arcs_same =
            ext_get_or (arc_at [] 0) (car_plan p (own_marks p)).arcs p.arcs (car_length p (own_marks p)) (λ k l.
            let m : k < length p.arcs = (let e = car_length p (own_marks p) in omega arith) in
            car_arc p (own_marks p) k m
            ∙ rw (own_at k m) (same_arc (arc_at p.arcs k) (priced (arc_at p.arcs k) (get_d_mem p.arcs _ k m))))

-- ---- the call

module _ (p : Plan) (marks : List ℕ) where
  pub marks_accepted : first_refusal (mark_conditions p marks) ≡ none → T (not (has_bad_mark p marks))
  unfolding mark_conditions
  marks_accepted e = (accepted_cons _ _ _ e).0

  accepted_marks : T (not (has_bad_mark p marks)) → first_refusal (mark_conditions p marks) ≡ none
  unfolding mark_conditions
  accepted_marks t = cons_accepted (has_bad_mark p marks) 18 [] t nothing_refused

  pub marks_other : Other 12 (mark_conditions p marks)
  unfolding mark_conditions
  marks_other = (omega arith, tt)

-- what it says that none of a car's conditions before 12 applies
pub record CarAccepted (bytes : List ℕ) (b places : ℕ) (marks : List ℕ) : Type 0 where
  pub before : BeforeAccepted bytes b places (mark_conditions (plan_of bytes) marks) (car_plan (plan_of bytes) marks)
  pub well_formed : WellFormed (car_plan (plan_of bytes) marks)
  pub good : T (not (has_bad_mark (plan_of bytes) marks))

module _ (bytes : List ℕ) (budget places : ℕ) (marks : List ℕ) where
  abbrev car : Plan
  car = car_plan (plan_of bytes) marks

  abbrev own : Conditions
  own = mark_conditions (plan_of bytes) marks

  pub car_conditions : car_refusal bytes budget places marks
      ≡ first_refusal (earlier_conditions_for bytes budget places marks ++ (is_cut_off car, 12) ∷ [])
  unfolding car_refusal
  car_conditions = refl

  pub car_other : Other 12 (earlier_conditions_for bytes budget places marks)
  unfolding earlier_conditions_for
  car_other = before_other bytes budget places own car (marks_other (plan_of bytes) marks)

  pub earlier_accepted_for : first_refusal (earlier_conditions_for bytes budget places marks) ≡ none → CarAccepted bytes budget places marks
  unfolding earlier_conditions_for
  earlier_accepted_for e =
      let b = before_accepted bytes budget places own car e in
      record {
        before = b;
        well_formed = car_well_formed (plan_of bytes) marks (file_accepted bytes b.file);
        good = marks_accepted (plan_of bytes) marks b.own_accepted;
      }

  -- the order, from the file on
  pub car_order : car_refusal bytes budget places marks
      ≡ first_refusal (file_conditions bytes ++ (call_conditions budget places
      ++ (own ++ (parts_conditions car ++ (is_cut_off car, 12) ∷ []))))
  unfolding car_refusal earlier_conditions_for
  car_order = ap first_refusal (before_order bytes budget places own car ((is_cut_off car, 12) ∷ []))

-- THE PLAN'S OWN MARKS, of a file that is not refused: the plan is the file's, and the car's refusal is the plan call's
module _ (bytes : List ℕ) (read : first_refusal (file_conditions bytes) ≡ none) where
  file_priced : (a : Arc) → Memᴰ a (plan_of bytes).arcs → HasOwnService a
  file_priced a m =
      let t = (file_arcs bytes read a m).priced in
      record {
        required_priced = required_priced (edition bytes) (plan_of bytes).n a t;
        others_not = others_unpriced (edition bytes) (plan_of bytes).n a t;
      }

  pub own_file_plan : car_plan (plan_of bytes) (own_marks (plan_of bytes)) ≡ plan_of bytes
  own_file_plan = own_plan (plan_of bytes) file_priced

  pub own_refusal : (budget places : ℕ) → car_refusal bytes budget places (own_marks (plan_of bytes)) ≡ call_refusal bytes budget places
  unfolding car_refusal earlier_conditions_for call_refusal earlier_conditions
  own_refusal budget places =
      let p = plan_of bytes in
      own_passed bytes budget places (mark_conditions p (own_marks p)) (car_plan p (own_marks p)) _
      (accepted_marks p (own_marks p) (none_bad p))
      ∙ ap (λ (q : Plan). first_refusal (conditions_before bytes budget places [] q ++ (is_cut_off q, 12) ∷ [])) own_file_plan
