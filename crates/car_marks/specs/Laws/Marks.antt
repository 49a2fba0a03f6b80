-- Marks: a bad one was found, or each was looked at. The fields of a marked arc; and records that
-- hold the marked arcs stand for the car's plan.
use Rattle.std.specs.Prelude.{◌≡◌, ◌≢◌, Bool, not, cond, List, ℕ, ◌<◌, ◌≤◌, get_or, eqb}
use Rattle.std.proofs.Math.Path.{refl, sym, subst}
use Rattle.std.proofs.Common.{ap, ◌∙◌}
use Rattle.std.proofs.Math.Logic.{inl, inr}
use Rattle.std.proofs.Math.Bool.{true, false}
use native.Mathlib.Omega.{arith}
use borrow.Author.Tests.{lt-ltb, le-ltb, eq-eqb, ne_eqb}
use Rattle.std.proofs.Math.ListN.{length}
use Rattle.std.proofs.Math.Dec.{T, not_T, eqb→eq}
use Rattle.postman.specs.Lists.{any_of, below}
use Rattle.postman.specs.Plan.{Arc, is_open, arc_at}
use Rattle.postman.specs.Marks.{is_bad_mark, has_bad_mark, marked_service, marked, car_plan}
use Rattle.postman.specs.Laws.Tests.{same_test, of_true, or_right, or_cases, not_or, not_not, eqb_other}
use Rattle.postman.specs.Laws.Membership.{any_of_mem, any_of_at, mem_below, below_mem}
use Rattle.postman_laws.specs.Laws.Marks.{car_length, car_arc}
use Rattle.plan.specs.declared.Arc.{Arc as ArcRecord}
use Rattle.plan.specs.declared.Plan.{Plan as PlanRecord}
use Rattle.plan.specs.Records.{arc_value, record_of, record_at, plan_value}
use Rattle.plan.specs.Laws.Made.{HoldMade, made_plan}
use Rattle.plan.specs.Laws.Records.{plan_length, plan_arc}

-- ---- one mark

module _ (mark : ℕ) (a : Arc) where
  pub above_one : 1 < mark → true ≡ is_bad_mark mark a
  unfolding is_bad_mark
  above_one h = let e = lt-ltb 1 mark h in rw e refl

  pub one_by_closed : mark ≤ 1 → mark ≡ 1 → not (is_open a) ≡ is_bad_mark mark a
  unfolding is_bad_mark
  one_by_closed h o = let e = le-ltb 1 mark h in let f = eq-eqb mark 1 o in rw (e, f) refl

  pub zero_good : mark ≤ 1 → mark ≢ 1 → false ≡ is_bad_mark mark a
  unfolding is_bad_mark
  zero_good h o = let e = le-ltb 1 mark h in let f = ne_eqb mark 1 o in rw (e, f) refl

  -- ---- a marked arc

  pub none_charged : mark ≢ 1 → 0 ≡ marked_service mark a
  unfolding marked_service
  none_charged o = let f = ne_eqb mark 1 o in rw f refl

  pub plain_charged : mark ≡ 1 → a.service ≡ 0 → a.cost ≡ marked_service mark a
  unfolding marked_service
  plain_charged o z = let f = eq-eqb mark 1 o in let e = eq-eqb a.service 0 z in rw (f, e) refl

  pub service_charged : mark ≡ 1 → a.service ≢ 0 → a.service ≡ marked_service mark a
  unfolding marked_service
  service_charged o z = let f = eq-eqb mark 1 o in let e = ne_eqb a.service 0 z in rw (f, e) refl

pub ruleset of_charge = (none_charged, plain_charged, service_charged)

pub open_marked : (mark : ℕ) (a : ArcRecord) (s v : ℕ) → is_open (arc_value a) ≡ true → s ≡ cond (eqb mark 1) 1 0
    → v ≡ marked_service mark (arc_value a)
    → ◌≡◌ {A = ArcRecord} (record { tail = a.tail; head = a.head; standing = s; cost = a.cost; service = v })
    (record_of (marked mark (arc_value a)))
unfolding marked
open_marked mark a s v o e f =
    let fields : ℕ → ℕ → ArcRecord = λ s v. record { tail = a.tail; head = a.head; standing = s; cost = a.cost; service = v } in
    rw (o) (ap (λ (s : ℕ). fields s v) e ∙ ap (fields (cond (eqb mark 1) 1 0)) f)

pub closed_marked : (mark : ℕ) (a : ArcRecord) → is_open (arc_value a) ≡ false → a ≡ record_of (marked mark (arc_value a))
unfolding marked
closed_marked mark a o = rw o refl

-- ---- all marks

module _ (r : PlanRecord) (marks : List ℕ) where
  abbrev pub bad_mark : ℕ → Bool
  bad_mark k = is_bad_mark (get_or marks k 0) (record_at r.arcs k)

  abbrev bad : ℕ → Bool
  bad k = is_bad_mark (get_or marks k 0) (arc_at (plan_value r).arcs k)

  abbrev other : Bool
  other = not (eqb (length marks) (length (plan_value r).arcs))

  abbrev any : Bool
  any = any_of bad (below (length (plan_value r).arcs))

  pub wrong_length : length marks ≢ r.m → true ≡ has_bad_mark (plan_value r) marks
  unfolding has_bad_mark
  wrong_length h = let e = ne_eqb (length marks) (length (plan_value r).arcs) (λ q. h (q ∙ plan_length r)) in rw e refl

  pub bad_found : (k : ℕ) → k < r.m → bad_mark k ≡ true → true ≡ has_bad_mark (plan_value r) marks
  unfolding has_bad_mark
  bad_found k l e =
      let n = plan_length r in
      let g : k < length (plan_value r).arcs = omega arith in
      let t : T (bad k) = of_true (ap (is_bad_mark (get_or marks k 0)) (plan_arc r k l) ∙ e) in
      same_test true (has_bad_mark (plan_value r) marks) (λ u. or_right other any (any_of_mem bad (mem_below g) t)) (λ u. tt)

  pub none_found : length marks ≡ r.m → ((k : ℕ) → k < r.m → bad_mark k ≡ false) → false ≡ has_bad_mark (plan_value r) marks
  unfolding has_bad_mark
  none_found s h =
      same_test false (has_bad_mark (plan_value r) marks) (λ u. absurd u) (λ u. elim (or_cases other any u) [
        | inl o ↦ absurd (eqb_other o (s ∙ sym (plan_length r)))
        | inr a ↦
            let f = any_of_at bad (below (length (plan_value r).arcs)) a in
            let n = plan_length r in
            let g : f.0 < length (plan_value r).arcs = below_mem f.1 in
            let l : f.0 < r.m = omega arith in
            subst T (ap (is_bad_mark (get_or marks f.0 0)) (plan_arc r f.0 l) ∙ h f.0 l) f.2
      ])

  pub good_length : has_bad_mark (plan_value r) marks ≡ false → length marks ≡ r.m
  unfolding has_bad_mark
  good_length e =
      let t : T (not (has_bad_mark (plan_value r) marks)) = not_T (has_bad_mark (plan_value r) marks) (λ t. subst T e t) in
      eqb→eq (length marks) (length (plan_value r).arcs)
      (not_not (eqb (length marks) (length (plan_value r).arcs)) (not_or other any t).0) ∙ plan_length r

  -- ---- the plan of the car

  abbrev pub mark_arc : ℕ → Arc → Arc
  mark_arc k = marked (get_or marks k 0)

  car_vertices : (car_plan (plan_value r) marks).n ≡ (plan_value r).n
  unfolding car_plan
  car_vertices = refl

  pub plan_marked : (arcs : List ArcRecord) (j : ℕ) → HoldMade r mark_arc arcs j → j ≡ r.m
      → plan_value (record { n = r.n; m = r.m; arcs = arcs }) ≡ car_plan (plan_value r) marks
  plan_marked =
      made_plan r mark_arc (car_plan (plan_value r) marks) car_vertices (car_length (plan_value r) marks) (car_arc (plan_value r) marks)
