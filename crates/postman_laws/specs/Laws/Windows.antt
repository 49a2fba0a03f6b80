-- The plan at a departure. It has the arcs of the plan that it is made from, with the same ends and costs; an arc of it may be driven
-- exactly if it may be driven there and is not shut. So it is well formed, and its walks are the walks that avoid the arcs shut. Where no
-- required arc is shut, it has the same required arcs: its drives are those that avoid the arcs shut, and a list of arcs costs the same
-- in both. With no window it is the plan itself, and the call's refusal is the plan call's.
use Rattle.std.specs.Prelude.{◌≡◌, ◌↔◌, Bool, cond, ◌&&◌, ℕ, ◌<◌, ◌≤◌, length}
use Rattle.std.proofs.Math.Path.{refl, ap, subst⁻¹}
use Rattle.std.proofs.Common.{sym, ◌∙◌, subst, inl, inr, ext_get_or, T_not}
use Rattle.std.proofs.Math.Bool.{true, false, not}
use mathlib.Core.List.Memᴰ
use mathlib.Core.List.{List, [], ◌∷◌, ◌++◌}
use Rattle.std.proofs.Math.Option.{none}
use Rattle.std.proofs.Math.Decide.{dec_le}
use native.Mathlib.Omega.{arith}
use Rattle.std.proofs.lemmas.List.{length-map}
use Rattle.std.proofs.Math.ListN.{get_or-eq_default}
use Rattle.std.proofs.Math.Dec.{T, eqb, ltb}
use Rattle.postman.specs.Lists.{select, any_of, up_from, below}
use Rattle.postman.specs.Plan.{Arc, Plan, is_open, is_required_arc, arc_at, required_arcs, required_numbers, IsArc, WellFormed}
use Rattle.postman.specs.Refusal.{Conditions, first_refusal}
use Rattle.postman.specs.PlanFile.{file_conditions, plan_of}
use Rattle.postman.specs.PlanCall.{call_conditions, parts_conditions, conditions_before, earlier_conditions, call_refusal, is_cut_off}
use Rattle.postman.specs.Drive.{IsWalk, IsDrive, drive_cost_due, drive_cost}
use Rattle.postman.specs.Windows.{Window, Departure, windows_in, is_shut, closed_if, plan_at, Avoids, is_bad_departure, is_bad_length, has_bad_window, is_must_shut, window_conditions, earlier_conditions_at, call_refusal_at}
use Rattle.postman.specs.Laws.Tests.{cond_ind, and_both, and_parts, same_test, is_false}
use Rattle.postman.specs.Laws.Membership.{select_cong, any_of_at, any_of_not, below_mem}
use Rattle.postman_laws.specs.Laws.WellFormed.{of_made_arcs}
use Rattle.postman_laws.specs.Laws.Below.{length_map_below, get_d_map_below}
use Rattle.postman_laws.specs.Laws.Required.{mem_numbers, numbers_arcs}
use Rattle.postman_laws.specs.Laws.Refusal.{Other, nothing_refused, accepted_cons, cons_accepted, accepted_append, own_passed, before_order, before_other}
use Rattle.postman_laws.specs.Laws.Acceptance.{BeforeAccepted, before_accepted, file_accepted}

-- ---- one arc

module _ (b : Bool) (a : Arc) where
  closed_open : is_open (closed_if b a) ≡ (not b && is_open a)
  unfolding closed_if
  closed_open = at b
    where
      at : (b : Bool) → ltb (cond b 2 a.standing) 2 ≡ (not b && is_open a)
      at true = refl
      at false = refl

  closed_required : is_required_arc (closed_if b a) ≡ (not b && is_required_arc a)
  unfolding closed_if
  closed_required = at b
    where
      at : (b : Bool) → eqb (cond b 2 a.standing) 1 ≡ (not b && is_required_arc a)
      at true = refl
      at false = refl

  closed_arc : (n : ℕ) → IsArc n a → IsArc n (closed_if b a)
  unfolding closed_if
  closed_arc n h = record {
    tail_in = h.tail_in;
    head_in = h.head_in;
    standing_in = cond_ind b 2 a.standing (λ s. s ≤ 2) (λ t. omega arith) (λ t. h.standing_in);
    cost_in_holds = h.cost_in_holds;
    service_in = h.service_in;
  }

pub kept_arc : (a : Arc) → closed_if false a ≡ a
unfolding closed_if
kept_arc a = refl

-- a number that no arc has
closed_none : (b : Bool) → closed_if b (arc_at [] 0) ≡ arc_at [] 0
unfolding closed_if
closed_none true = refl
closed_none false = refl

-- ---- the plan at a departure

module _ (p : Plan) (windows : List Window) (d : Departure) where
  abbrev q : Plan
  q = plan_at p windows d

  abbrev shut : ℕ → Bool
  shut = is_shut windows d

  pub at_length : length q.arcs ≡ length p.arcs
  unfolding plan_at
  at_length = length_map_below (λ k. closed_if (shut k) (arc_at p.arcs k)) (length p.arcs)

  arc_within : (k : ℕ) → k < length p.arcs → arc_at q.arcs k ≡ closed_if (shut k) (arc_at p.arcs k)
  unfolding plan_at
  arc_within k l = get_d_map_below (λ k. closed_if (shut k) (arc_at p.arcs k)) (length p.arcs) k _ l

  arc_beyond : (k : ℕ) → length p.arcs ≤ k → arc_at q.arcs k ≡ closed_if (shut k) (arc_at p.arcs k)
  arc_beyond k l =
      let e = at_length in
      get_or-eq_default q.arcs _ (omega arith)
      ∙ sym (ap (closed_if (shut k)) (get_or-eq_default p.arcs _ l) ∙ closed_none (shut k))

  pub at_arc : (k : ℕ) → arc_at q.arcs k ≡ closed_if (shut k) (arc_at p.arcs k)
  at_arc k = elim (dec_le (length p.arcs) k) [ yes l ↦ arc_beyond k l | no n ↦ arc_within k (omega arith) ]

  pub at_well_formed : WellFormed p → WellFormed q
  unfolding plan_at
  at_well_formed w = of_made_arcs p w _ (λ k. closed_arc (shut k) (arc_at p.arcs k) p.n)

  -- the ends and the costs
  same_tail : (k : ℕ) → (arc_at q.arcs k).tail ≡ (arc_at p.arcs k).tail
  unfolding closed_if
  same_tail k = ap (λ (a : Arc). a.tail) (at_arc k)

  same_head : (k : ℕ) → (arc_at q.arcs k).head ≡ (arc_at p.arcs k).head
  unfolding closed_if
  same_head k = ap (λ (a : Arc). a.head) (at_arc k)

  same_cost : (k : ℕ) → (arc_at q.arcs k).cost ≡ (arc_at p.arcs k).cost
  unfolding closed_if
  same_cost k = ap (λ (a : Arc). a.cost) (at_arc k)

  same_service : (k : ℕ) → (arc_at q.arcs k).service ≡ (arc_at p.arcs k).service
  unfolding closed_if
  same_service k = ap (λ (a : Arc). a.service) (at_arc k)

  at_open : (k : ℕ) → is_open (arc_at q.arcs k) ≡ (not (shut k) && is_open (arc_at p.arcs k))
  at_open k = ap is_open (at_arc k) ∙ closed_open (shut k) (arc_at p.arcs k)

  at_required : (k : ℕ) → is_required_arc (arc_at q.arcs k) ≡ (not (shut k) && is_required_arc (arc_at p.arcs k))
  at_required k = ap is_required_arc (at_arc k) ∙ closed_required (shut k) (arc_at p.arcs k)

  -- ---- walks

  walk_avoids : (i : ℕ) (w : List ℕ) (j : ℕ) → IsWalk q.arcs i w j → IsWalk p.arcs i w j × Avoids windows d w
  walk_avoids i [] j e = (e, λ k m. elim m [ ])
  walk_avoids i (x ∷ w) j h =
      let r = walk_avoids (arc_at q.arcs x).head w j h.3 in
      let o = and_parts (not (shut x)) (is_open (arc_at p.arcs x)) (subst T (at_open x) h.1) in
      let e = at_length in
      let l = h.0 in (
        (omega arith, o.1, sym (same_tail x) ∙ h.2, subst (λ v. IsWalk p.arcs v w j) (same_head x) r.0),
        λ k m. elim (Memᴰ.cases_cons m) [ inl g ↦ subst⁻¹ (λ k. T (not (shut k))) g o.0 | inr n ↦ r.1 k n ],
      )

  avoiding_walk : (i : ℕ) (w : List ℕ) (j : ℕ) → IsWalk p.arcs i w j → Avoids windows d w → IsWalk q.arcs i w j
  avoiding_walk i [] j e a = e
  avoiding_walk i (x ∷ w) j h a =
      let r = avoiding_walk (arc_at p.arcs x).head w j h.3 (λ k m. a k (Memᴰ.tail m)) in
      let e = at_length in
      let l = h.0 in (
        omega arith,
        subst⁻¹ T (at_open x) (and_both (not (shut x)) (is_open (arc_at p.arcs x)) (a x (Memᴰ.head refl)) h.1),
        same_tail x ∙ h.2,
        subst⁻¹ (λ v. IsWalk q.arcs v w j) (same_head x) r,
      )

  -- ---- drives, where no required arc is shut

  module _ (none_shut : T (not (is_must_shut p windows d))) where
    open_required : (k : ℕ) → k < length p.arcs → T (is_required_arc (arc_at p.arcs k)) → T (not (shut k))
    unfolding is_must_shut
    open_required k l m = any_of_not shut (mem_numbers p (record { number = l; must = m })) none_shut

    same_required : (k : ℕ) → k < length p.arcs → is_required_arc (arc_at q.arcs k) ≡ is_required_arc (arc_at p.arcs k)
    same_required k l =
        at_required k
        ∙ same_test (not (shut k) && is_required_arc (arc_at p.arcs k)) (is_required_arc (arc_at p.arcs k))
        (λ t. (and_parts (not (shut k)) (is_required_arc (arc_at p.arcs k)) t).1)
        (λ t. and_both (not (shut k)) (is_required_arc (arc_at p.arcs k)) (open_required k l t) t)

    -- THE DRIVES of the plan at a departure are those that avoid the arcs shut
    pub drives : (w : List ℕ) → IsDrive q w ↔ (IsDrive p w × Avoids windows d w)
    drives w = (there, back)
      where
        there : IsDrive q w → IsDrive p w × Avoids windows d w
        there t =
            let r = walk_avoids t.start w t.start t.leads_back in
            let e = at_length in (
              record {
                start = t.start;
                leads_back = r.0;
                covers = λ k l m. t.covers k (omega arith) (subst⁻¹ T (same_required k l) m);
              },
              r.1,
            )

        back : IsDrive p w × Avoids windows d w → IsDrive q w
        back h =
            let t = h.0 in
            let e = at_length in
            record {
              start = t.start;
              leads_back = avoiding_walk t.start w t.start t.leads_back h.1;
              covers = λ k l m. let g : k < length p.arcs = omega arith in t.covers k g (subst T (same_required k g) m);
            }

    pub same_numbers : required_numbers q ≡ required_numbers p
    unfolding required_numbers
    same_numbers =
        ap (λ m. select (λ k. is_required_arc (arc_at q.arcs k)) (below m)) at_length
        ∙ select_cong (λ k. is_required_arc (arc_at q.arcs k)) (λ k. is_required_arc (arc_at p.arcs k)) (below (length p.arcs))
        (λ k m. same_required k (below_mem m))

    pub same_some : 0 < length (required_arcs q) → 0 < length (required_arcs p)
    same_some l =
        let a = ap length (numbers_arcs q) in
        let b = ap length (numbers_arcs p) in
        let c = length-map (required_numbers q) (λ k. arc_at q.arcs k) in
        let e = length-map (required_numbers p) (λ k. arc_at p.arcs k) in
        let f = ap length same_numbers in
        omega arith

    same_due : (due w : List ℕ) → drive_cost_due q.arcs due w ≡ drive_cost_due p.arcs due w
    unfolding drive_cost_due
    same_due due [] = refl
    same_due due (k ∷ w) = rw (same_service k, same_cost k, same_due (select (λ j. not (eqb k j)) due) w, same_due due w)

    -- and every list of arcs costs what it costs in the plan that it is made from
    pub same_drive_cost : (w : List ℕ) → drive_cost q w ≡ drive_cost p w
    unfolding drive_cost
    same_drive_cost w = ap (λ due. drive_cost_due q.arcs due w) same_numbers ∙ same_due (required_numbers p) w

-- ---- no windows

no_windows_arcs : (p : Plan) (d : Departure) → (plan_at p [] d).arcs ≡ p.arcs
unfolding is_shut any_of
no_windows_arcs p d =
    ext_get_or (arc_at [] 0) (plan_at p [] d).arcs p.arcs (at_length p [] d) (λ k l. at_arc p [] d k ∙ kept_arc (arc_at p.arcs k))

pub no_windows_plan : (p : Plan) (d : Departure) → plan_at p [] d ≡ p
unfolding plan_at
no_windows_plan p d = λ i. record { n = p.n; arcs = no_windows_arcs p d i }

no_windows_in : windows_in [] ≡ []
unfolding windows_in below up_from
no_windows_in = refl

none_bad : (m : ℕ) (d : Departure) → T (not (is_bad_departure d)) → has_bad_window m [] d ≡ false
unfolding has_bad_window is_bad_length windows_in below up_from any_of
none_bad m d t = let e : is_bad_departure d ≡ false = is_false (T_not (is_bad_departure d) t) in rw e refl

none_shut : (p : Plan) (d : Departure) → is_must_shut p [] d ≡ false
unfolding is_must_shut is_shut any_of
none_shut p d = is_false (λ t. (any_of_at (is_shut [] d) (required_numbers p) t).2)

module _ (bytes : List ℕ) (budget places : ℕ) (d : Departure) (good : T (not (is_bad_departure d))) where
  abbrev p : Plan
  p = plan_of bytes

  pub no_windows_same : plan_at p (windows_in []) d ≡ p
  no_windows_same = ap (λ (ws : List Window). plan_at p ws d) no_windows_in ∙ no_windows_plan p d

  none_own : first_refusal (window_conditions p [] d) ≡ none
  unfolding window_conditions
  none_own =
      let bad : T (not (has_bad_window (length p.arcs) [] d)) = rw (none_bad (length p.arcs) d good) tt in
      let must : T (not (is_must_shut p (windows_in []) d)) = rw (no_windows_in, none_shut p d) tt in
      cons_accepted _ _ _ bad (cons_accepted _ _ _ must nothing_refused)

  pub no_windows_refusal : call_refusal_at bytes budget places [] d ≡ call_refusal bytes budget places
  unfolding call_refusal_at earlier_conditions_at call_refusal earlier_conditions
  no_windows_refusal =
      own_passed bytes budget places (window_conditions p [] d) (plan_at p (windows_in []) d) _ none_own
      ∙ ap (λ (q : Plan). first_refusal (conditions_before bytes budget places [] q ++ (is_cut_off q, 12) ∷ [])) no_windows_same

-- ---- the call

-- what it says that none of the conditions before 12 applies
pub record AcceptedAt (bytes : List ℕ) (b places : ℕ) (numbers : List ℕ) (d : Departure) : Type 0 where
  pub before : BeforeAccepted bytes b places (window_conditions (plan_of bytes) numbers d) (plan_at (plan_of bytes) (windows_in numbers) d)
  pub well_formed : WellFormed (plan_at (plan_of bytes) (windows_in numbers) d)
  pub good : T (not (has_bad_window (length (plan_of bytes).arcs) numbers d))
  pub none_shut : T (not (is_must_shut (plan_of bytes) (windows_in numbers) d))

module _ (p : Plan) (numbers : List ℕ) (d : Departure) where
  pub windows_accepted : first_refusal (window_conditions p numbers d) ≡ none
      → T (not (has_bad_window (length p.arcs) numbers d)) × T (not (is_must_shut p (windows_in numbers) d))
  unfolding window_conditions
  windows_accepted e = let a = accepted_cons _ _ _ e in (a.0, (accepted_cons _ _ _ a.1).0)

  pub windows_other : Other 12 (window_conditions p numbers d)
  unfolding window_conditions
  windows_other = (omega arith, (omega arith, tt))

module _ (bytes : List ℕ) (budget places : ℕ) (numbers : List ℕ) (d : Departure) where
  -- the plan of the call, and its own conditions
  abbrev at : Plan
  at = plan_at (plan_of bytes) (windows_in numbers) d

  abbrev own : Conditions
  own = window_conditions (plan_of bytes) numbers d

  pub at_conditions : call_refusal_at bytes budget places numbers d
      ≡ first_refusal (earlier_conditions_at bytes budget places numbers d ++ (is_cut_off at, 12) ∷ [])
  unfolding call_refusal_at
  at_conditions = refl

  pub at_other : Other 12 (earlier_conditions_at bytes budget places numbers d)
  unfolding earlier_conditions_at
  at_other = before_other bytes budget places own at (windows_other (plan_of bytes) numbers d)

  pub earlier_accepted_at : first_refusal (earlier_conditions_at bytes budget places numbers d) ≡ none
      → AcceptedAt bytes budget places numbers d
  unfolding earlier_conditions_at
  earlier_accepted_at e =
      let b = before_accepted bytes budget places own at e in
      let w = windows_accepted (plan_of bytes) numbers d b.own_accepted in
      record {
        before = b;
        well_formed = at_well_formed (plan_of bytes) (windows_in numbers) d (file_accepted bytes b.file);
        good = w.0;
        none_shut = w.1;
      }

  pub call_accepted_at : call_refusal_at bytes budget places numbers d ≡ none → AcceptedAt bytes budget places numbers d
  call_accepted_at e =
      earlier_accepted_at (accepted_append (earlier_conditions_at bytes budget places numbers d) _ (rw at_conditions at e)).0

  -- the order, from the file on
  pub at_order : call_refusal_at bytes budget places numbers d
      ≡ first_refusal (file_conditions bytes ++ (call_conditions budget places
      ++ (own ++ (parts_conditions at ++ (is_cut_off at, 12) ∷ []))))
  unfolding call_refusal_at earlier_conditions_at
  at_order = ap first_refusal (before_order bytes budget places own at ((is_cut_off at, 12) ∷ []))
