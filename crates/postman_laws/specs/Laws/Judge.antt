-- A list of arcs has no fault exactly when it is a drive: a number that is not foreign is that of an open arc, arcs without a gap are
-- a walk that ends where it began, and a required arc that is not missed occurs. Each by induction on the list. Hence the list is judged
-- to cost something exactly when it is a drive, where nothing before its faults applies.
use Rattle.std.specs.Prelude.{◌≡◌, ◌↔◌, Bool, ◌||◌, ℕ, ◌*◌, ◌^◌, ◌≤◌, ◌<◌, length, T, eqb, leb, ltb}
use Rattle.std.proofs.Math.Path.{refl, sym, ap, subst⁻¹}
use Rattle.std.proofs.Common.{◌∙◌, arith, lt-ltb, le-ltb}
use Rattle.std.proofs.Math.Bool.{true, false, not, cond}
use mathlib.Core.List.{List, [], ◌∷◌, ◌++◌, Memᴰ, append_assoc}
use Rattle.std.proofs.Math.Option.{Option, none, some}
use Rattle.std.proofs.Math.Dec.{T_not, not_T, eqb→eq, eqb_refl, nleb→lt}
use Rattle.std.proofs.Math.Arith.{lt→nleb}
use Rattle.postman.specs.Lists.{select, any_of}
use Rattle.postman.specs.Plan.{Arc, Plan, is_open, is_required_arc, arc_at, required_arcs, required_numbers}
use Rattle.postman.specs.Refusal.{first_refusal, given}
use Rattle.postman.specs.PlanFile.{edition, vertex_count, arc_count, is_edition, is_outside, edition_conditions, extent_conditions, file_conditions, plan_of}
use Rattle.postman.specs.Drive.{IsWalk, IsDrive, drive_cost_due, drive_cost}
use Rattle.postman.specs.PlanCall.{call_refusal}
use Rattle.postman.specs.Judge.{is_foreign, has_foreign, is_broken, is_unjoined, is_missed, fault_conditions, highest_places, lent_conditions, unjudged_conditions, judge_refusal, judge_answer}
use Rattle.postman.specs.Laws.Tests.{cond_ind, not_or, not_not, eqb_same}
use Rattle.postman.specs.Laws.Membership.{any_of_mem, any_of_at, any_of_not}
use Rattle.postman_laws.specs.Laws.Required.{numbers_mem, mem_numbers}
use Rattle.postman_laws.specs.Laws.Refusal.{first_on, nothing_refused, accepted_cons, cons_accepted, accepted_append, append_accepted, answer_given, was_given}
use Rattle.postman_laws.specs.Laws.Acceptance.{neither, not_not_T, call_file, call_accepted}

module _ (p : Plan) where
  -- ---- 14

  pub driven : (k : ℕ) → T (not (is_foreign p k)) → (k < length p.arcs) × T (is_open (arc_at p.arcs k))
  unfolding is_foreign
  driven k t =
      let r = not_or (leb (length p.arcs) k) (not (is_open (arc_at p.arcs k))) t in
      (nleb→lt (length p.arcs) k r.0, not_not (is_open (arc_at p.arcs k)) r.1)

  not_foreign : (k : ℕ) → k < length p.arcs → T (is_open (arc_at p.arcs k)) → T (not (is_foreign p k))
  unfolding is_foreign
  not_foreign k l o =
      neither (leb (length p.arcs) k) (not (is_open (arc_at p.arcs k))) (lt→nleb (length p.arcs) k l)
      (not_not_T (is_open (arc_at p.arcs k)) o)

  -- ---- 15

  joined_walk : (v : ℕ) (w : List ℕ) (j : ℕ) → T (not (has_foreign p w)) → T (not (is_broken p.arcs v w j)) → IsWalk p.arcs v w j
  unfolding has_foreign is_broken any_of
  joined_walk v [] j f b = eqb→eq v j (not_not (eqb v j) b)
  joined_walk v (k ∷ w) j f b =
      let a = arc_at p.arcs k in
      let x = not_or (is_foreign p k) (any_of (is_foreign p) w) f in
      let y = not_or (not (eqb v a.tail)) (is_broken p.arcs a.head w j) b in
      let d = driven k x.0 in
      (d.0, d.1, sym (eqb→eq v a.tail (not_not (eqb v a.tail) y.0)), joined_walk a.head w j x.1 y.1)

  walk_joined : (v : ℕ) (w : List ℕ) (j : ℕ) → IsWalk p.arcs v w j → T (not (has_foreign p w)) × T (not (is_broken p.arcs v w j))
  unfolding has_foreign is_broken any_of
  walk_joined v [] j e = (tt, not_not_T (eqb v j) (eqb_same e))
  walk_joined v (k ∷ w) j h =
      let a = arc_at p.arcs k in
      let r = walk_joined a.head w j h.3 in (
        neither (is_foreign p k) (any_of (is_foreign p) w) (not_foreign k h.0 h.1) r.0,
        neither (not (eqb v a.tail)) (is_broken p.arcs a.head w j) (not_not_T (eqb v a.tail) (eqb_same (sym h.2))) r.1,
      )

  -- ---- 16

  covers : (w : List ℕ) → T (not (is_missed p w)) → (k : ℕ) → k < length p.arcs → T (is_required_arc (arc_at p.arcs k)) → Memᴰ k w
  unfolding is_missed
  covers w t k l m =
      let u = any_of_not (λ k. not (any_of (eqb k) w)) (mem_numbers p (record { number = l; must = m })) t in
      let r = any_of_at (eqb k) w (not_not (any_of (eqb k) w) u) in
      subst⁻¹ (λ z. Memᴰ z w) (eqb→eq k r.0 r.2) r.1

  not_missed : (w : List ℕ) → ((k : ℕ) → k < length p.arcs → T (is_required_arc (arc_at p.arcs k)) → Memᴰ k w)
      → T (not (is_missed p w))
  unfolding is_missed
  not_missed w h =
      not_T (any_of (λ k. not (any_of (eqb k) w)) (required_numbers p))
      (λ t.
      let r = any_of_at (λ k. not (any_of (eqb k) w)) (required_numbers p) t in
      let n = numbers_mem p r.1 in
      T_not (any_of (eqb r.0) w) r.2 (any_of_mem (eqb r.0) (h r.0 n.number n.must) (eqb_refl r.0)))

  -- ---- all three

  pub record IsFaultless (w : List ℕ) : Type 0 where
    pub known : T (not (has_foreign p w))
    pub joined : T (not (is_unjoined p w))
    pub complete : T (not (is_missed p w))

  faultless_drive : (w : List ℕ) → IsFaultless w → IsDrive p w
  unfolding is_unjoined has_foreign any_of
  faultless_drive [] h = record { start = 0; leads_back = refl; covers = covers [] h.complete }
  faultless_drive (k ∷ w) h =
      let a = arc_at p.arcs k in
      let x = not_or (is_foreign p k) (any_of (is_foreign p) w) h.known in
      let d = driven k x.0 in
      record {
        start = a.tail;
        leads_back = (d.0, d.1, refl, joined_walk a.head w a.tail x.1 h.joined);
        covers = covers (k ∷ w) h.complete;
      }

  drive_faultless : (w : List ℕ) → IsDrive p w → IsFaultless w
  unfolding is_unjoined
  drive_faultless [] h =
      record { known = (walk_joined h.start [] h.start h.leads_back).0; joined = tt; complete = not_missed [] h.covers }
  drive_faultless (k ∷ w) h =
      let a = arc_at p.arcs k in
      record {
        known = (walk_joined h.start (k ∷ w) h.start h.leads_back).0;
        joined = (walk_joined a.head w a.tail (subst⁻¹ (λ z. IsWalk p.arcs a.head w z) h.leads_back.2 h.leads_back.3)).1;
        complete = not_missed (k ∷ w) h.covers;
      }

  accepted_faultless : (w : List ℕ) → first_refusal (fault_conditions p w) ≡ none → IsFaultless w
  unfolding fault_conditions
  accepted_faultless w e =
      let f = accepted_cons _ _ _ e in
      let u = accepted_cons _ _ _ f.1 in
      let m = accepted_cons _ _ _ u.1 in
      record { known = f.0; joined = u.0; complete = m.0 }

  faultless_accepted : (w : List ℕ) → IsFaultless w → first_refusal (fault_conditions p w) ≡ none
  unfolding fault_conditions
  faultless_accepted w h =
      cons_accepted _ _ _ h.known (cons_accepted _ _ _ h.joined (cons_accepted _ _ _ h.complete nothing_refused))

  -- no fault applies exactly when the list is a drive
  pub faultless : (w : List ℕ) → (first_refusal (fault_conditions p w) ≡ none) ↔ IsDrive p w
  faultless w = (λ e. faultless_drive w (accepted_faultless w e), λ h. faultless_accepted w (drive_faultless w h))

-- ---- the refusals before the faults

module _ (bytes : List ℕ) (places : ℕ) where
  -- a list of at most 65,535 places is refused for the file alone
  pub lent_short : places ≤ highest_places → first_refusal (lent_conditions bytes places) ≡ first_refusal (file_conditions bytes)
  unfolding lent_conditions file_conditions first_refusal edition_conditions extent_conditions
  lent_short l = rw (le-ltb highest_places places l) refl

  -- a longer one for the file's first bytes, or for its length
  pub lent_long : highest_places < places
      → first_refusal (lent_conditions bytes places)
      ≡ cond (ltb (length bytes) 3) (some 1) (cond (not (is_edition (edition bytes))) (some 2) (some 3))
  unfolding lent_conditions first_refusal edition_conditions extent_conditions
  lent_long l =
      rw (lt-ltb highest_places places l)
      (ap (λ (o : Option ℕ). cond (ltb (length bytes) 3) (some 1) (cond (not (is_edition (edition bytes))) (some 2) o))
      (at (is_outside (vertex_count bytes) 1 64 || is_outside (arc_count bytes) 1 256)))
    where
      at : (b : Bool) → cond {A = Option ℕ} b (some 3) (some 3) ≡ some 3
      at true = refl
      at false = refl

  accepted_unjudged : first_refusal (lent_conditions bytes places) ≡ none → 0 < length (required_arcs (plan_of bytes))
      → first_refusal (unjudged_conditions bytes places) ≡ none
  unfolding unjudged_conditions
  accepted_unjudged e l =
      append_accepted (lent_conditions bytes places) _ e
      (cons_accepted _ _ _
      (not_T (eqb (length (required_arcs (plan_of bytes))) 0)
      (λ t. (let z = eqb→eq (length (required_arcs (plan_of bytes))) 0 t in omega arith))) nothing_refused)

-- ---- what is judged

module _ (bytes w : List ℕ) where
  abbrev p : Plan
  p = plan_of bytes

  -- 10 and the faults, one after the other
  pub judge_conditions : judge_refusal bytes w
      ≡ first_refusal (lent_conditions bytes (length w) ++ (eqb (length (required_arcs p)) 0, 10) ∷ fault_conditions p w)
  unfolding judge_refusal unjudged_conditions
  judge_conditions =
      ap first_refusal (append_assoc (lent_conditions bytes (length w)) ((eqb (length (required_arcs p)) 0, 10) ∷ [])
      (fault_conditions p w))

  -- THE LAW: nothing is refused exactly when the list is a drive
  pub judged : first_refusal (unjudged_conditions bytes (length w)) ≡ none → (judge_refusal bytes w ≡ none) ↔ IsDrive p w
  unfolding judge_refusal
  judged e =
      let same = first_on (unjudged_conditions bytes (length w)) (fault_conditions p w) e in
      let f = faultless p w in
      (λ h. f.0 (sym same ∙ h), λ h. same ∙ f.1 h)

  -- a cost is that of a drive, for every list of any length
  pub judged_cost : (c : ℕ) → judge_answer bytes w ≡ given c → IsDrive p w × (c ≡ drive_cost p w)
  unfolding judge_answer judge_refusal
  judged_cost c h =
      let r = was_given (judge_refusal bytes w) (drive_cost p w) c (sym h) in
      ((faultless p w).0 (accepted_append (unjudged_conditions bytes (length w)) (fault_conditions p w) r.0).1, r.1)

  -- and a drive is given its cost
  pub drive_judged : first_refusal (unjudged_conditions bytes (length w)) ≡ none → IsDrive p w
      → judge_answer bytes w ≡ given (drive_cost p w)
  unfolding judge_answer
  drive_judged e h = answer_given (judge_refusal bytes w) (drive_cost p w) ((judged e).1 h)

  -- so does every drive of at most 65,535 places of a file that reads, with some required arc; and of one that the plan call does not
  -- refuse
  pub file_judged : first_refusal (file_conditions bytes) ≡ none → 0 < length (required_arcs p) → length w ≤ highest_places → IsDrive p w
      → judge_answer bytes w ≡ given (drive_cost p w)
  file_judged f s l h = drive_judged (accepted_unjudged bytes (length w) (lent_short bytes (length w) l ∙ f) s) h

  pub call_judged : (budget places : ℕ) → call_refusal bytes budget places ≡ none → length w ≤ highest_places → IsDrive p w
      → judge_answer bytes w ≡ given (drive_cost p w)
  call_judged budget places e l h =
      file_judged (call_file bytes budget places e) (call_accepted bytes budget places e).earlier.some_required l h

-- ---- what it costs

-- A pass costs at most 65,535, so that the cost of 65,535 places is below 2 to the 32.
pub cost_due_le : (arcs : List Arc) → ((k : ℕ) → ((arc_at arcs k).cost ≤ 65535) × ((arc_at arcs k).service ≤ 65535)) → (w due : List ℕ)
    → drive_cost_due arcs due w ≤ 65535 * length w
unfolding drive_cost_due
cost_due_le arcs h [] due = omega arith
cost_due_le arcs h (k ∷ w) due =
    let a = (h k).0 in
    let b = (h k).1 in
    cond_ind (any_of (eqb k) due) _ _ (λ c. c ≤ 65535 * length (k ∷ w))
    (λ t. (let r = cost_due_le arcs h w (select (λ j. not (eqb k j)) due) in omega arith))
    (λ t. (let r = cost_due_le arcs h w due in omega arith))

pub drive_cost_small : (p : Plan) → ((k : ℕ) → ((arc_at p.arcs k).cost ≤ 65535) × ((arc_at p.arcs k).service ≤ 65535)) → (w : List ℕ)
    → length w ≤ highest_places
    → drive_cost p w < 2 ^ 32
unfolding drive_cost highest_places
drive_cost_small p h w l = let r = cost_due_le p.arcs h w (required_numbers p) in omega arith
