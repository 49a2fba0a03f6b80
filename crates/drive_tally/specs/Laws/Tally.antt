-- The flags stand for the must arcs that are due. A pass takes its arc off the list, whether it was due or not, and clears its flag;
-- what was spent and what the rest of the list costs with the arcs still due is the cost of the whole, and a must arc is missed exactly
-- if one of those does not occur in the rest.
use Rattle.std.specs.Prelude.{◌≡◌, Bool, ℕ, ◌+◌, ◌≤◌, ◌<◌, length, set, drop, replicate}
use Rattle.std.proofs.Math.Path.{refl, sym, ap, subst⁻¹}
use Rattle.std.proofs.Common.{◌∙◌, subst, ne_eqb, length-set, get_or-set_same, get_or-set_other, T_not, eqb→eq}
use Rattle.std.proofs.Math.Bool.{true, false, not, cond}
use mathlib.Core.List.Memᴰ
use mathlib.Core.List.{List, [], ◌∷◌}
use Rattle.std.proofs.Math.Decide.{ℕ_discrete, dec_le}
use native.Mathlib.Omega.{arith}
use Rattle.std.proofs.Math.ListN.{get_or, get_or-eq_default}
use Rattle.std.proofs.lemmas.List.{length-replicate, length-map, get_or-replicate}
use Rattle.std.proofs.Math.Dec.{T, not_T, eqb, eqb_refl}
use Rattle.postman.specs.Lists.{select, any_of, below}
use Rattle.postman.specs.Plan.{Arc, Plan, arc_at, required_arcs, required_numbers}
use Rattle.postman.specs.Drive.{drive_cost_due, drive_cost}
use Rattle.postman.specs.Judge.{has_foreign, is_missed}
use Rattle.postman.specs.Laws.Tests.{same_test, not_or, is_false, is_true, of_true, eqb_other}
use Rattle.postman.specs.Laws.Membership.{mem_select, select_mem, any_of_mem, any_of_at, mem_below, below_mem}
use Rattle.postman_laws.specs.Laws.Required.{numbers_mem, mem_numbers, numbers_arcs}
use Rattle.postman_laws.specs.Laws.Acceptance.{neither}
use Rattle.plan.specs.Laws.Rows.{rows_length, row_arc}
use Rattle.drive_tally.specs.declared.tally.Tally.{Tally}
use Rattle.drive_tally.specs.Rows.{plan_over}
use Rattle.drive_tally.specs.Tally.{AreDue, has_flag, IsTally}
use Rattle.drive_tally.specs.Laws.Places.{places_from, no_places, place_arc}

-- ---- the flags of the must arcs

required_flag : (p : Plan) (k : ℕ) → k < length p.arcs → eqb (arc_at p.arcs k).standing 1 ≡ any_of (eqb k) (required_numbers p)
required_flag p k l =
    same_test (eqb (arc_at p.arcs k).standing 1) (any_of (eqb k) (required_numbers p))
    (λ t. any_of_mem (eqb k) (mem_numbers p (record { number = l; must = t })) (eqb_refl k))
    (λ t.
    let r = any_of_at (eqb k) (required_numbers p) t in
    subst⁻¹ (λ z. T (eqb (arc_at p.arcs z).standing 1)) (eqb→eq k r.0 r.2) (numbers_mem p r.1).must)

past_flag : (p : Plan) (k : ℕ) → length p.arcs ≤ k → false ≡ any_of (eqb k) (required_numbers p)
past_flag p k l =
    sym (is_false {b = any_of (eqb k) (required_numbers p)}
    (λ t.
    let r = any_of_at (eqb k) (required_numbers p) t in
    let e = eqb→eq k r.0 r.2 in
    let h = (numbers_mem p r.1).number in
    omega arith))

-- the flags of the first i rows
module _ (rows : List (List ℕ)) where
  abbrev is_must : ℕ → Bool
  is_must k = eqb (get_or (get_or rows k []) 2 0) 1

  pub record AreFlagged (flags : List Bool) (i : ℕ) : Type 0 where
    pub long : length flags ≡ 256
    pub before : (k : ℕ) → k < i → get_or flags k false ≡ is_must k
    pub after : (k : ℕ) → i ≤ k → get_or flags k false ≡ false

  pub none_flagged : AreFlagged (replicate 256 false) 0
  none_flagged = record {
    long = length-replicate 256 false;
    before = λ k l. absurd (omega arith);
    after = λ k l. elim (dec_le 256 k) [
      | yes h ↦ let e = length-replicate 256 false in get_or-eq_default (replicate 256 false) false {n = k} (omega arith)
      | no h ↦ get_or-replicate 256 k false false (omega arith)
    ];
  }

  pub more_flagged : (flags : List Bool) (i : ℕ) (b : Bool) → i < 256 → b ≡ is_must i → AreFlagged flags i
      → AreFlagged (set flags i b) (i + 1)
  more_flagged flags i b l e h = record {
    long = length-set flags i b ∙ h.long;
    before = λ k g. elim (ℕ_discrete k i) [
      | yes q ↦ let s = h.long in rw q (get_or-set_same flags i b false (omega arith) ∙ e)
      | no q ↦ get_or-set_other flags i k b false q ∙ h.before k (omega arith)
    ];
    after = λ k g. get_or-set_other flags i k b false (omega arith) ∙ h.after k (omega arith);
  }

  pub all_flagged : (flags : List Bool) (i : ℕ) → i ≡ length rows → AreFlagged flags i → AreDue flags (required_numbers (plan_over rows))
  all_flagged flags i e h = record {
    long = h.long;
    flag = λ k.
        let m = rows_length 0 rows in
        elim (dec_le i k) [
          | yes g ↦ h.after k g ∙ past_flag (plan_over rows) k (omega arith)
          | no g ↦ h.before k (omega arith) ∙ ap (λ (a : Arc). eqb a.standing 1) (sym (row_arc 0 rows k (omega arith)))
              ∙ required_flag (plan_over rows) k (omega arith)
        ];
  }

-- ---- a flag is set exactly where something is due

module _ (flags : List Bool) where
  some_flag : (k : ℕ) → length flags ≡ 256 → T (get_or flags k false) → T (has_flag flags)
  unfolding has_flag
  some_flag k l t = elim (dec_le 256 k) [
    | yes h ↦ absurd (rw (get_or-eq_default flags false {n = k} (omega arith)) at t)
    | no h ↦ any_of_mem (λ k. get_or flags k false) (mem_below {n = 256} {k = k} (omega arith)) t
  ]

  pub has_due : (due : List ℕ) → AreDue flags due → has_flag flags ≡ not (eqb (length due) 0)
  unfolding has_flag any_of
  has_due [] h = is_false (λ t. (let r = any_of_at (λ k. get_or flags k false) (below 256) t in rw (h.flag r.0) at r.2))
  has_due (x ∷ due) h =
      is_true (some_flag x h.long (subst⁻¹ T (h.flag x) (any_of_mem (eqb x) {x = x} {xs = x ∷ due} (Memᴰ.head refl) (eqb_refl x))))
      ∙ ap not (sym (ne_eqb (length (x ∷ due)) 0 (λ e. omega arith)))

-- as a scan of the flags finds it
module _ (flags : List Bool) where
  pub flag_found : (k : ℕ) → k < 256 → get_or flags k false ≡ true → true ≡ has_flag flags
  unfolding has_flag
  flag_found k l e = sym (is_true (any_of_mem (λ k. get_or flags k false) (mem_below {n = 256} {k = k} l) (of_true e)))

  pub no_flag : ((k : ℕ) → k < 256 → get_or flags k false ≡ false) → false ≡ has_flag flags
  unfolding has_flag
  no_flag h = sym
      (is_false {b = any_of (λ k. get_or flags k false) (below 256)}
      (λ t. (let r = any_of_at (λ k. get_or flags k false) (below 256) t in rw (h r.0 (below_mem r.1)) at r.2)))

-- no must arc is there exactly when no flag is set
pub has_required : (p : Plan) (flags : List Bool) → AreDue flags (required_numbers p)
    → eqb (length (required_arcs p)) 0 ≡ not (has_flag flags)
has_required p flags h =
    let e : length (required_arcs p) ≡ length (required_numbers p) =
    sym (ap length (numbers_arcs p)) ∙ length-map (required_numbers p) (λ k. arc_at p.arcs k) in
    rw (e, has_due flags (required_numbers p) h) (twice (eqb (length (required_numbers p)) 0))
  where
    twice : (b : Bool) → b ≡ not (not b)
    twice true = refl
    twice false = refl

-- ---- an arc that is taken off

abbrev without : ℕ → List ℕ → List ℕ
without k = select (λ j. not (eqb k j))

other : (k j : ℕ) → T (not (eqb k j)) → T (not (eqb j k))
other k j t = not_T (eqb j k) (λ u. eqb_other t (sym (eqb→eq j k u)))

module _ (k : ℕ) where
  without_self : (due : List ℕ) → any_of (eqb k) (without k due) ≡ false
  without_self due =
      is_false (λ t.
      (let r = any_of_at (eqb k) (without k due) t in T_not (eqb k r.0) (select_mem (λ j. not (eqb k j)) due r.1).1 r.2))

  without_other : (due : List ℕ) (j : ℕ) → (j ≡ k → ⊥) → any_of (eqb j) (without k due) ≡ any_of (eqb j) due
  without_other due j n =
      same_test (any_of (eqb j) (without k due)) (any_of (eqb j) due)
      (λ t. (let r = any_of_at (eqb j) (without k due) t in any_of_mem (eqb j) (select_mem (λ j. not (eqb k j)) due r.1).0 r.2))
      (λ t.
      let r = any_of_at (eqb j) due t in
      let e = eqb→eq j r.0 r.2 in
      any_of_mem (eqb j) (mem_select (λ j. not (eqb k j)) r.1 (not_T (eqb k r.0) (λ u. n (e ∙ sym (eqb→eq k r.0 u))))) r.2)

  without_absent : (due : List ℕ) → any_of (eqb k) due ≡ false → without k due ≡ due
  unfolding select any_of
  without_absent [] e = refl
  without_absent (x ∷ due) e =
      let r = not_or (eqb k x) (any_of (eqb k) due) (rw e tt) in
      let f : eqb k x ≡ false = is_false (T_not (eqb k x) r.0) in
      rw f (ap (λ (l : List ℕ). x ∷ l) (without_absent due (is_false (T_not (any_of (eqb k) due) r.1))))

  -- what is missed of the arcs that are due
  missed_without : (w due : List ℕ) → any_of (λ j. not (any_of (eqb j) (k ∷ w))) due ≡ any_of (λ j. not (any_of (eqb j) w)) (without k due)
  unfolding any_of
  missed_without w due =
      same_test _ _
      (λ t.
      let r = any_of_at (λ j. not (any_of (eqb j) (k ∷ w))) due t in
      let u = missed_parts r.0 r.2 in
      any_of_mem (λ j. not (any_of (eqb j) w)) (mem_select (λ j. not (eqb k j)) r.1 (other r.0 k u.0)) u.1)
      (λ t.
      let r = any_of_at (λ j. not (any_of (eqb j) w)) (without k due) t in
      let s = select_mem (λ j. not (eqb k j)) due r.1 in
      any_of_mem (λ j. not (any_of (eqb j) (k ∷ w))) s.0 (parts_missed r.0 (other k r.0 s.1) r.2))
    where
      missed_parts : (j : ℕ) → T (not (any_of (eqb j) (k ∷ w))) → T (not (eqb j k)) × T (not (any_of (eqb j) w))
      missed_parts j t = not_or (eqb j k) (any_of (eqb j) w) t

      parts_missed : (j : ℕ) → T (not (eqb j k)) → T (not (any_of (eqb j) w)) → T (not (any_of (eqb j) (k ∷ w)))
      parts_missed j t u = neither (eqb j k) (any_of (eqb j) w) t u

  -- what a pass costs, and the rest
  pass_due : (arcs : List Arc) (w due : List ℕ)
      → drive_cost_due arcs due (k ∷ w)
      ≡ cond (any_of (eqb k) due) (arc_at arcs k).service (arc_at arcs k).cost + drive_cost_due arcs (without k due) w
  unfolding drive_cost_due
  pass_due arcs w due = at (any_of (eqb k) due) refl
    where
      at : (b : Bool) → any_of (eqb k) due ≡ b
          → cond b ((arc_at arcs k).service + drive_cost_due arcs (without k due) w) ((arc_at arcs k).cost + drive_cost_due arcs due w)
          ≡ cond b (arc_at arcs k).service (arc_at arcs k).cost + drive_cost_due arcs (without k due) w
      at true e = refl
      at false e = ap (λ (l : List ℕ). (arc_at arcs k).cost + drive_cost_due arcs l w) (sym (without_absent due e))

  cleared : (flags : List Bool) (due : List ℕ) → k < 256 → AreDue flags due → AreDue (set flags k false) (without k due)
  cleared flags due l h = record {
    long = length-set flags k false ∙ h.long;
    flag = λ j. elim (ℕ_discrete j k) [
      | yes q ↦ let s = h.long in rw q (get_or-set_same flags k false false (omega arith) ∙ sym (without_self due))
      | no q ↦ get_or-set_other flags k j false false q ∙ h.flag j ∙ sym (without_other due j q)
    ];
  }

-- ---- the tally after i places

module _ (p : Plan) (w : List ℕ) where
  pub record IsTallied (flags : List Bool) (cost i : ℕ) : Type 0 where
    pub due : List ℕ
    pub flags_are : AreDue flags due
    pub costs : cost + drive_cost_due p.arcs due (drop i w) ≡ drive_cost p w
    pub left : any_of (λ k. not (any_of (eqb k) (drop i w))) due ≡ is_missed p w

  pub tallied_start : (flags : List Bool) → AreDue flags (required_numbers p) → IsTallied flags 0 0
  unfolding drive_cost is_missed
  tallied_start flags h = record { due = required_numbers p; flags_are = h; costs = omega arith; left = refl }

  module _ (flags : List Bool) (cost i : ℕ) (l : i < length w) (h : IsTallied flags cost i) where
    abbrev k : ℕ
    k = get_or w i 0

    abbrev pass_cost : ℕ
    pass_cost = cond (get_or flags k false) (arc_at p.arcs k).service (arc_at p.arcs k).cost

    spent : cost + (pass_cost + drive_cost_due p.arcs (without k h.due) (drop (i + 1) w)) ≡ drive_cost p w
    spent =
        ap (λ b. cost
        + (cond b (arc_at p.arcs k).service (arc_at p.arcs k).cost
        + drive_cost_due p.arcs (without k h.due) (drop (i + 1) w))) (h.flags_are.flag k)
        ∙ ap (λ c. cost + c)
        (sym (pass_due k p.arcs (drop (i + 1) w) h.due) ∙ ap (drive_cost_due p.arcs h.due) (sym (places_from w i l)))
        ∙ h.costs

    tallied_room : cost + pass_cost ≤ drive_cost p w
    tallied_room = let e = spent in omega arith

    tallied_next : k < 256 → IsTallied (set flags k false) (cost + pass_cost) (i + 1)
    tallied_next m = record {
      due = without k h.due;
      flags_are = cleared k flags h.due m h.flags_are;
      costs = let e = spent in omega arith;
      left = sym (missed_without k (drop (i + 1) w) h.due)
          ∙ ap (λ (u : List ℕ). any_of (λ k. not (any_of (eqb k) u)) h.due) (sym (places_from w i l)) ∙ h.left;
    }

  pub tallied_end : (r : Tally) (i : ℕ) → length w ≤ i → IsTallied r.due r.cost i → IsTally p w r
  unfolding drive_cost_due any_of
  tallied_end r i l h =
      let e = no_places w i l in
      let c = nothing_left h.due in
      record {
        costs = sym (nothing_due p.arcs h.due r.cost) ∙ ap (λ (u : List ℕ). r.cost + drive_cost_due p.arcs h.due u) (sym e)
            ∙ h.costs;
        left = has_due r.due h.due h.flags_are ∙ sym c ∙ ap (λ (u : List ℕ). any_of (λ k. not (any_of (eqb k) u)) h.due) (sym e)
            ∙ h.left;
      }
    where
      nothing_due : (arcs : List Arc) (due : List ℕ) (c : ℕ) → c + drive_cost_due arcs due [] ≡ c
      nothing_due arcs due c = omega arith

      nothing_left : (due : List ℕ) → any_of (λ k. not (any_of (eqb k) [])) due ≡ not (eqb (length due) 0)
      nothing_left [] = refl
      nothing_left (x ∷ due) = ap not (sym (ne_eqb (length (x ∷ due)) 0 (λ e. omega arith)))

-- one place more, where x is what the row's numbers say that the pass costs
module _ (rows : List (List ℕ)) (w : List ℕ) (known : has_foreign (plan_over rows) w ≡ false) (flags : List Bool) (cost i : ℕ)
    (l : i < length w)
    (h : IsTallied (plan_over rows) w flags cost i) (x : ℕ)
    (e : x ≡ cond (get_or flags (get_or w i 0) false) (get_or (get_or rows (get_or w i 0) []) 4 0)
    (get_or (get_or rows (get_or w i 0) []) 3 0)) where
  abbrev at : ℕ
  at = get_or w i 0

  paid : cond (get_or flags at false) (arc_at (plan_over rows).arcs at).service (arc_at (plan_over rows).arcs at).cost ≡ x
  paid = ap (λ (a : Arc). cond (get_or flags at false) a.service a.cost) (place_arc rows w known i l) ∙ sym e

  pub tally_room : cost + x ≤ drive_cost (plan_over rows) w
  tally_room = subst (λ x. cost + x ≤ drive_cost (plan_over rows) w) paid (tallied_room (plan_over rows) w flags cost i l h)

  pub tally_more : at < 256 → IsTallied (plan_over rows) w (set flags at false) (cost + x) (i + 1)
  tally_more m =
      subst (λ x. IsTallied (plan_over rows) w (set flags at false) (cost + x) (i + 1)) paid
      (tallied_next (plan_over rows) w flags cost i l h m)
