-- Each test of the code is a condition of the definition. Rows that hold the arcs of a plan are judged as the plan
-- is, and the contract follows from the answer.
use Rattle.std.specs.Prelude.{◌≡◌, Bool, List, [], ◌∷◌, ℕ, ◌^◌, ◌≤◌, ◌<◌, length, eqb, Result}
use Rattle.std.proofs.Math.Path.{refl, sym, ap}
use Rattle.std.proofs.Common.{◌∙◌, subst, arith, lt-ltb, le-ltb}
use Rattle.std.proofs.Math.Bool.{true, false, cond}
use Rattle.std.proofs.Math.Option.{Option, none, some}
use Rattle.std.proofs.Math.Decide.{dec_le}
use Rattle.std.proofs.Math.ListN.{get_or-eq_default}
use Rattle.postman.specs.Plan.{Arc, Plan, arc_at, required_arcs, required_numbers, WellFormed}
use Rattle.postman.specs.Refusal.{first_refusal, refused, given, answer}
use Rattle.postman.specs.PlanFile.{edition, is_edition, file_conditions, plan_of}
use Rattle.postman.specs.Drive.{drive_cost}
use Rattle.postman.specs.Judge.{is_foreign, has_foreign, is_unjoined, is_missed, fault_conditions, highest_places, lent_conditions, judge_refusal, judge_answer}
use Rattle.postman.specs.Laws.Membership.{get_d_mem}
use Rattle.postman_laws.specs.Laws.Refusal.{first_on, first_stop, answer_refused}
use Rattle.postman_laws.specs.Laws.Judge.{lent_short, lent_long, judge_conditions, judged_cost, drive_judged, drive_cost_small}
use Rattle.plan.specs.Rows.{plan_in}
use Rattle.drive_tally.specs.Rows.{plan_over}
use Rattle.refusal.specs.declared.Refusal.{Refusal}
use Rattle.judge.specs.Contract.{judged_answer, list_answer, plan_answer, IsJudged}

-- ---- 14, 15 and 16, and the cost

module _ (p : Plan) (w : List ℕ) where
  pub foreign_answer : has_foreign p w ≡ true → refused 14 ≡ list_answer p w
  unfolding list_answer fault_conditions first_refusal answer
  foreign_answer f = rw f refl

  pub unjoined_answer : has_foreign p w ≡ false → is_unjoined p w ≡ true → refused 15 ≡ list_answer p w
  unfolding list_answer fault_conditions first_refusal answer
  unjoined_answer f u = rw (f, u) refl

  pub missed_answer : has_foreign p w ≡ false → is_unjoined p w ≡ false → is_missed p w ≡ true → refused 16 ≡ list_answer p w
  unfolding list_answer fault_conditions first_refusal answer
  missed_answer f u m = rw (f, u, m) refl

  pub cost_answer : has_foreign p w ≡ false → is_unjoined p w ≡ false → is_missed p w ≡ false → given (drive_cost p w) ≡ list_answer p w
  unfolding list_answer fault_conditions first_refusal answer
  cost_answer f u m = rw (f, u, m) refl

  -- ---- 10

  pub idle_answer : eqb (length (required_arcs p)) 0 ≡ true → refused 10 ≡ plan_answer p w
  unfolding plan_answer
  idle_answer e = rw e refl

  pub list_answer_lem : eqb (length (required_arcs p)) 0 ≡ false → list_answer p w ≡ plan_answer p w
  unfolding plan_answer
  list_answer_lem e = rw e refl

-- ---- the rows of a plan

-- nothing goes by the number of vertices
by_arcs : (p : Plan) (w : List ℕ) → plan_answer p w ≡ plan_answer (record { n = 0; arcs = p.arcs }) w
unfolding plan_answer list_answer required_arcs required_numbers fault_conditions has_foreign is_foreign is_unjoined is_missed drive_cost
by_arcs p [] = refl
by_arcs p (k ∷ w) = refl

module _ (n : ℕ) (rows : List (List ℕ)) (p : Plan) (e : plan_in n rows ≡ p) where
  arcs_same : (plan_over rows).arcs ≡ p.arcs
  unfolding plan_in
  arcs_same = ap (λ (q : Plan). q.arcs) e

  pub rows_answer : (w : List ℕ) → plan_answer (plan_over rows) w ≡ plan_answer p w
  rows_answer w =
      by_arcs (plan_over rows) w ∙ ap (λ (arcs : List Arc). plan_answer (record { n = 0; arcs = arcs }) w) arcs_same ∙ sym (by_arcs p w)

  costs_fit : WellFormed p → (k : ℕ) → ((arc_at p.arcs k).cost ≤ 65535) × ((arc_at p.arcs k).service ≤ 65535)
  costs_fit ok k = elim (dec_le (length p.arcs) k) [
    | yes h ↦ rw (get_or-eq_default p.arcs (arc_at [] k) {n = k} h) (omega arith, omega arith)
    | no h ↦ let a = ok.each (arc_at p.arcs k) (get_d_mem p.arcs _ k (omega arith)) in (a.cost_in_holds, a.service_in)
  ]

  -- the sum does not leave its 32 bits
  pub rows_cost : WellFormed p → (w : List ℕ) → length w ≤ highest_places → drive_cost (plan_over rows) w < 2 ^ 32
  rows_cost ok w l =
      drive_cost_small (plan_over rows)
      (λ k. subst (λ (arcs : List Arc). ((arc_at arcs k).cost ≤ 65535) × ((arc_at arcs k).service ≤ 65535)) (sym arcs_same)
      (costs_fit ok k)) w l

-- ---- the file

module _ (bytes w : List ℕ) where
  refused_at : (r : ℕ) → first_refusal (lent_conditions bytes (length w)) ≡ some r → refused r ≡ judge_answer bytes w
  unfolding judge_answer
  refused_at r e =
      sym (answer_refused (judge_refusal bytes w) (drive_cost (plan_of bytes) w) r
      (judge_conditions bytes w ∙ first_stop (lent_conditions bytes (length w)) _ r e))

  -- a list that is too long, and a file that is refused
  pub long_answer : (r : ℕ) → some r ≡ first_refusal (lent_conditions bytes (length w)) → refused r ≡ judge_answer bytes w
  long_answer r e = refused_at r (sym e)

  pub file_answer : (r : ℕ) → length w ≤ highest_places → first_refusal (file_conditions bytes) ≡ some r → refused r ≡ judge_answer bytes w
  file_answer r l e = refused_at r (lent_short bytes (length w) l ∙ e)

  -- one that is not
  pub good_answer : length w ≤ highest_places → first_refusal (file_conditions bytes) ≡ none
      → plan_answer (plan_of bytes) w ≡ judge_answer bytes w
  unfolding plan_answer list_answer judge_answer first_refusal answer
  good_answer l e =
      at (eqb (length (required_arcs (plan_of bytes))) 0) (first_refusal (fault_conditions (plan_of bytes) w))
      (drive_cost (plan_of bytes) w)
      ∙ ap (λ (o : Option ℕ). answer o (drive_cost (plan_of bytes) w))
      (sym (judge_conditions bytes w ∙ first_on (lent_conditions bytes (length w)) _ (lent_short bytes (length w) l ∙ e)))
    where
      at : (b : Bool) (o : Option ℕ) (c : ℕ) → cond b (refused 10) (answer o c) ≡ answer (cond b (some 10) o) c
      at true o c = refl
      at false o c = refl

  -- ---- the contract

  pub is_judged : (r : Result ℕ Refusal) → judged_answer r ≡ judge_answer bytes w → IsJudged bytes w r
  is_judged r e = record {
    answer_is = e;
    exactly = λ h. ((λ g. (judged_cost bytes w g.0 (sym e ∙ g.1)).0), (λ t. (drive_cost (plan_of bytes) w, e ∙ drive_judged bytes w h t)));
    costs = λ c g. judged_cost bytes w c (sym e ∙ g);
  }

-- the first bytes of a file whose list is too long
module _ (bytes : List ℕ) (places : ℕ) (l : highest_places < places) where
  pub torn_first : length bytes < 3 → some 1 ≡ first_refusal (lent_conditions bytes places)
  torn_first h = rw (lent_long bytes places l, lt-ltb (length bytes) 3 h) refl

  pub edition_next : 3 ≤ length bytes → is_edition (edition bytes) ≡ false → some 2 ≡ first_refusal (lent_conditions bytes places)
  edition_next h e = rw (lent_long bytes places l, le-ltb (length bytes) 3 h, e) refl

  pub extent_then : 3 ≤ length bytes → is_edition (edition bytes) ≡ true → some 3 ≡ first_refusal (lent_conditions bytes places)
  extent_then h e = rw (lent_long bytes places l, le-ltb (length bytes) 3 h, e) refl
