-- The count's refusals: the file's, then 10 to 12 as the network tells them. And a number is counted the same once it is capped.
use Rattle.std.specs.Prelude.{◌≡◌, ◌≢◌, Bool, List, [], ◌∷◌, ◌++◌, ℕ, ◌≤◌, min, length, eqb, ltb}
use Rattle.std.proofs.Math.Path.{refl, sym, ap}
use Rattle.std.proofs.Common.{◌∙◌, arith, nltb→le}
use Rattle.std.proofs.Math.Option.{Option, none, some}
use Rattle.std.proofs.Math.Decide.{dec_le}
use Rattle.postman.specs.Plan.{Plan, WellFormed, required_arcs}
use Rattle.postman.specs.Component.{component_count}
use Rattle.postman.specs.Arborescence.{arborescence_count}
use Rattle.postman.specs.Refusal.{Conditions, first_refusal, refused, given, answer}
use Rattle.postman.specs.PlanFile.{file_conditions, plan_of}
use Rattle.postman.specs.PlanCall.{is_cut_off, earlier_conditions, call_refusal}
use Rattle.postman_laws.specs.Laws.Acceptance.{call_conditions_lem}
use Rattle.postman.specs.TreeCount.{counted, tree_count, count_conditions, count_refusal, count_call}
use Rattle.postman.specs.Laws.Tests.{eqb_other}
use Rattle.postman_laws.specs.Laws.Refusal.{first_on, first_stop, accepted_cons, cons_accepted, accepted_append, append_accepted}
use Rattle.postman_laws.specs.Laws.TreeCount.{counted_above}
use Rattle.call_steps.specs.Refusals.{network_refusal, plan_refusal}
use Rattle.call_steps.specs.Laws.Idle.{idle}

pub counted_capped : (n : ℕ) → counted (min n 4294967296) ≡ counted n
counted_capped n = elim (dec_le n 4294967295) [
  | yes h ↦ (let e : min n 4294967296 ≡ n = omega arith in ap counted e)
  | no h ↦ counted_above (min n 4294967296) (omega arith) ∙ sym (counted_above n (omega arith))
]

-- the components of a network that is not refused
pub few_components : (k : ℕ) (off : Bool) → network_refusal k off ≡ none → (1 ≤ k) × (k ≤ 8)
unfolding network_refusal
few_components k off e =
    let last : Conditions = (off, 12) ∷ [] in
    let ten = accepted_cons (eqb k 0) 10 ((ltb 8 k, 11) ∷ last) e in
    let eleven = accepted_cons (ltb 8 k) 11 last ten.1 in
    let some : k ≢ 0 = eqb_other ten.0 in
    (omega arith, nltb→le 8 k eleven.0)

-- ---- an answer, by the refusal

module _ {A : Type 0} (x : A) (o : Option ℕ) where
  pub answer_refused : (r : ℕ) → o ≡ some r → refused r ≡ answer o x
  unfolding answer
  answer_refused r e = sym (ap (λ (o : Option ℕ). answer o x) e)

  pub answer_given : o ≡ none → given x ≡ answer o x
  unfolding answer
  answer_given e = sym (ap (λ (o : Option ℕ). answer o x) e)

-- the number of trees, from the number that is capped
pub count_given : (p : Plan) (n : ℕ) (o : Option ℕ) → n ≡ min (arborescence_count p) 4294967296 → o ≡ none
    → given (counted n) ≡ answer o (tree_count p)
unfolding tree_count
count_given p n o e h = ap given (ap counted e ∙ counted_capped (arborescence_count p)) ∙ answer_given (tree_count p) o h

-- ---- the conditions

module _ (bytes : List ℕ) where
  abbrev p : Plan
  p = plan_of bytes

  abbrev later : Conditions
  later = (eqb (length (required_arcs p)) 0, 10) ∷ (ltb 8 (component_count p), 11) ∷ (is_cut_off p, 12) ∷ []

  refusal_is : count_refusal bytes ≡ first_refusal (file_conditions bytes ++ later)
  unfolding count_refusal count_conditions
  refusal_is = refl

  pub file_refused : (r : ℕ) → first_refusal (file_conditions bytes) ≡ some r → count_refusal bytes ≡ some r
  file_refused r e = refusal_is ∙ first_stop (file_conditions bytes) later r e

  pub file_good : WellFormed p → first_refusal (file_conditions bytes) ≡ none → count_refusal bytes ≡ plan_refusal p
  unfolding plan_refusal network_refusal first_refusal
  file_good w e = refusal_is ∙ first_on (file_conditions bytes) later e ∙ rw (idle p w)

  pub call_refused : (r : ℕ) → count_refusal bytes ≡ some r → refused r ≡ count_call bytes
  unfolding count_call
  call_refused r e = answer_refused (tree_count p) (count_refusal bytes) r e

  pub call_given : (q : Plan) → q ≡ p → count_refusal bytes ≡ plan_refusal p → answer (plan_refusal q) (tree_count q) ≡ count_call bytes
  unfolding count_call
  call_given q f e = ap (λ (q : Plan). answer (plan_refusal q) (tree_count q)) f ∙ ap (λ (o : Option ℕ). answer o (tree_count p)) (sym e)

  -- what the plan call does not refuse, the count does not
  pub not_refused : (budget places : ℕ) → call_refusal bytes budget places ≡ none → count_refusal bytes ≡ none
  unfolding earlier_conditions
  not_refused budget places e =
      let all = accepted_append (earlier_conditions bytes budget places) _ (rw (call_conditions_lem bytes budget places) at e) in
      let file = accepted_append (file_conditions bytes) _ all.0 in
      let eight = accepted_cons _ _ _ file.1 in
      let nine = accepted_cons _ _ _ eight.1 in
      let ten = accepted_cons _ _ _ nine.1 in
      let eleven = accepted_cons _ _ _ ten.1 in
      refusal_is ∙ append_accepted (file_conditions bytes) later file.0
      (cons_accepted _ _ _ ten.0 (cons_accepted _ _ _ eleven.0 all.1))
