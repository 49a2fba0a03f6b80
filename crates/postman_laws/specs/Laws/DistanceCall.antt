-- The distance call: its refusals in their order, what a call that is not refused makes sure of, and that each entry is what a single query
-- gives. A single query is a page of one pair: it is not refused where the page is not, and both hold d.
use Rattle.std.specs.Prelude.{◌≡◌, not, ◌||◌, ℕ, zero, suc, ◌≤◌, ◌<◌, length, get_or, drop, leb, ltb}
use Rattle.std.proofs.Common.{sym, ◌∙◌, subst, arith, leb→le}
use Rattle.std.proofs.Math.Logic.{inl, inr}
use mathlib.Core.List.{List, [], ◌∷◌, map}
use Rattle.std.proofs.Math.Option.{none, some}
use Rattle.std.proofs.lemmas.List.{length-map}
use Rattle.std.proofs.Math.ListN.{get_or-append}
use Rattle.std.proofs.Math.Arith.{le→nltb}
use Rattle.std.proofs.Math.Dec.{T, T_not, not_T, nleb→lt, nltb→le, ltb→lt}
use Rattle.postman.specs.Lists.{any_of}
use Rattle.postman.specs.Plan.{WellFormed}
use Rattle.postman.specs.Refusal.{first_refusal, unless}
use Rattle.postman.specs.PlanFile.{file_conditions, plan_of}
use Rattle.postman.specs.Distance.{distance}
use Rattle.postman.specs.DistanceCall.{first, second, is_stray, has_stray, pairs_conditions, distance_refusal, entry, distances_after}
use Rattle.postman.specs.Laws.Tests.{or_cases, not_or}
use Rattle.postman.specs.Laws.Membership.{get_d_mem, mem_get_d, get_d_map_in, any_of_at, any_of_not}
use Rattle.postman_laws.specs.Laws.Refusal.{first_on, first_stop, accepted_append, append_accepted, accepted_cons, cons_accepted, nothing_refused}
use Rattle.postman_laws.specs.Laws.Acceptance.{file_accepted}
use Rattle.postman.specs.Steps.{ArePairs}

-- ---- the refusals in their order

module _ (bytes pairs : List ℕ) (room : ℕ) where
  pub file_refused : (r : ℕ) → first_refusal (file_conditions bytes) ≡ some r → distance_refusal bytes pairs room ≡ some r
  unfolding distance_refusal
  file_refused r e = first_stop (file_conditions bytes) _ r e

  pub file_read : first_refusal (file_conditions bytes) ≡ none
      → distance_refusal bytes pairs room ≡ first_refusal (pairs_conditions (plan_of bytes).n pairs room)
  unfolding distance_refusal
  file_read e = first_on (file_conditions bytes) _ e

-- ---- 17

pub inside_pair : (n x : ℕ) → T (not (is_stray n x)) → (first x < n) × (second x < n)
unfolding is_stray
inside_pair n x t = let h = not_or (leb n (first x)) (leb n (second x)) t in (nleb→lt n (first x) h.0, nleb→lt n (second x) h.1)

pub pair_inside : (n x : ℕ) → (first x < n) × (second x < n) → T (not (is_stray n x))
unfolding is_stray
pair_inside n x h = not_T (leb n (first x) || leb n (second x)) (λ t. elim (or_cases (leb n (first x)) (leb n (second x)) t) [
  | inl u ↦ (let l = leb→le n (first x) u in let g = h.0 in omega arith)
  | inr u ↦ (let l = leb→le n (second x) u in let g = h.1 in omega arith)
])

module _ (n : ℕ) (pairs : List ℕ) where
  pub are_pairs : T (not (has_stray n pairs)) → ArePairs n pairs
  unfolding has_stray
  are_pairs t =
      let h = not_or (ltb 256 (length pairs)) (any_of (is_stray n) pairs) t in
      record {
        few = nltb→le 256 (length pairs) h.0;
        inside = λ k l. inside_pair n (get_or pairs k 0) (any_of_not (is_stray n) (get_d_mem pairs 0 k l) h.1);
      }

  pub pairs_are : ArePairs n pairs → T (not (has_stray n pairs))
  unfolding has_stray
  pairs_are h =
      not_T (ltb 256 (length pairs) || any_of (is_stray n) pairs)
      (λ t. elim (or_cases (ltb 256 (length pairs)) (any_of (is_stray n) pairs) t) [
        | inl u ↦ (let l = ltb→lt 256 (length pairs) u in let f = h.few in omega arith)
        | inr u ↦ (let r = any_of_at (is_stray n) pairs u in
            let g = mem_get_d 0 r.1 in
            T_not (is_stray n r.0)
            (subst (λ x. T (not (is_stray n x))) g.2 (pair_inside n (get_or pairs g.0 0) (h.inside g.0 g.1))) r.2)
      ])

  -- ---- 17, then 8

  pub pairs_accepted : (room : ℕ) → first_refusal (pairs_conditions n pairs room) ≡ none → ArePairs n pairs × (length pairs ≤ room)
  unfolding pairs_conditions
  pairs_accepted room e =
      let a = accepted_cons (has_stray n pairs) 17 ((ltb room (length pairs), 8) ∷ []) e in
      (are_pairs a.0, nltb→le room (length pairs) (accepted_cons (ltb room (length pairs)) 8 [] a.1).0)

  pub accepted_pairs : (room : ℕ) → ArePairs n pairs → length pairs ≤ room → first_refusal (pairs_conditions n pairs room) ≡ none
  unfolding pairs_conditions
  accepted_pairs room h l = cons_accepted _ _ _ (pairs_are h) (cons_accepted _ _ _ (le→nltb room (length pairs) l) nothing_refused)

-- ---- a call that is not refused

pub record DistanceAccepted (bytes pairs : List ℕ) (room : ℕ) : Type 0 where
  pub file : first_refusal (file_conditions bytes) ≡ none
  pub well_formed : WellFormed (plan_of bytes)
  pub pairs_in : ArePairs (plan_of bytes).n pairs
  pub enough : length pairs ≤ room

pub distance_accepted : (bytes pairs : List ℕ) (room : ℕ) → distance_refusal bytes pairs room ≡ none → DistanceAccepted bytes pairs room
unfolding distance_refusal
distance_accepted bytes pairs room e =
    let a = accepted_append (file_conditions bytes) _ e in
    let b = pairs_accepted (plan_of bytes).n pairs room a.1 in
    record { file = a.0; well_formed = file_accepted bytes a.0; pairs_in = b.0; enough = b.1 }

pub accepted_distance : (bytes pairs : List ℕ) (room : ℕ) → first_refusal (file_conditions bytes) ≡ none → ArePairs (plan_of bytes).n pairs
    → length pairs ≤ room
    → distance_refusal bytes pairs room ≡ none
unfolding distance_refusal
accepted_distance bytes pairs room e h l = append_accepted (file_conditions bytes) _ e (accepted_pairs (plan_of bytes).n pairs room h l)

-- ---- the answer

-- Entry k of a page that is not refused.
pub page_entry : (bytes pairs distances : List ℕ) (k : ℕ) → distance_refusal bytes pairs (length distances) ≡ none → k < length pairs
    → get_or (distances_after bytes pairs distances) k 0 ≡ distance (plan_of bytes) (first (get_or pairs k 0)) (second (get_or pairs k 0))
unfolding distances_after unless entry
page_entry bytes pairs distances k e l =
    let m = length-map pairs (entry (plan_of bytes)) in
    rw e (get_or-append (map (entry (plan_of bytes)) pairs) (drop (length pairs) distances) 0 k (omega arith)
    ∙ get_d_map_in (entry (plan_of bytes)) pairs k 0 l)

-- "Each entry equals what a single query gives": the page of that pair alone is not refused, whatever is lent for
-- its distance, and its one entry is the same.
pub single_query : (bytes pairs distances one : List ℕ) (k : ℕ) → distance_refusal bytes pairs (length distances) ≡ none → k < length pairs
    → 1 ≤ length one
    → (distance_refusal bytes (get_or pairs k 0 ∷ []) (length one) ≡ none)
    × (get_or (distances_after bytes pairs distances) k 0 ≡ get_or (distances_after bytes (get_or pairs k 0 ∷ []) one) 0 0)
single_query bytes pairs distances one k e l h =
    let a = distance_accepted bytes pairs (length distances) e in
    let x = get_or pairs k 0 in
    let alone : ArePairs (plan_of bytes).n (x ∷ []) = record { few = omega arith; inside = at x (a.pairs_in.inside k l) } in
    let f = accepted_distance bytes (x ∷ []) (length one) a.file alone h in
    (f, page_entry bytes pairs distances k e l ∙ sym (page_entry bytes (x ∷ []) one 0 f (omega arith)))
  where
    at : {n : ℕ} (x : ℕ) → (first x < n) × (second x < n) → (k : ℕ) → k < 1
        → (first (get_or (x ∷ []) k 0) < n) × (second (get_or (x ∷ []) k 0) < n)
    at x h zero l = h
    at x h (suc k) l = absurd (omega arith)
