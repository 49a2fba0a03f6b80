-- What the call answers, by its refusal: one of the file, or one of the pairs of a plan that was read, or none.
use Rattle.std.specs.Prelude.{◌≡◌, List, ◌++◌, map, ℕ, length, drop, Result, Ok, Err}
use Rattle.std.proofs.Math.Path.{refl, ap, subst⁻¹}
use Rattle.std.proofs.Common.{sym, ◌∙◌, subst}
use Rattle.std.proofs.Math.Option.{Option, none, some}
use Rattle.postman.specs.Plan.{Plan}
use Rattle.postman.specs.Refusal.{first_refusal, given, answer, unless}
use Rattle.postman.specs.PlanFile.{file_conditions, plan_of}
use Rattle.postman.specs.DistanceCall.{pairs_conditions, distance_refusal, entry, search_count, distance_answer, distances_after}
use Rattle.postman_laws.specs.Laws.DistanceCall.{file_refused, file_read}
use Rattle.plan.specs.declared.Plan.{Plan as PlanRecord}
use Rattle.plan.specs.Records.{plan_value}
use Rattle.plan.specs.Laws.Records.{plan_vertices}
use Rattle.refusal.specs.declared.Refusal.{Refusal}
use Rattle.refusal.specs.Verdict.{refusal_number}
use Rattle.plan_file.specs.declared.Reading.{Reading}
use Rattle.plan_file.specs.Reading.{IsReading, plan_in}
use Rattle.plan_file.specs.Laws.Reading.{accepted_value}
use Rattle.distances.specs.Answer.{searched_answer, IsPage}

-- The refusal of the pairs, by the plan by value.
pub pairs_refusal : (q : PlanRecord) (pairs : List ℕ) (room : ℕ) {o : Option ℕ} → o ≡ first_refusal (pairs_conditions q.n pairs room)
    → first_refusal (pairs_conditions (plan_value q).n pairs room) ≡ o
pairs_refusal q pairs room e = ap (λ n. first_refusal (pairs_conditions n pairs room)) (plan_vertices q) ∙ sym e

module _ (p : Plan) (pairs old : List ℕ) where
  pub refused_page : (o : Option ℕ) (r : Refusal) → o ≡ some (refusal_number r) → IsPage p o pairs old old (Err r)
  unfolding answer unless
  refused_page o r e = subst⁻¹ (λ o. IsPage p o pairs old old (Err r)) e record { answer_is = refl; distances_are = refl }

  pub given_page : (o : Option ℕ) (new : List ℕ) (k : ℕ) → o ≡ none → k ≡ search_count pairs
      → new ≡ map (entry p) pairs ++ drop (length pairs) old
      → IsPage p o pairs old new (Ok k)
  unfolding answer unless
  given_page o new k e f g = subst⁻¹ (λ o. IsPage p o pairs old new (Ok k)) e record { answer_is = ap given f; distances_are = g }

module _ (bytes pairs old new : List ℕ) (r : Result ℕ Refusal) where
  -- What the distance call promises.
  abbrev IsCall : Type 0
  IsCall = (searched_answer r ≡ distance_answer bytes pairs (length old)) × (new ≡ distances_after bytes pairs old)

  page_call : IsPage (plan_of bytes) (distance_refusal bytes pairs (length old)) pairs old new r → IsCall
  unfolding distance_answer distances_after
  page_call h = (h.answer_is, h.distances_are)

  -- the rest of the conditions, for a plan that was read
  pub read_call : (q : Result Reading Refusal) → IsReading bytes q → first_refusal (file_conditions bytes) ≡ none
      → IsPage (plan_value (plan_in q)) (first_refusal (pairs_conditions (plan_value (plan_in q)).n pairs (length old))) pairs old new r
      → IsCall
  read_call q i e h =
      let v = accepted_value bytes q i e in
      let g = subst (λ (p : Plan). IsPage p (first_refusal (pairs_conditions p.n pairs (length old))) pairs old new r) v h in
      page_call (subst⁻¹ (λ o. IsPage (plan_of bytes) o pairs old new r) (file_read bytes pairs (length old) e) g)

-- the file's refusal
pub refused_call : (bytes pairs old : List ℕ) (r : Refusal) → first_refusal (file_conditions bytes) ≡ some (refusal_number r)
    → (searched_answer (Err r) ≡ distance_answer bytes pairs (length old)) × (old ≡ distances_after bytes pairs old)
refused_call bytes pairs old r e =
    page_call bytes pairs old old (Err r)
    (refused_page (plan_of bytes) pairs old _ r (file_refused bytes pairs (length old) (refusal_number r) e))
