-- What the distance call answers and leaves, by its refusal.
use Rattle.std.specs.Prelude.{◌≡◌, List, ◌++◌, map, ℕ, length}
use Rattle.std.proofs.Math.Path.{refl, ap}
use Rattle.std.proofs.Common.{sym, ◌∙◌}
use Rattle.std.proofs.Math.Option.{Option, none, some}
use Rattle.std.proofs.Math.ListN.{drop}
use Rattle.std.proofs.lemmas.List.{length-map}
use Rattle.std.proofs.Math.Seq.{drop-append_seam}
use Rattle.postman.specs.Lists.{distinct}
use Rattle.postman.specs.Refusal.{refused, given, answer, unless}
use Rattle.postman.specs.PlanFile.{plan_of}
use Rattle.postman.specs.DistanceCall.{first, entry, search_count, distance_refusal, distance_answer, distances_after}

module _ (bytes pairs distances : List ℕ) where
  abbrev refusal : Option ℕ
  refusal = distance_refusal bytes pairs (length distances)

  abbrev page : List ℕ
  page = map (entry (plan_of bytes)) pairs

  pub page_refused : (k : ℕ) → refusal ≡ some k
      → (distance_answer bytes pairs (length distances) ≡ refused k) × (distances_after bytes pairs distances ≡ distances)
  unfolding distance_answer distances_after answer unless
  page_refused k e = (
    ap (λ (o : Option ℕ). answer o (search_count pairs)) e,
    ap (λ (o : Option ℕ). unless o (page ++ drop (length pairs) distances) distances) e,
  )

  pub page_searches : refusal ≡ none → distance_answer bytes pairs (length distances) ≡ given (length (distinct (map first pairs)))
  unfolding distance_answer answer search_count
  page_searches e = ap (λ (o : Option ℕ). answer o (search_count pairs)) e

  pub page_later : drop (length pairs) (distances_after bytes pairs distances) ≡ drop (length pairs) distances
  unfolding distances_after unless
  page_later = at refusal
    where
      at : (o : Option ℕ) → drop (length pairs) (unless o (page ++ drop (length pairs) distances) distances) ≡ drop (length pairs) distances
      at none = ap (λ (n : ℕ). drop n (page ++ drop (length pairs) distances)) (sym (length-map pairs (entry (plan_of bytes))))
          ∙ drop-append_seam page (drop (length pairs) distances)
      at (some k) = refl
