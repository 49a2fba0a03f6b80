-- The arrays of the candidates' places and ends lay the plan's candidates out.
use Rattle.std.specs.Prelude.{◌≡◌, refl, Bool, List, length, get_or}
use Rattle.std.proofs.Common.{sym, ap, ◌∙◌, arith}
use Rattle.std.proofs.Math.Path.{subst⁻¹}
use Prim.Native.Nat.{ℕ, zero, suc, ◌+◌, ◌/◌, ◌%◌, ◌≤◌, ◌<◌}
use Rattle.std.proofs.lemmas.List.{length-map}
use Rattle.std.proofs.Math.ListN.{get_or-map}
use Rattle.postman.specs.Plan.{Plan, WellFormed}
use Rattle.postman.specs.Link.{Link}
use Rattle.postman.specs.Component.{component, component_count}
use Rattle.postman.specs.Arborescence.{link_at, candidates}
use Rattle.postman_laws.specs.Laws.Distance.{bounded}
use Rattle.postman.specs.Steps.{pair_at}
use Rattle.required.specs.StepContracts.{IsLinks, IsComponents}
use Rattle.arborescence.specs.Layout.{laid_out, IsLayout}
use Rattle.arborescence.specs.Candidates.{AreCandidates}
use Rattle.arborescence.specs.Laws.Candidates.{are_sources}
use Rattle.candidates.specs.declared.Candidates.{Candidates}
use Rattle.candidates.specs.Places.{places_of, places_before, HaveEnds}
use Rattle.candidates.specs.LaidOut.{AreLaidOut}
use Rattle.candidates.specs.Laws.Places.{before_fits, before_length, before_at, before_place}
use Rattle.candidates.specs.Laws.Candidates.{candidates_are}

module _ (p : Plan) (ok : WellFormed p) (links : List Bool) (of : List ℕ) (k : ℕ) (are : IsLinks p links) (known : IsComponents p of k)
    (some : 1 ≤ k) (few : k ≤ 8) (r : Candidates)
    (ends : HaveEnds links of k r.start r.source r.tails r.heads) where
  abbrev places : ℕ → List ℕ
  places = places_of links of

  abbrev all : List ℕ
  all = places_before links of k

  abbrev start : ℕ → ℕ
  start q = get_or r.start q 0

  k_is : k ≡ component_count p
  k_is = known.all

  none : (q : ℕ) → q ≤ 1 → start q ≡ 0
  unfolding places_before
  none zero l = ends.starts 0 (omega arith)
  none (suc zero) l = ends.starts 1 (omega arith)
  none (suc (suc q)) l = absurd (omega arith)

  start_next : (q : ℕ) → 1 ≤ q → q < k → start (q + 1) ≡ start q + length (places q)
  start_next q a l =
      let x = ends.starts (q + 1) (omega arith) in
      let y = ends.starts q (omega arith) in
      let z = before_length links of q a in
      omega arith

  count_is : (q : ℕ) → length (candidates p q) ≡ length (places q)
  count_is q = ap length (candidates_are p ok links of k are known q) ∙ length-map (places q) pair_at

  link_is : (q i : ℕ) → link_at (candidates p q) i ≡ pair_at (get_or (places q) i 0)
  link_is q i = ap (λ (l : List Link). link_at l i) (candidates_are p ok links of k are known q) ∙ get_or-map pair_at (places q) i 0

  module _ (q i : ℕ) (a : 1 ≤ q) (l : q < component_count p) (b : i < length (candidates p q)) where
    abbrev place : ℕ
    place = start q + i

    found : (place < length all) × (get_or all place 0 ≡ get_or (places q) i 0)
    found =
        let n = k_is in
        let c = count_is q in
        let s = ends.starts q (omega arith) in
        subst⁻¹ (λ z. (z + i < length all) × (get_or all (z + i) 0 ≡ get_or (places q) i 0)) s
        (before_at links of q a k i (omega arith) (omega arith))

    tail_is : get_or r.tails place 0 ≡ (link_at (candidates p q) i).tail
    tail_is = ends.tail place found.0 ∙ ap (λ z. z / 64) found.1 ∙ ap (λ (l : Link). l.tail) (sym (link_is q i))

    head_is : get_or r.heads place 0 ≡ (link_at (candidates p q) i).head
    head_is = ends.head place found.0 ∙ ap (λ z. z % 64) found.1 ∙ ap (λ (l : Link). l.head) (sym (link_is q i))

    source_is : get_or r.source place 0 ≡ component p (link_at (candidates p q) i).tail
    source_is =
        let f = before_place links of k place found.0 in
        let t : get_or all place 0 / 64 ≡ (link_at (candidates p q) i).tail =
        ap (λ z. z / 64) found.1 ∙ ap (λ (l : Link). l.tail) (sym (link_is q i)) in
        ends.source place found.0 ∙ known.each (get_or all place 0 / 64) (omega arith) ∙ ap (component p) t

  holds : AreCandidates p (laid_out (component_count p) r.start r.source)
  holds = record {
    components = refl;
    count = λ q a l. (let n = k_is in let e = start_next q a (omega arith) in let c = count_is q in omega arith);
    source = λ q i a l b. source_is q i a l b;
  }

  lies : IsLayout (component_count p) r.start r.source
  lies =
      let n = k_is in
      record {
        few = omega arith;
        ascending = λ q l. ascending q (omega arith);
        fits = λ q l. (let e = ends.starts (q + 1) (omega arith) in let f = before_fits links of (q + 1) in omega arith);
        sources = are_sources p (bounded ok).ends (omega arith) (laid_out (component_count p) r.start r.source) holds;
      }
    where
      ascending : (q : ℕ) → q < k → start q ≤ start (q + 1)
      ascending zero l = let e = none 0 (omega arith) in omega arith
      ascending (suc q) l = let e = start_next (suc q) (omega arith) l in omega arith

  pub are_laid_out : AreLaidOut p r
  are_laid_out =
      record {
        layout = lies;
        are_candidates = holds;
        none_first = (none 0 (omega arith), none 1 (omega arith));
        tail = tail_is;
        head = head_is;
      }
