-- The plan's candidates are the links at the places: links, and candidates among them, are selected from the pairs of required vertices,
-- these from all pairs, and the pairs in order are those of the places in order.
use Rattle.std.specs.Prelude.{◌≡◌, Bool, false, not, ◌&&◌, ℕ, ◌+◌, ◌*◌, ◌/◌, ◌%◌, ◌<◌, get_or, eqb}
use Rattle.std.proofs.Common.{sym, ap₂, ◌∙◌, arith}
use Rattle.std.proofs.Math.Path.{ap}
use mathlib.Core.List.{List, map}
use Rattle.postman.specs.Lists.{select, below}
use Rattle.postman.specs.Plan.{Plan, WellFormed}
use Rattle.postman.specs.Required.{is_required}
use Rattle.postman.specs.Link.{Link, pairs, is_held, links}
use Rattle.postman.specs.Component.{component}
use Rattle.postman.specs.Arborescence.{candidates}
use Rattle.postman.specs.Laws.Tests.{same_test, and_both, and_parts}
use Rattle.postman.specs.Laws.Membership.{below_mem}
use Rattle.postman_laws.specs.Laws.Link.{link, held_mem, links_select, link_ends}
use Rattle.required.specs.StepContracts.{IsLinks, IsComponents}
use Rattle.postman_laws.specs.Laws.Selection.{select_select}
use Rattle.postman_laws.specs.Laws.Lists.{select_map}
use Rattle.candidates.specs.Places.{is_candidate, places_of}
use Rattle.postman_laws.specs.Laws.Pairs.{pairs_are, both_pass, pairs_select}
use Rattle.postman.specs.Steps.{pair_at}
use Rattle.required.specs.Laws.RequiredVertex.{of_required}
use Rattle.network.specs.Laws.Vertices.{required_of_64}

module _ (p : Plan) (ok : WellFormed p) where
  abbrev crosses : ℕ → Link → Bool
  crosses q l = eqb (component p l.head) q && not (eqb (component p l.tail) q)

  abbrev is_link : Link → Bool
  is_link l = is_held (links p) l.tail l.head

  abbrev is_pair : Link → Bool
  is_pair l = both_pass (is_required p) l && is_link l

  from_pairs : (q : ℕ) → candidates p q ≡ select (λ l. is_pair l && crosses q l) (pairs (below 64))
  unfolding candidates
  from_pairs q =
      ap (select (crosses q)) (links_select p)
      ∙ ap (λ (vs : List ℕ). select (crosses q) (select is_link (pairs vs))) (sym (required_of_64 p ok))
      ∙ ap (λ (ls : List Link). select (crosses q) (select is_link ls)) (pairs_select (is_required p) (below 64))
      ∙ ap (select (crosses q)) (select_select is_link (both_pass (is_required p)) (pairs (below 64)))
      ∙ select_select (crosses q) is_pair (pairs (below 64))

  -- the ends of a link are required
  is_pair_lem : (i j : ℕ) → is_pair (link i j) ≡ is_held (links p) i j
  is_pair_lem i j =
      same_test (is_pair (link i j)) (is_held (links p) i j) (λ t.
      (and_parts (is_required p i && is_required p j) (is_held (links p) i j) t).1)
      (λ t.
      let e = link_ends p (held_mem (links p) i j t) in
      and_both (is_required p i && is_required p j) (is_held (links p) i j)
      (and_both (is_required p i) (is_required p j) (of_required p ok e.0) (of_required p ok e.1)) t)

  module _ (flags : List Bool) (of : List ℕ) (count : ℕ) (are : IsLinks p flags) (known : IsComponents p of count) where
    at_place : (q x : ℕ) → x < 4096 → (is_pair (pair_at x) && crosses q (pair_at x)) ≡ is_candidate flags of q x
    at_place q x l =
        let i : x / 64 < 64 = omega arith in
        let j : x % 64 < 64 = omega arith in
        let e : x / 64 * 64 + x % 64 ≡ x = omega arith in
        ap₂ ◌&&◌ (is_pair_lem (x / 64) (x % 64) ∙ sym (are (x / 64) (x % 64) i j) ∙ ap (λ y. get_or flags y false) e)
        (ap₂ (λ h t. eqb h q && not (eqb t q)) (sym (known.each (x % 64) j)) (sym (known.each (x / 64) i)))

    pub candidates_are : (q : ℕ) → candidates p q ≡ map pair_at (places_of flags of q)
    unfolding places_of
    candidates_are q =
        from_pairs q
        ∙ ap (select (λ l. is_pair l && crosses q l)) pairs_are
        ∙ select_map (λ l. is_pair l && crosses q l) (is_candidate flags of q) pair_at (below 4096) (λ x m. at_place q x (below_mem m))
