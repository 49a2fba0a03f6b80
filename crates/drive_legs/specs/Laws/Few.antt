-- There are few legs: where amounts go from surplus to deficit only, a vertex sends no more than its surplus, and all surpluses together
-- are no more than the required arcs and links.
use Rattle.std.specs.Prelude.{◌≡◌, refl, ℕ, ◌+◌, ◌≤◌}
use Rattle.std.proofs.Math.Path.{sym}
use Rattle.std.proofs.Common.{ap, ap₂, ◌∙◌}
use mathlib.Core.List.{List, [], ◌∷◌, map, Memᴰ}
use Rattle.std.proofs.Math.Nat.{mul-one}
use Rattle.std.proofs.Math.Decide.{dec_le}
use native.Mathlib.Omega.{arith}
use Rattle.std.proofs.Math.ListN.{length, length-map, length-append}
use Rattle.integers.specs.Linear.{minus_eq}
use Rattle.postman.specs.Lists.{below, delta, occurrences}
use Rattle.postman.specs.Plan.{Plan, is_required_arc, arc_at, required_arcs, required_numbers, WellFormed}
use Rattle.postman.specs.Required.{required}
use Rattle.postman.specs.Link.{Link}
use Rattle.postman.specs.Balancing.{heads, tails, imbalance, sum_over, IsBalancing}
use Rattle.postman.specs.Laws.Membership.{length_below}
use Rattle.postman_laws.specs.Laws.Occurrences.{delta_sym}
use Rattle.postman_laws.specs.Laws.Sum.{sum_cong, sum_le, sum_zero, sum_some, sum_add}
use Rattle.postman_laws.specs.Laws.Required.{required_once, numbers_arcs, required_below}
use Rattle.postman_laws.specs.Laws.Assignment.{weight}
use Rattle.postman_laws.specs.Laws.LinkLegs.{ends}
use Rattle.postman.specs.Steps.{amount}
use Rattle.postman_laws.specs.Laws.Selection.{select_length}
use Rattle.drive_legs.specs.Legs.{units, Completes}
use Rattle.drive_legs.specs.Laws.Units.{units_weight}

weight_length : (ls : List Link) → weight (λ i j. 1) (ends ls) ≡ length ls
unfolding weight ends
weight_length [] = refl
weight_length (l ∷ ls) = let h = weight_length ls in omega arith

sum_deltas : (vs : List ℕ) (x : ℕ) → sum_over vs (λ i. delta i x) ≡ occurrences x vs
unfolding sum_over occurrences
sum_deltas [] x = refl
sum_deltas (v ∷ vs) x = ap₂ ◌+◌ (delta_sym v x) (sum_deltas vs x)

-- a list has at most its length of the vertices vs
sum_occurrences_le : (vs xs : List ℕ) → ((i : ℕ) → occurrences i vs ≤ 1) → sum_over vs (λ i. occurrences i xs) ≤ length xs
unfolding occurrences
sum_occurrences_le vs [] o = let e = sum_zero vs in omega arith
sum_occurrences_le vs (x ∷ xs) o =
    let r = sum_occurrences_le vs xs o in
    let a = sum_add vs (λ i. delta i x) (λ i. occurrences i xs) in
    let b = sum_deltas vs x in
    let c = o x in
    omega arith

pub few_numbers : (p : Plan) → length (required_numbers p) ≤ length p.arcs
unfolding required_numbers
few_numbers p =
    let m = length p.arcs in
    let h = select_length (λ k. is_required_arc (arc_at p.arcs k)) (below m) in
    let e = length_below m in
    omega arith

module _ (p : Plan) (ok : WellFormed p) (t : List Link) (amounts : List ℕ) (h : Completes p t amounts) where
  sent_le : (i : ℕ) → Memᴰ i (required p) → sum_over (required p) (λ j. amount amounts i j) ≤ occurrences i (heads p t)
  unfolding IsBalancing imbalance
  sent_le i m =
      let vs = required p in
      let f = amount amounts in
      let d = minus_eq (sum_over vs (λ j. f i j)) (sum_over vs (λ j. f j i)) (occurrences i (heads p t)) (occurrences i (tails p t))
      (h.balances i m) in
      elim (dec_le 1 (sum_over vs (λ j. f i j))) [
        | yes x ↦ elim (dec_le 1 (sum_over vs (λ j. f j i))) [
          | yes y ↦ (
              let a = sum_some vs (λ j. f i j) x in
              let b = sum_some vs (λ j. f j i) y in
              absurd (h.direct b.0 i a.0 (required_below p ok b.1) (required_below p ok m) (required_below p ok a.1) b.2
              a.2))
          | no y ↦ omega arith
        ]
        | no x ↦ omega arith
      ]

  pub few_units : length (units amounts) ≤ length (required_arcs p) + length t
  unfolding heads
  few_units =
      let vs = required p in
      let a = sym (weight_length (units amounts)) ∙ units_weight p ok.vertices amounts h.between (λ i j. 1)
      ∙ sum_cong vs _ (λ i. sum_over vs (λ j. amount amounts i j))
      (λ i. sum_cong vs _ (λ j. amount amounts i j) (λ j. mul-one (amount amounts i j))) in
      let b = sum_le vs (λ i. sum_over vs (λ j. amount amounts i j)) (λ i. occurrences i (heads p t)) sent_le in
      let c = sum_occurrences_le vs (heads p t) (required_once p) in
      let d : length (heads p t) ≡ length (map (λ a. a.head) (required_arcs p)) + length (map (λ l. l.head) t) =
      length-append (map (λ a. a.head) (required_arcs p)) (map (λ l. l.head) t) in
      let e = length-map (required_arcs p) (λ a. a.head) in
      let f = length-map t (λ l. l.head) in
      omega arith

  numbers_length : length (required_numbers p) ≡ length (required_arcs p)
  numbers_length = sym (length-map (required_numbers p) (λ k. arc_at p.arcs k)) ∙ ap length (numbers_arcs p)

  pub few_links : length t ≤ 7
  few_links = let a = h.arborescence.size in let b = h.few in omega arith

  pub few_others : length t + length (units amounts) ≤ 270
  few_others =
      let a = few_links in
      let b = few_units in
      let c = few_numbers p in
      let d = numbers_length in
      let e = ok.arc_count_holds in
      omega arith
