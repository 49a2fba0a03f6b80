-- Packed arcs are equal exactly when the arcs are: the fields are digits of the number. So two
-- arcs agree exactly when two numbers are equal.
use Rattle.std.specs.Prelude.{◌≡◌, true, false, List, map, ℕ, ◌<◌, get_or, T}
use Rattle.std.proofs.Common.{sym, ap, ◌∙◌, arith}
use Rattle.postman.specs.Lists.{below}
use Rattle.postman.specs.Plan.{Arc, arc_at}
use Rattle.postman.specs.PlanFile.{IsRecord, has_repeated}
use Rattle.postman.specs.Laws.Tests.{same_test}
use Rattle.postman_laws.specs.Laws.Below.{length_map_below, get_d_map_below}
use Rattle.postman.proofs.Repeated.{repeated_pair, pair_repeated}
use Rattle.repeated_arcs.specs.Packed.{packed_arc}

pub packed_equal : (a b : Arc) → IsRecord a → IsRecord b → packed_arc a ≡ packed_arc b → a ≡ b
packed_equal a b ra rb e =
    let h = ra.head in let s = ra.standing in let c = ra.cost in let v = ra.service in
    let h' = rb.head in let s' = rb.standing in let c' = rb.cost in let v' = rb.service in
    let e₁ : a.tail ≡ b.tail = omega arith in
    let e₂ : a.head ≡ b.head = omega arith in
    let e₃ : a.standing ≡ b.standing = omega arith in
    let e₄ : a.cost ≡ b.cost = omega arith in
    let e₅ : a.service ≡ b.service = omega arith in
    λ i. record { tail = e₁ i; head = e₂ i; standing = e₃ i; cost = e₄ i; service = e₅ i }

-- Numbers of which the first m are those of arcs.
module _ (arc : ℕ → Arc) (m : ℕ) (numbers : List ℕ) (fields : (k : ℕ) → k < m → IsRecord (arc k))
    (packed : (k : ℕ) → k < m → get_or numbers k 0 ≡ packed_arc (arc k)) where
  abbrev arcs : List Arc
  arcs = map arc (below m)

  at : (k : ℕ) → k < m → arc_at arcs k ≡ arc k
  at k l = get_d_map_below arc m k _ l

  equal_repeated : (j k : ℕ) → j < k → k < m → get_or numbers j 0 ≡ get_or numbers k 0 → T (has_repeated arcs)
  equal_repeated j k l h e =
      let g : j < m = omega arith in
      let n = length_map_below arc m in
      let q = packed_equal (arc j) (arc k) (fields j g) (fields k h) (sym (packed j g) ∙ e ∙ packed k h) in
      pair_repeated arcs j k l (omega arith) (at j g ∙ q ∙ sym (at k h))

  repeated_equal : T (has_repeated arcs) → (j : ℕ) × (k : ℕ) × (j < k) × (k < m) × (get_or numbers j 0 ≡ get_or numbers k 0)
  repeated_equal t =
      let r = repeated_pair arcs t in
      let n = length_map_below arc m in
      let j = r.0 in let k = r.1 in let l = r.2 in let h = r.3 in
      let g : j < m = omega arith in
      let i : k < m = omega arith in
      (j, k, l, i, packed j g ∙ ap packed_arc (sym (at j g) ∙ r.4 ∙ at k i) ∙ sym (packed k i))

  -- the search: two equal numbers were found, or no number stands before an equal one
  pub found : (j k : ℕ) → j < k → k < m → get_or numbers j 0 ≡ get_or numbers k 0 → true ≡ has_repeated arcs
  found j k l h e = same_test true (has_repeated arcs) (λ t. equal_repeated j k l h e) (λ t. tt)

  pub not_found : ((k : ℕ) → k < m → (j : ℕ) → j < k → get_or numbers j 0 ≡ get_or numbers k 0 → ⊥) → false ≡ has_repeated arcs
  not_found h = same_test false (has_repeated arcs) (λ t. absurd t) (λ t. (let r = repeated_equal t in h r.1 r.3 r.0 r.2 r.4))
