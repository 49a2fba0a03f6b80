-- The least assignment of heads to tails is at most the cost of any legs that turn the one list into the other. One leg more is one step: a
-- unit moved on its way costs no less, by the triangle inequality; and equal lists cost nothing.
use Rattle.std.specs.Prelude.{◌≡◌}
use Rattle.std.proofs.Math.Path.{refl, subst⁻¹}
use Rattle.std.proofs.Common.{ap, ◌∙◌, inl, inr}
use mathlib.Core.List.{List, [], ◌∷◌, map}
use Prim.Native.Nat.{ℕ, suc, ◌+◌, ◌≤◌, ◌<◌}
use Rattle.std.proofs.Math.Nat.{le_refl}
use native.Mathlib.Omega.{arith}
use Rattle.std.proofs.Math.ListN.{length}
use Rattle.std.proofs.lemmas.List.{length-map}
use Rattle.postman.specs.Lists.{picks, delta, occurrences}
use Rattle.postman.specs.Balancing.{assignment}
use Rattle.postman.specs.Laws.Membership.{mem_map, map_mem}
use Rattle.postman_laws.specs.Laws.Minimum.{minimum_le, minimum_at}
use Rattle.postman.specs.Steps.{Pick, here, there}
use Rattle.postman_laws.specs.Laws.Pick.{pick_length, pick_swap, pick_of_mem, pick_cons, picks_of, of_picks, length_picks}
use Rattle.postman_laws.specs.Laws.Occurrences.{delta_yes, mem_of_occurrences, occurrences_pick}

module _ (d : ℕ → ℕ → ℕ) where
  assign_le : {t : ℕ} {ts rs : List ℕ} (s : ℕ) (ss : List ℕ) → Pick t ts rs → assignment d (s ∷ ss) ts ≤ d s t + assignment d ss rs
  unfolding assignment
  assign_le s ss p = minimum_le (mem_map (λ r. d s r.0 + assignment d ss r.1) (picks_of p))

  -- the assignment's first choice
  pub assign_at : (s : ℕ) (ss ts : List ℕ) → 0 < length ts
      → (t : ℕ) × (rs : List ℕ) × Pick t ts rs × (assignment d (s ∷ ss) ts ≡ d s t + assignment d ss rs)
  unfolding assignment
  assign_at s ss ts h =
      let f : ℕ × List ℕ → ℕ = λ r. d s r.0 + assignment d ss r.1 in
      let l : 0 < length (map f (picks ts)) = subst⁻¹ (λ n. 0 < n) (length-map (picks ts) f ∙ length_picks ts) h in
      let r = map_mem f (picks ts) (minimum_at (map f (picks ts)) l) in
      (r.0.0, r.0.1, of_picks ts r.1, r.2)

module _ (d : ℕ → ℕ → ℕ) (triangle : (i k j : ℕ) → d i j ≤ d i k + d k j) where
  abbrev cost : List ℕ → List ℕ → ℕ
  cost ss ts = assignment d ss ts

  -- another place for one of the sinks
  move : (ss ts : List ℕ) (s y : ℕ) → length ss ≡ suc (length ts) → cost ss (y ∷ ts) ≤ d s y + cost ss (s ∷ ts)
  move [] ts s y l = absurd (omega arith)
  move (x ∷ ss) ts s y l =
      let r = assign_at d x ss (s ∷ ts) (omega arith) in
      let e = r.3 in
      elim (pick_cons r.2) [
        | inl h ↦
            let g = assign_le d x ss (here {y = y} {xs = ts} refl) in
            let e₁ = ap (d x) h.0 in
            let e₂ = ap (cost ss) h.1 in
            let t = triangle x s y in
            omega arith
        | inr h ↦
            let n = pick_length h.1 in
            let g = assign_le d x ss (there {y = y} h.1) in
            let ih = move ss h.0 s y (omega arith) in
            let e₂ = ap (cost ss) h.2 in
            omega arith
      ]

  -- the order of the sinks is free
  reorder : (ss : List ℕ) {ts rs : List ℕ} {y : ℕ} → length ss ≡ length ts → Pick y ts rs → cost ss ts ≤ cost ss (y ∷ rs)
  reorder [] l p = let n = pick_length p in absurd (omega arith)
  reorder (x ∷ ss) {ts} {rs} {y} l p =
      let r = assign_at d x ss (y ∷ rs) (omega arith) in
      let e = r.3 in
      let n = pick_length p in
      elim (pick_cons r.2) [
        | inl h ↦
            let g = assign_le d x ss p in
            let e₁ = ap (d x) h.0 in
            let e₂ = ap (cost ss) h.1 in
            omega arith
        | inr h ↦
            let q = pick_swap p h.1 in
            let g = assign_le d x ss q.1 in
            let m = pick_length q.1 in
            let ih = reorder ss (omega arith) q.2 in
            let e₂ = ap (cost ss) h.2 in
            omega arith
      ]

  -- THE STEP: one unit moved from s to j on the way costs no less
  pub step : (ss ts : List ℕ) (s j : ℕ) → length ss ≡ length ts → cost ss ts ≤ d s j + cost (j ∷ ss) (s ∷ ts)
  step ss ts s j l =
      let r = assign_at d j ss (s ∷ ts) (omega arith) in
      let e = r.3 in
      elim (pick_cons r.2) [
        | inl h ↦ let e₂ = ap (cost ss) h.1 in omega arith
        | inr h ↦
            let n = pick_length h.1 in
            let g = reorder ss l h.1 in
            let m = move ss h.0 s r.0 (omega arith) in
            let t = triangle s j r.0 in
            let e₂ = ap (cost ss) h.2 in
            omega arith
      ]

-- legs: pairs of vertices, each a unit sent from the first to the second; w's sum over them
abbrev pub Legs : Type 0
Legs = List (ℕ × ℕ)

unfoldable pub weight : (ℕ → ℕ → ℕ) → Legs → ℕ
weight w [] = 0
weight w (l ∷ ls) = w l.0 l.1 + weight w ls

module _ (d : ℕ → ℕ → ℕ) (triangle : (i k j : ℕ) → d i j ≤ d i k + d k j) (self : (i : ℕ) → d i i ≡ 0) where
  -- the same vertices on both sides cost nothing
  balanced : (ss ts : List ℕ) → ((i : ℕ) → occurrences i ss ≡ occurrences i ts) → assignment d ss ts ≤ 0
  unfolding occurrences assignment
  balanced [] ts c = le_refl 0
  balanced (x ∷ ss) ts c =
      let h = c x in
      let s = delta_yes {i = x} refl in
      let p = pick_of_mem (mem_of_occurrences x ts (omega arith)) in
      let ih = balanced ss p.0 (λ i. let a = c i in let b = occurrences_pick i p.1 in omega arith) in
      let g = assign_le d x ss p.1 in
      let z = self x in
      omega arith

  -- whatever legs turn the one list into the other, they cost at least the assignment
  pub legs_le : (ls : Legs) (ss ts : List ℕ) → length ss ≡ length ts
      → ((i : ℕ) → weight (λ a b. delta i b) ls + occurrences i ss ≡ weight (λ a b. delta i a) ls + occurrences i ts)
      → assignment d ss ts ≤ weight d ls
  unfolding weight occurrences
  legs_le [] ss ts l c = balanced ss ts (λ i. let h = c i in omega arith)
  legs_le (x ∷ ls) ss ts l c =
      let ih = legs_le ls (x.1 ∷ ss) (x.0 ∷ ts) (omega arith) (λ i. let h = c i in omega arith) in
      let g = step d triangle ss ts x.0 x.1 l in
      omega arith

module _ (d : ℕ → ℕ → ℕ) where
  -- the legs of a cheapest assignment
  pub record Pairing (ss ts : List ℕ) : Type 0 where
    pub legs : Legs
    pub costs : weight d legs ≡ assignment d ss ts
    pub from : (i : ℕ) → weight (λ a b. delta i a) legs ≡ occurrences i ss
    pub to : (i : ℕ) → weight (λ a b. delta i b) legs ≡ occurrences i ts

  pub pairing : (ss ts : List ℕ) → length ss ≡ length ts → Pairing ss ts
  unfolding weight assignment occurrences
  pairing [] [] l = record { legs = []; costs = refl; from = λ i. refl; to = λ i. refl }
  pairing [] (t ∷ ts) l = absurd (omega arith)
  pairing (s ∷ ss) ts l =
      let r = assign_at d s ss ts (omega arith) in
      let n = pick_length r.2 in
      let p = pairing ss r.1 (omega arith) in
      let e = r.3 in
      let c = p.costs in
      record {
        legs = (s, r.0) ∷ p.legs;
        costs = omega arith;
        from = λ i. (let f = p.from i in omega arith);
        to = λ i. (let f = p.to i in let g = occurrences_pick i r.2 in omega arith);
      }
