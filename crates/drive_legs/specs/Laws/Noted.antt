-- The required arcs, noted one by one.
use Rattle.std.specs.Prelude.{◌≡◌, refl, Bool, true, false, cond, List, [], ◌∷◌, ◌++◌, map, ℕ, ◌+◌, ◌≤◌, length}
use Rattle.std.proofs.Common.{sym, ap, ◌∙◌, append-nil, zero-add, arith}
use Rattle.std.proofs.Math.Path.{subst⁻¹}
use Rattle.std.proofs.lemmas.List.{map-append, length-map}
use Rattle.postman.specs.Lists.{select, up_from, below}
use Rattle.postman.specs.Plan.{Arc, Plan, is_required_arc, arc_at, required_numbers}
use Rattle.postman.specs.Laws.Membership.{length_below}
use Rattle.postman_laws.specs.Laws.Selection.{select_append, select_length, up_from_append}
use Rattle.drive_legs.specs.Filled.{LegLists, no_legs, AddedArc, Noted, numbers_below}

abbrev kept : Bool → ℕ → List ℕ
kept true k = k ∷ []
kept false k = []

select_one : (f : ℕ → Bool) (k : ℕ) → select f (k ∷ []) ≡ kept (f k) k
unfolding select
select_one f k = at (f k)
  where
    at : (b : Bool) → cond b (k ∷ []) [] ≡ kept b k
    at true = refl
    at false = refl

numbers_more : (p : Plan) (k : ℕ) → numbers_below p (k + 1) ≡ numbers_below p k ++ kept (is_required_arc (arc_at p.arcs k)) k
unfolding numbers_below below
numbers_more p k =
    let f : ℕ → Bool = λ k. is_required_arc (arc_at p.arcs k) in
    ap (select f) (up_from_append 0 k 1 ∙ ap (λ z. up_from 0 k ++ z ∷ []) (zero-add k)) ∙ select_append f (up_from 0 k) (k ∷ [])
    ∙ ap (λ z. select f (up_from 0 k) ++ z) (select_one f k)

pub noted_all : (p : Plan) → numbers_below p (length p.arcs) ≡ required_numbers p
unfolding numbers_below required_numbers
noted_all p = refl

-- an arc that was read: it is counted if it is required
pub noted_more : (p : Plan) (k : ℕ) (a : Arc) (s s' : LegLists) → arc_at p.arcs k ≡ a → is_required_arc a ≡ true
    → Noted p (numbers_below p k) s → AddedArc k a s s' → Noted p (numbers_below p (k + 1)) s'
noted_more p k a s s' e r h d =
    let ns = numbers_below p k in
    let m : numbers_below p (k + 1) ≡ ns ++ k ∷ [] = numbers_more p k ∙ ap (λ b. ns ++ kept b k) (ap is_required_arc e ∙ r) in
    subst⁻¹ (λ z. Noted p z s') m
    record {
      numbers_are = d.numbers_are ∙ ap (λ z. z ++ k ∷ []) h.numbers_are;
      tails_are = field (λ a. a.tail) s.tails s'.tails h.tails_are d.tails_are;
      heads_are = field (λ a. a.head) s.heads s'.heads h.heads_are d.heads_are;
    }
  where
    field : (f : Arc → ℕ) (xs ys : List ℕ) → xs ≡ map (λ k. f (arc_at p.arcs k)) (numbers_below p k) → ys ≡ xs ++ f a ∷ []
        → ys ≡ map (λ k. f (arc_at p.arcs k)) (numbers_below p k ++ k ∷ [])
    field f xs ys u v =
        v ∙ ap (λ z. z ++ f a ∷ []) u ∙ ap (λ (b : Arc). map (λ k. f (arc_at p.arcs k)) (numbers_below p k) ++ f b ∷ []) (sym e)
        ∙ sym (map-append (λ k. f (arc_at p.arcs k)) (numbers_below p k) (k ∷ []))

pub noted_same : (p : Plan) (k : ℕ) (a : Arc) (s : LegLists) → arc_at p.arcs k ≡ a → is_required_arc a ≡ false
    → Noted p (numbers_below p k) s → Noted p (numbers_below p (k + 1)) s
noted_same p k a s e r h =
    let ns = numbers_below p k in
    subst⁻¹ (λ z. Noted p z s) (numbers_more p k ∙ ap (λ b. ns ++ kept b k) (ap is_required_arc e ∙ r) ∙ append-nil ns) h

pub noted_none : (p : Plan) → Noted p (numbers_below p 0) no_legs
unfolding numbers_below below select
noted_none p = record { numbers_are = refl; tails_are = refl; heads_are = refl }

-- as many tails as numbers, and no more numbers than arcs
pub noted_length : (p : Plan) (ns : List ℕ) (s : LegLists) → Noted p ns s → (length s.numbers ≡ length ns) × (length s.tails ≡ length ns)
noted_length p ns s h = (ap length h.numbers_are, ap length h.tails_are ∙ length-map ns (λ k. (arc_at p.arcs k).tail))

pub few_below : (p : Plan) (k : ℕ) → length (numbers_below p k) ≤ k
unfolding numbers_below
few_below p k = omega (arith, select_length (λ k. is_required_arc (arc_at p.arcs k)) (below k), length_below k)
