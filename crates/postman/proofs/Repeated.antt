-- Two arcs of a list agree exactly when two of different numbers are equal: an arc is its fields. By induction on the list.
use Rattle.std.specs.Prelude.{◌≡◌, not, List, [], ◌∷◌, ℕ, zero, suc, ◌<◌, length, T, eqb}
use Rattle.std.proofs.Common.{sym, ap, ◌∙◌, inl, inr, suc-le-suc, arith, T_not, eqb→eq}
use Rattle.postman.specs.Lists.{any_of}
use Rattle.postman.specs.Plan.{Arc, arc_at}
use Rattle.postman.specs.PlanFile.{agree, has_repeated}
use Rattle.postman.specs.Laws.Tests.{and_both, and_parts, or_left, or_right, or_cases, eqb_same}
use Rattle.postman.specs.Laws.Membership.{get_d_mem, mem_get_d, any_of_mem, any_of_at}

pub agree_equal : (a b : Arc) → T (agree a b) → a ≡ b
unfolding agree
agree_equal a b t =
    let x = and_parts (eqb a.tail b.tail) _ t in
    let y = and_parts (eqb a.head b.head) _ x.1 in
    let w = and_parts (eqb a.standing b.standing) _ y.1 in
    let e₁ = eqb→eq a.tail b.tail x.0 in
    let e₂ = eqb→eq a.head b.head y.0 in
    let e₃ = eqb→eq a.standing b.standing w.0 in
    let v = and_parts (eqb a.cost b.cost) _ w.1 in
    let e₄ = eqb→eq a.cost b.cost v.0 in
    let e₅ = eqb→eq a.service b.service v.1 in
    λ i. record { tail = e₁ i; head = e₂ i; standing = e₃ i; cost = e₄ i; service = e₅ i }

pub equal_agree : (a b : Arc) → a ≡ b → T (agree a b)
unfolding agree
equal_agree a b e =
    let same : (f : Arc → ℕ) → T (eqb (f a) (f b)) = λ f. eqb_same (ap f e) in
    and_both (eqb a.tail b.tail) _ (same (λ c. c.tail))
    (and_both (eqb a.head b.head) _ (same (λ c. c.head))
    (and_both (eqb a.standing b.standing) _ (same (λ c. c.standing))
    (and_both (eqb a.cost b.cost) _ (same (λ c. c.cost)) (same (λ c. c.service)))))

-- No two arcs of different numbers are equal.
abbrev pub Distinct : List Arc → Type 0
Distinct arcs = (j k : ℕ) → j < k → k < length arcs → arc_at arcs j ≡ arc_at arcs k → ⊥

pub repeated_pair : (arcs : List Arc) → T (has_repeated arcs)
    → (j : ℕ) × (k : ℕ) × (j < k) × (k < length arcs) × (arc_at arcs j ≡ arc_at arcs k)
unfolding has_repeated
repeated_pair [] t = absurd t
repeated_pair (a ∷ arcs) t = elim (or_cases (any_of (agree a) arcs) (has_repeated arcs) t) [
  | inl u ↦ let r = any_of_at (agree a) arcs u in
      let g = mem_get_d (arc_at [] 0) r.1 in
      (zero, suc g.0, omega arith, suc-le-suc g.1, agree_equal a r.0 r.2 ∙ sym g.2)
  | inr u ↦ let r = repeated_pair arcs u in (suc r.0, suc r.1, suc-le-suc r.2, suc-le-suc r.3, r.4)
]

pub pair_repeated : (arcs : List Arc) (j k : ℕ) → j < k → k < length arcs → arc_at arcs j ≡ arc_at arcs k → T (has_repeated arcs)
unfolding has_repeated
pair_repeated [] j k l h e = absurd (omega arith)
pair_repeated (a ∷ arcs) j zero l h e = absurd (omega arith)
pair_repeated (a ∷ arcs) zero (suc k) l h e =
    or_left (any_of (agree a) arcs) (has_repeated arcs)
    (any_of_mem (agree a) (get_d_mem arcs (arc_at [] 0) k (omega arith)) (equal_agree a (arc_at arcs k) e))
pair_repeated (a ∷ arcs) (suc j) (suc k) l h e =
    or_right (any_of (agree a) arcs) (has_repeated arcs) (pair_repeated arcs j k (omega arith) (omega arith) e)

pub not_repeated : (arcs : List Arc) → T (not (has_repeated arcs)) → Distinct arcs
not_repeated arcs t j k l h e = T_not (has_repeated arcs) t (pair_repeated arcs j k l h e)
