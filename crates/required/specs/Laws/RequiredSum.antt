-- One more arc adds its term; all of them make R, or the number of required arcs that enter or leave a vertex. By induction on the list.
use Rattle.std.specs.Prelude.{◌≡◌, Bool, ℕ, ◌+◌, ◌*◌, ◌≤◌, ◌<◌, length, get_or, set, take, replicate, eqb, pos, ◌-ℤ◌}
use Rattle.std.proofs.Math.Path.{refl, sym, ap, subst⁻¹}
use Rattle.std.proofs.Common.{ap₂, ◌∙◌, add-mul, add-zero, arith, length-set, get_or-set_same, get_or-set_other, eq-eqb, ne_eqb, T_not}
use Rattle.std.proofs.Math.Bool.{true, false, cond}
use mathlib.Core.List.{List, [], ◌∷◌, ◌++◌, map, append-nil}
use Rattle.std.proofs.Math.Decide.{ℕ_discrete}
use Rattle.std.proofs.lemmas.List.{length-replicate, get_or-replicate}
use Rattle.postman.specs.Lists.{select, sum_of, delta, occurrences}
use Rattle.postman.specs.Plan.{Arc, Plan, is_required_arc, required_arcs, IsArc, WellFormed}
use Rattle.postman.specs.Required.{required_cost}
use Rattle.postman.specs.Balancing.{heads, tails, imbalance}
use Rattle.postman.specs.Laws.Tests.{cond_ind}
use Rattle.plan.specs.declared.Plan.{Plan as PlanRecord}
use Rattle.plan.specs.Records.{plan_value, record_at}
use Rattle.plan.specs.Laws.Records.{record_arc, arcs_more, arcs_all}
use Rattle.postman_laws.specs.Laws.Selection.{select_append}
use Rattle.required.specs.RequiredSum.{required_sum, end_of}

sum_snoc : (g : Arc → ℕ) (xs ys : List Arc) → sum_of (map g (xs ++ ys)) ≡ sum_of (map g xs) + sum_of (map g ys)
unfolding sum_of
sum_snoc g [] ys = omega arith
sum_snoc g (x ∷ xs) ys = let h = sum_snoc g xs ys in omega arith

sum_one : (g : Arc → ℕ) (a : Arc) → sum_of (map g (select is_required_arc (a ∷ []))) ≡ cond (is_required_arc a) (g a) 0
unfolding sum_of select
sum_one g a =
    cond_ind (is_required_arc a) (a ∷ []) [] (λ l. sum_of (map g l) ≡ cond (is_required_arc a) (g a) 0)
    (λ t. cond_ind (is_required_arc a) (g a) 0 (λ x. g a + 0 ≡ x) (λ u. omega arith) (λ u. absurd (T_not (is_required_arc a) u t)))
    (λ t. cond_ind (is_required_arc a) (g a) 0 (λ x. 0 ≡ x) (λ u. absurd (T_not (is_required_arc a) t u)) (λ u. refl))

module _ (g : Arc → ℕ) (r : PlanRecord) (ok : WellFormed (plan_value r)) where
  pub sum_more : (k : ℕ) → k < r.m
      → required_sum g (plan_value r) (k + 1)
      ≡ required_sum g (plan_value r) k + cond (is_required_arc (record_at r.arcs k)) (g (record_at r.arcs k)) 0
  unfolding required_sum
  sum_more k l =
      ap (λ (xs : List Arc). sum_of (map g (select is_required_arc xs))) (arcs_more r ok k l)
      ∙ ap (λ (xs : List Arc). sum_of (map g xs)) (select_append is_required_arc (take k (plan_value r).arcs) (record_at r.arcs k ∷ []))
      ∙ sum_snoc g (select is_required_arc (take k (plan_value r).arcs)) (select is_required_arc (record_at r.arcs k ∷ []))
      ∙ ap (λ x. sum_of (map g (select is_required_arc (take k (plan_value r).arcs))) + x) (sum_one g (record_at r.arcs k))

  sum_all : required_sum g (plan_value r) r.m ≡ sum_of (map g (required_arcs (plan_value r)))
  unfolding required_sum required_arcs
  sum_all = ap (λ (xs : List Arc). sum_of (map g (select is_required_arc xs))) (arcs_all r ok)

pub sum_none : (g : Arc → ℕ) (p : Plan) → required_sum g p 0 ≡ 0
unfolding required_sum select sum_of
sum_none g p = refl

-- what a loop has summed before arc k: terms of at most b each
pub record Summed (g : Arc → ℕ) (b : ℕ) (r : PlanRecord) (m k sum : ℕ) : Type 0 where
  pub all : m ≡ r.m
  pub before : k ≤ m
  pub bounded : sum ≤ k * b
  pub is : sum ≡ required_sum g (plan_value r) k

pub summed_none : (g : Arc → ℕ) (b : ℕ) (r : PlanRecord) → Summed g b r r.m 0 0
summed_none g b r = record { all = refl; before = omega arith; bounded = omega arith; is = sym (sum_none g (plan_value r)) }

module _ (r : PlanRecord) (ok : WellFormed (plan_value r)) {g : Arc → ℕ} {b m k sum x : ℕ} (small : (a : Arc) → IsArc r.n a → g a ≤ b)
    (h : Summed g b r m k sum) (l : k < m)
    (e : x ≡ cond (is_required_arc (record_at r.arcs k)) (g (record_at r.arcs k)) 0) where
  pub term_le : x ≤ b
  term_le =
      let i = h.all in
      let s = small (record_at r.arcs k) (record_arc r ok k (omega arith)) in
      let c = cond_ind (is_required_arc (record_at r.arcs k)) (g (record_at r.arcs k)) 0 (λ y. y ≤ b) (λ t. s) (λ t. omega arith) in
      omega arith

  pub summed_more : Summed g b r m (k + 1) (sum + x)
  summed_more =
      let i = h.all in
      let t = term_le in
      let c = h.bounded in
      let d = h.is in
      let f = sum_more g r ok k (omega arith) in
      record { all = i; before = omega arith; bounded = (rw add-mul (omega arith)); is = omega arith }

-- how often a vertex is an end of an arc, as a sum
sum_occurrences : (f : Arc → ℕ) (v : ℕ) (arcs : List Arc) → sum_of (map (λ a. delta v (f a)) arcs) ≡ occurrences v (map f arcs)
unfolding sum_of occurrences
sum_occurrences f v [] = refl
sum_occurrences f v (a ∷ arcs) = ap (λ x. delta v (f a) + x) (sum_occurrences f v arcs)

-- the loop's sum at its end
module _ (r : PlanRecord) (ok : WellFormed (plan_value r)) {b m k sum : ℕ} (l : m ≤ k) where
  whole : {g : Arc → ℕ} → Summed g b r m k sum → sum ≡ sum_of (map g (required_arcs (plan_value r)))
  whole {g} h =
      let i = h.all in
      let j = h.before in
      let e : k ≡ r.m = omega arith in
      h.is ∙ ap (required_sum g (plan_value r)) e ∙ sum_all g r ok

  pub sum_service : Summed (λ a. a.service) b r m k sum → sum ≡ required_cost (plan_value r)
  unfolding required_cost
  sum_service h = whole h

  pub sum_ends : (f : Arc → ℕ) (v : ℕ) → Summed (λ a. delta v (f a)) b r m k sum
      → sum ≡ occurrences v (map f (required_arcs (plan_value r)))
  sum_ends f v h = whole h ∙ sum_occurrences f v (required_arcs (plan_value r))

-- ---- the counts of all vertices: an arc adds its term at its end, and nothing elsewhere

pub record Degrees (f : Arc → ℕ) (r : PlanRecord) (m k : ℕ) (counts : List ℕ) : Type 0 where
  pub all : m ≡ r.m
  pub before : k ≤ m
  pub long : length counts ≡ 64
  pub each : (v : ℕ) → v < 64 → Summed (λ a. delta v (f a)) 1 r m k (get_or counts v 0)

pub degrees_none : (f : Arc → ℕ) (r : PlanRecord) → Degrees f r r.m 0 (replicate {A = ℕ} 64 0)
degrees_none f r = record {
  all = refl;
  before = omega arith;
  long = length-replicate {A = ℕ} 64 0;
  each = λ v l. subst⁻¹ (Summed (λ a. delta v (f a)) 1 r r.m 0) (get_or-replicate {A = ℕ} 64 v 0 0 l)
      (summed_none (λ a. delta v (f a)) 1 r);
}

at_most_one : (f : Arc → ℕ) (v n : ℕ) (a : Arc) → IsArc n a → delta v (f a) ≤ 1
unfolding delta
at_most_one f v n a h = cond_ind (eqb v (f a)) 1 0 (λ x. x ≤ 1) (λ u. omega arith) (λ u. omega arith)

module _ (f : Arc → ℕ) (r : PlanRecord) (ok : WellFormed (plan_value r)) {m k : ℕ} {counts : List ℕ} (h : Degrees f r m k counts)
    (l : k < m) {e x : ℕ} (ee : e ≡ f (record_at r.arcs k))
    (low : e < 64) (ex : x ≡ cond (is_required_arc (record_at r.arcs k)) 1 0) where
  -- the term of the end, and of another vertex
  own : x ≡ cond (is_required_arc (record_at r.arcs k)) (delta e (f (record_at r.arcs k))) 0
  unfolding delta
  own = ex ∙ ap (λ n. cond (is_required_arc (record_at r.arcs k)) n 0) (sym (ap (λ (b : Bool). cond b 1 0) (eq-eqb e _ ee)))

  other : (v : ℕ) → (v ≡ e → ⊥)
      → ◌≡◌ {A = ℕ} 0 (cond (is_required_arc (record_at r.arcs k)) (delta v (f (record_at r.arcs k))) 0)
  unfolding delta
  other v n = either (is_required_arc (record_at r.arcs k)) (sym (ap (λ (b : Bool). cond b 1 0) (ne_eqb v _ (λ q. n (q ∙ sym ee)))))
    where
      either : (b : Bool) {z : ℕ} → 0 ≡ z → 0 ≡ cond b z 0
      either true q = q
      either false q = refl

  pub degrees_more : Degrees f r m (k + 1) (set counts e (get_or counts e 0 + x))
  degrees_more = record {
    all = h.all;
    before = omega arith;
    long = length-set counts e (get_or counts e 0 + x) ∙ h.long;
    each = λ v g. elim (ℕ_discrete v e) [
      | yes q ↦ rw q
          (subst⁻¹ (Summed (λ a. delta e (f a)) 1 r m (k + 1))
          (get_or-set_same counts e (get_or counts e 0 + x) 0 (let s = h.long in omega arith))
          (summed_more r ok (at_most_one f e r.n) (h.each e low) l own))
      | no q ↦ subst⁻¹ (Summed (λ a. delta v (f a)) 1 r m (k + 1))
          (get_or-set_other counts e v (get_or counts e 0 + x) 0 q ∙ sym (add-zero (get_or counts v 0)))
          (summed_more r ok (at_most_one f v r.n) (h.each v g) l (other v q))
    ];
  }

-- D(v) is the number of required arcs into v, less the number of those out of v
pub imbalance_degrees : (p : Plan) (v : ℕ)
    → pos (occurrences v (map (end_of true) (required_arcs p))) -ℤ pos (occurrences v (map (end_of false) (required_arcs p))) ≡ imbalance
    p [] v
unfolding imbalance heads tails
imbalance_degrees p v =
    sym (ap₂ (λ (xs ys : List ℕ). pos (occurrences v xs) -ℤ pos (occurrences v ys)) (append-nil (map (end_of true) (required_arcs p)))
    (append-nil (map (end_of false) (required_arcs p))))
