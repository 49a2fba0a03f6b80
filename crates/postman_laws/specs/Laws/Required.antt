-- The required vertices are the ends of the required arcs, each once. By what their definition selects.
use Rattle.std.specs.Prelude.{◌≡◌, refl, ◌⊎◌, Bool, true, false, cond, ◌||◌, ℕ, suc, ◌≤◌, ◌<◌, length, get_or, T, eqb}
use Rattle.std.proofs.Common.{sym, ap, ap₂, ◌∙◌, subst₂, inl, inr, le_trans, add-one, arith, length-append, eqb→eq, lt→ltb}
use Rattle.std.proofs.Math.Path.{subst⁻¹}
use mathlib.Core.List.{List, [], ◌∷◌, ◌++◌, map, map-map, Memᴰ, append_assoc}
use Rattle.std.proofs.Math.Seq.{get_or-append_seam}
use Rattle.std.proofs.Math.Dec.{eqb_refl}
use Rattle.postman.specs.Lists.{select, below, up_from, sum_of, occurrences}
use Rattle.postman.specs.Plan.{Arc, Plan, is_open, is_required_arc, arc_at, required_arcs, required_numbers, WellFormed}
use Rattle.postman.specs.Drive.{walk_cost}
use Rattle.postman.specs.Required.{is_required, required, required_cost}
use Rattle.postman.specs.Laws.Tests.{or_left, or_right, or_cases}
use Rattle.postman.specs.Laws.Membership.{mem_select, select_mem, get_d_mem, mem_get_d, any_of_mem, any_of_at, mem_below, below_mem}
use Rattle.postman_laws.specs.Laws.Occurrences.{occurrences_select, occurrences_up_from}
use Rattle.postman_laws.specs.Laws.Distance.{InPlan}
use Rattle.postman.specs.Steps.{IsRequiredNumber}

-- a required vertex is an end of a required arc
pub required_arc_of : (p : Plan) {v : ℕ} → Memᴰ v (required p)
    → (k : ℕ) × IsRequiredNumber p k × (((arc_at p.arcs k).tail ≡ v) ⊎ ((arc_at p.arcs k).head ≡ v))
unfolding required is_required required_arcs
required_arc_of p {v} m =
    let r = any_of_at (λ a. eqb a.tail v || eqb a.head v) (required_arcs p) (select_mem (is_required p) (below p.n) m).1 in
    let s = select_mem is_required_arc p.arcs r.1 in
    let x = mem_get_d _ s.0 in (
      x.0,
      record { number = x.1; must = subst⁻¹ (λ (a : Arc). T (is_required_arc a)) x.2 s.1 },
      subst⁻¹ (λ (a : Arc). (a.tail ≡ v) ⊎ (a.head ≡ v)) x.2
          (elim (or_cases (eqb r.0.tail v) (eqb r.0.head v) r.2) [ inl u ↦ inl (eqb→eq _ v u) | inr u ↦ inr (eqb→eq _ v u) ]),
    )

pub required_lt : (p : Plan) {v : ℕ} → Memᴰ v (required p) → v < p.n
unfolding required
required_lt p m = below_mem (select_mem (is_required p) (below p.n) m).0

pub required_below : (p : Plan) → WellFormed p → {v : ℕ} → Memᴰ v (required p) → v < 64
required_below p ok m = let l = required_lt p m in let n = ok.vertices in omega arith

pub required_mem : (p : Plan) (k : ℕ) → IsRequiredNumber p k → Memᴰ (arc_at p.arcs k) (required_arcs p)
unfolding required_arcs
required_mem p k h = mem_select is_required_arc (get_d_mem p.arcs _ k h.number) h.must

pub required_open : (p : Plan) (k : ℕ) → IsRequiredNumber p k → T (is_open (arc_at p.arcs k))
required_open p k h = let e = eqb→eq (arc_at p.arcs k).standing 1 h.must in lt→ltb (arc_at p.arcs k).standing 2 (omega arith)

pub required_once : (p : Plan) (i : ℕ) → occurrences i (required p) ≤ 1
unfolding required below
required_once p i = le_trans (occurrences_select i (is_required p) (below p.n)) (occurrences_up_from i 0 p.n)

-- ---- the ends of a required arc are required

end_required : (p : Plan) (v : ℕ) (a : Arc) → Memᴰ a (required_arcs p) → v < p.n → T (eqb a.tail v || eqb a.head v)
    → Memᴰ v (required p)
unfolding required is_required
end_required p v a m l t = mem_select (is_required p) (mem_below l) (any_of_mem (λ c. eqb c.tail v || eqb c.head v) m t)

pub required_ends_lem : (p : Plan) → InPlan p → {a : Arc} → Memᴰ a (required_arcs p)
    → Memᴰ a.tail (required p) × Memᴰ a.head (required p)
unfolding required_arcs
required_ends_lem p ok {a} m =
    let b = ok a (select_mem is_required_arc p.arcs m).0 in (
      end_required p a.tail a m b.0 (or_left (eqb a.tail a.tail) (eqb a.head a.tail) (eqb_refl a.tail)),
      end_required p a.head a m b.1 (or_right (eqb a.tail a.head) (eqb a.head a.head) (eqb_refl a.head)),
    )

pub number_ends : (p : Plan) → InPlan p → {k : ℕ} → IsRequiredNumber p k
    → Memᴰ (arc_at p.arcs k).tail (required p) × Memᴰ (arc_at p.arcs k).head (required p)
number_ends p ok {k} h = required_ends_lem p ok (required_mem p k h)

-- ---- the required arcs by their numbers

pub numbers_mem : (p : Plan) {k : ℕ} → Memᴰ k (required_numbers p) → IsRequiredNumber p k
unfolding required_numbers
numbers_mem p m =
    let q = select_mem (λ k. is_required_arc (arc_at p.arcs k)) (below (length p.arcs)) m in
    record { number = below_mem q.0; must = q.1 }

pub mem_numbers : (p : Plan) {k : ℕ} → IsRequiredNumber p k → Memᴰ k (required_numbers p)
unfolding required_numbers
mem_numbers p h = mem_select (λ k. is_required_arc (arc_at p.arcs k)) (mem_below h.number) h.must

pub numbers_once : (p : Plan) (k : ℕ) → occurrences k (required_numbers p) ≤ 1
unfolding required_numbers below
numbers_once p k =
    le_trans (occurrences_select k (λ k. is_required_arc (arc_at p.arcs k)) (below (length p.arcs)))
    (occurrences_up_from k 0 (length p.arcs))

kept : {A : Type 0} (b : Bool) (g : ℕ → A) (n : ℕ) (r : List ℕ) (x : A) (l : List A) → g n ≡ x → map g r ≡ l
    → map g (cond b (n ∷ r) r) ≡ cond b (x ∷ l) l
kept true g n r x l e h = ap₂ ◌∷◌ e h
kept false g n r x l e h = h

-- the elements that pass a test, by their numbers
by_number : {A : Type 0} (f : A → Bool) (d : A) (pre xs : List A)
    → map (λ k. get_or (pre ++ xs) k d) (select (λ k. f (get_or (pre ++ xs) k d)) (up_from (length pre) (length xs))) ≡ select f xs
unfolding up_from select
by_number f d pre [] = refl
by_number {A} f d pre (x ∷ xs) =
    let l = pre ++ x ∷ xs in
    let at : List A → ℕ → Type 0 = λ l n. map (λ k. get_or l k d) (select (λ k. f (get_or l k d)) (up_from n (length xs))) ≡ select f xs in
    let ih : at l (suc (length pre)) =
    subst₂ at (append_assoc pre (x ∷ []) xs) (length-append pre (x ∷ []) ∙ add-one (length pre)) (by_number f d (pre ++ x ∷ []) xs) in
    let y = get_or-append_seam pre x xs d in
    subst⁻¹ (λ b. map (λ k. get_or l k d)
    (cond b (length pre ∷ select (λ k. f (get_or l k d)) (up_from (suc (length pre)) (length xs)))
    (select (λ k. f (get_or l k d)) (up_from (suc (length pre)) (length xs))))
    ≡ cond (f x) (x ∷ select f xs) (select f xs)) (ap f y) (kept (f x) (λ k. get_or l k d) (length pre) _ x (select f xs) y ih)

pub sum_cost : (arcs : List Arc) (ks : List ℕ) → sum_of (map (λ k. (arc_at arcs k).cost) ks) ≡ walk_cost arcs ks
unfolding sum_of
sum_cost arcs [] = refl
sum_cost arcs (k ∷ ks) = let h = sum_cost arcs ks in omega arith

pub numbers_arcs : (p : Plan) → map (λ k. arc_at p.arcs k) (required_numbers p) ≡ required_arcs p
unfolding required_numbers required_arcs below
numbers_arcs p = by_number is_required_arc _ [] p.arcs

pub numbers_field : (p : Plan) {B : Type 0} (g : Arc → B) → map (λ k. g (arc_at p.arcs k)) (required_numbers p) ≡ map g (required_arcs p)
numbers_field p g = sym (map-map g (λ k. arc_at p.arcs k) (required_numbers p)) ∙ ap (map g) (numbers_arcs p)

pub numbers_service : (p : Plan) → sum_of (map (λ k. (arc_at p.arcs k).service) (required_numbers p)) ≡ required_cost p
unfolding required_cost
numbers_service p = ap sum_of (numbers_field p (λ a. a.service))
