-- The lower bound is below every drive. For any drive there is an arborescence whose completion costs no more; the cost is the least over
-- arborescences where all are tried, and L(u) is at most the completion cost of each.
use Rattle.std.specs.Prelude.{◌≡◌, Bool, not, ℕ, zero, suc, ◌+◌, ◌≤◌, ◌<◌, min, take, ℤ, ◌≤ℤ◌}
use Rattle.std.proofs.Math.Path.{refl, ap, subst, subst⁻¹}
use Rattle.std.proofs.Common.{sym, inl, inr, le_trans, take-take, T_not}
use Rattle.std.proofs.Math.Bool.{true, false, cond}
use mathlib.Core.List.Memᴰ
use mathlib.Core.List.{List, [], ◌∷◌, map, Memᴰ}
use native.Mathlib.Omega.{arith}
use Rattle.std.proofs.Math.ListN.{length, length-map, length-take}
use Rattle.std.proofs.Math.Seq.{take_all}
use Rattle.std.proofs.Math.IntN.{pos}
use Rattle.std.specs.Int.Signed.{≤ℤ_refl}
use Rattle.std.proofs.Math.Dec.{T, leb→le, le→leb}
use Rattle.integers.specs.Linear.{z}
use Rattle.postman.specs.Lists.{minimum, maxℤ}
use Rattle.postman.specs.Plan.{Plan}
use Rattle.postman.specs.Drive.{drive_cost, IsDrive}
use Rattle.postman.specs.Required.{required_cost}
use Rattle.postman.specs.Link.{Link}
use Rattle.postman.specs.Arborescence.{arborescences, arborescence_count}
use Rattle.postman.specs.Balancing.{least_balancing, completion_cost}
use Rattle.postman.specs.LagrangianBound.{Multipliers, lagrangian_bound, AreMultipliers}
use Rattle.postman.specs.PlanCall.{tried_count, is_whole, best_cost, lower_bound}
use Rattle.postman.specs.Guarantee.{Guarantee}
use Rattle.postman.specs.Laws.Tests.{cond_ind}
use Rattle.postman.specs.Laws.Membership.{mem_map, map_mem}
use Rattle.postman_laws.specs.Laws.Minimum.{minimum_le, minimum_at}
use Rattle.postman_laws.specs.Laws.Distance.{bounded}
use Rattle.postman_laws.specs.Laws.Existence.{some_required, a_drive}
use Rattle.postman_laws.specs.Laws.DriveBound.{arborescence_of_drive}
use Rattle.postman.specs.Steps.{Feasible, Plannable}
use Rattle.postman_laws.specs.Laws.LagrangianBound.{bound_le, bound_ge, zero_feasible}
use Rattle.postman_laws.specs.Laws.SignedSum.{≤ℤ-trans, max_right, max_least}

take_mem : {A : Type 0} (n : ℕ) {x : A} (xs : List A) → Memᴰ x (take n xs) → Memᴰ x xs
take_mem zero [] m = m
take_mem zero (y ∷ ys) m = absurd (Memᴰ.not-nil m)
take_mem (suc n) [] m = m
take_mem (suc n) (y ∷ ys) m = elim (Memᴰ.cases_cons m) [ inl e ↦ Memᴰ.head e | inr m' ↦ Memᴰ.tail (take_mem n ys m') ]

module _ (p : Plan) (budget : ℕ) where
  -- the cost is at most the completion cost of each arborescence tried
  best_le : {t : List Link} → Memᴰ t (take (tried_count p budget) (arborescences p)) → best_cost p budget ≤ completion_cost p t
  unfolding best_cost
  best_le m = minimum_le (mem_map (completion_cost p) m)

  -- and is that of one of them
  best_at : 1 ≤ budget → 0 < arborescence_count p
      → (t : List Link) × Memᴰ t (take (tried_count p budget) (arborescences p)) × (best_cost p budget ≡ completion_cost p t)
  unfolding best_cost tried_count arborescence_count
  best_at l h =
      let n = length-take (tried_count p budget) (arborescences p) in
      let m = length-map (take (tried_count p budget) (arborescences p)) (completion_cost p) in
      map_mem (completion_cost p) (take (tried_count p budget) (arborescences p))
      (minimum_at (map (completion_cost p) (take (tried_count p budget) (arborescences p))) (omega arith))

  whole_all : T (is_whole p budget) → take (tried_count p budget) (arborescences p) ≡ arborescences p
  unfolding is_whole tried_count arborescence_count
  whole_all t =
      let l = leb→le (length (arborescences p)) budget t in
      take_all (tried_count p budget) (arborescences p) (omega arith)

module _ (p : Plan) (ok : Plannable p) where
  pub drive_arborescence : (w : List ℕ) → IsDrive p w
      → (t : List Link) × Memᴰ t (arborescences p) × (completion_cost p t ≤ drive_cost p w)
  drive_arborescence w h = let k = some_required p ok.some_arc in arborescence_of_drive p ok.well_formed k.0 k.1 w h

  -- N ≥ 1
  pub some_arborescence : 0 < arborescence_count p
  unfolding arborescence_count
  some_arborescence =
      let w = a_drive p ok.well_formed ok.connected ok.some_arc in
      nonempty (drive_arborescence w.0 w.1).1
    where
      nonempty : {t : List Link} {ts : List (List Link)} → Memᴰ t ts → 0 < length ts
      nonempty (Memᴰ.head e) = omega arith
      nonempty (Memᴰ.tail m) = omega arith

  -- all arborescences tried: no drive is cheaper
  pub whole_le : (budget : ℕ) → T (is_whole p budget) → (w : List ℕ) → IsDrive p w → best_cost p budget ≤ drive_cost p w
  whole_le budget t w h =
      let r = drive_arborescence w h in
      le_trans (best_le p budget (subst⁻¹ (λ (ts : List (List Link)). Memᴰ r.0 ts) (whole_all p budget t) r.1)) r.2

  module _ (u : Multipliers) (feasible : Feasible p u) where
    bound_drive : (w : List ℕ) → IsDrive p w → lagrangian_bound p u ≤ℤ pos (drive_cost p w)
    bound_drive w h =
        let r = drive_arborescence w h in
        let a = bound_le p u (bounded ok.well_formed).ends feasible r.0 r.1 in
        let b = r.2 in
        omega (arith, z)

    bound_best : (budget : ℕ) → 1 ≤ budget → lagrangian_bound p u ≤ℤ pos (best_cost p budget)
    bound_best budget l =
        let r = best_at p budget l some_arborescence in
        let m = take_mem (tried_count p budget) (arborescences p) r.1 in
        subst⁻¹ (λ (c : ℕ). lagrangian_bound p u ≤ℤ pos c) r.2 (bound_le p u (bounded ok.well_formed).ends feasible r.0 m)

  abbrev L0 : ℤ
  L0 = lagrangian_bound p (λ i. pos 0)

  pub guaranteed : (budget : ℕ) → 1 ≤ budget → (u : Multipliers) → AreMultipliers p u → Guarantee p budget u
  unfolding lower_bound
  guaranteed budget l u h =
      let Lu = lagrangian_bound p u in
      let best = best_cost p budget in
      let ge = bound_ge p u (bounded ok.well_formed).ends h some_arborescence in
      record {
        below_every_drive = λ w g. cond_ind (is_whole p budget) (pos best) (maxℤ L0 Lu) (λ x. x ≤ℤ pos (drive_cost p w))
            (λ t. (let a = whole_le budget t w g in omega (arith, z)))
            (λ t. max_least L0 Lu (pos (drive_cost p w)) (bound_drive (λ i. pos 0) (zero_feasible p) w g) (bound_drive u h.feasible w g));
        whole_equal = λ t. pick_yes (is_whole p budget) (pos best) (maxℤ L0 Lu) t;
        whole_least = λ t w g. whole_le budget t w g;
        partial_equal = λ t. pick_no (is_whole p budget) (pos best) (maxℤ L0 Lu) t;
        above_balancing = cond_ind (is_whole p budget) (pos best) (maxℤ L0 Lu) (λ x. pos (required_cost p + least_balancing p []) ≤ℤ x)
            (λ t. ≤ℤ-trans ge (bound_best u h.feasible budget l)) (λ t. ≤ℤ-trans ge (max_right L0 Lu));
      }
    where
      pick_yes : (c : Bool) (x y : ℤ) → T c → cond c x y ≡ x
      pick_yes true x y t = refl
      pick_yes false x y t = absurd t

      pick_no : (c : Bool) (x y : ℤ) → T (not c) → cond c x y ≡ y
      pick_no true x y t = absurd t
      pick_no false x y t = refl

  -- ---- a larger budget

  module _ (b c : ℕ) (some : 1 ≤ b) (more : b ≤ c) where
    -- never gives a dearer cost
    pub larger_cost : best_cost p c ≤ best_cost p b
    unfolding tried_count
    larger_cost =
        let r = best_at p b some some_arborescence in
        let n = arborescence_count p in
        let m = subst (λ (ts : List (List Link)). Memᴰ r.0 ts)
        (sym (take-take (min b n) (min c n) (arborescences p) (omega arith))) r.1 in
        let g = best_le p c (take_mem (min b n) (take (min c n) (arborescences p)) m) in
        let e = r.2 in
        omega arith

    -- where all trees were tried, tries the same and is whole too
    pub whole_tried : T (is_whole p b) → tried_count p b ≡ tried_count p c
    unfolding is_whole tried_count
    whole_tried t = let l = leb→le (arborescence_count p) b t in omega arith

    pub whole_stays : T (is_whole p b) → T (is_whole p c)
    unfolding is_whole
    whole_stays t = let l = leb→le (arborescence_count p) b t in le→leb (arborescence_count p) c (omega arith)

    whole_cost : T (is_whole p b) → best_cost p b ≡ best_cost p c
    unfolding best_cost
    whole_cost t = ap (λ k. minimum (map (completion_cost p) (take k (arborescences p)))) (whole_tried t)

    -- nor, at the same u, a lower bound that is lower
    pub larger_bound : (u : Multipliers) → AreMultipliers p u → lower_bound p b u ≤ℤ lower_bound p c u
    unfolding lower_bound
    larger_bound u h =
        let Lu = lagrangian_bound p u in
        cond_ind (is_whole p b) (pos (best_cost p b)) (maxℤ L0 Lu) (λ x. x ≤ℤ cond (is_whole p c) (pos (best_cost p c)) (maxℤ L0 Lu))
        (λ t. cond_ind (is_whole p c) (pos (best_cost p c)) (maxℤ L0 Lu) (λ x. pos (best_cost p b) ≤ℤ x)
        (λ s. (let e = whole_cost t in omega (arith, z)))
        (λ s. absurd (T_not (is_whole p c) s (whole_stays t))))
        (λ t. cond_ind (is_whole p c) (pos (best_cost p c)) (maxℤ L0 Lu) (λ x. maxℤ L0 Lu ≤ℤ x)
        (λ s. max_least L0 Lu (pos (best_cost p c)) (bound_best (λ i. pos 0) (zero_feasible p) c (omega arith))
        (bound_best u h.feasible c (omega arith)))
        (λ s. ≤ℤ_refl (maxℤ L0 Lu)))
