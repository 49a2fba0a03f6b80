-- A drive's cost is its plain cost, with the required arcs' own costs exchanged for their service costs. Walk along the list: where an arc
-- is due, it is taken off, and its cost is exchanged for its service cost on both sides; any other pass costs the same on both. At the end
-- nothing is due, since every required arc occurs.
use Rattle.std.specs.Prelude.{◌≡◌, ℕ, ◌+◌, ◌≤◌}
use Rattle.std.proofs.Math.Path.{refl, ap, subst⁻¹}
use Rattle.std.proofs.Common.{sym, inl, inr, arith, ne_eqb, eqb→eq}
use Rattle.std.proofs.Math.Bool.{not}
use mathlib.Core.List.Memᴰ
use mathlib.Core.List.{List, [], ◌∷◌, map, Memᴰ}
use Rattle.std.proofs.Math.Nat.{le_trans}
use Rattle.std.proofs.Math.Decide.{ℕ_discrete}
use Rattle.std.proofs.Math.Dec.{T, T_not, eqb}
use Rattle.postman.specs.Lists.{select, any_of, sum_of, occurrences}
use Rattle.postman.specs.Plan.{Arc, Plan, arc_at, required_numbers}
use Rattle.postman.specs.Drive.{walk_cost, IsDrive, drive_cost_due, drive_cost}
use Rattle.postman.specs.Required.{required_cost}
use Rattle.postman.specs.Laws.Tests.{cond_ind, is_true, eqb_same, eqb_other}
use Rattle.postman.specs.Laws.Membership.{any_of_mem, any_of_at, select_mem}
use Rattle.postman_laws.specs.Laws.Occurrences.{delta_yes, delta_no, occurrences_of_mem, occurrences_select}
use Rattle.postman_laws.specs.Laws.Required.{numbers_mem, numbers_once, sum_cost, numbers_service}

-- ---- a number taken off a list

abbrev without : ℕ → List ℕ → List ℕ
without k = select (λ j. not (eqb k j))

module _ (f : ℕ → ℕ) (k : ℕ) where
  sum_absent : (xs : List ℕ) → occurrences k xs ≡ 0 → sum_of (map f (without k xs)) ≡ sum_of (map f xs)
  unfolding select sum_of occurrences
  sum_absent [] h = refl
  sum_absent (x ∷ xs) h = elim (ℕ_discrete k x) [
    | yes e ↦ let d = delta_yes e in absurd (omega arith)
    | no n ↦ let r = sum_absent xs (omega arith) in rw (ne_eqb k x n) (omega arith)
  ]

  sum_once : (xs : List ℕ) → occurrences k xs ≡ 1 → f k + sum_of (map f (without k xs)) ≡ sum_of (map f xs)
  unfolding select sum_of occurrences
  sum_once [] h = absurd (omega arith)
  sum_once (x ∷ xs) h = elim (ℕ_discrete k x) [
    | yes e ↦ let d = delta_yes e in
        let r = sum_absent xs (omega arith) in
        let g = ap f e in
        rw (is_true {b = eqb k x} (eqb_same e)) (omega (arith, r, g))
    | no n ↦ let d = delta_no k x n in let r = sum_once xs (omega arith) in rw (ne_eqb k x n) (omega arith)
  ]

-- ---- the exchange

module _ (arcs : List Arc) where
  abbrev service_sum : List ℕ → ℕ
  service_sum ks = sum_of (map (λ k. (arc_at arcs k).service) ks)

  -- of any list in which the arcs that are due occur
  exchange : (w due : List ℕ) → ((k : ℕ) → occurrences k due ≤ 1) → ((k : ℕ) → Memᴰ k due → Memᴰ k w)
      → drive_cost_due arcs due w + walk_cost arcs due ≡ walk_cost arcs w + service_sum due
  unfolding drive_cost_due sum_of
  exchange [] [] o m = refl
  exchange [] (k ∷ due) o m = absurd (Memᴰ.not-nil (m k (Memᴰ.head refl)))
  exchange (k ∷ w) due o m =
      cond_ind (any_of (eqb k) due) _ _ (λ c. c + walk_cost arcs due ≡ (arc_at arcs k).cost + walk_cost arcs w + service_sum due)
      (λ t.
      let left = without k due in
      let once = o k in
      let some = occurrences_of_mem (due_mem t) in
      let ih = exchange w left (λ j. le_trans (occurrences_select j (λ i. not (eqb k i)) due) (o j))
      (λ j h. (let r = select_mem (λ i. not (eqb k i)) due h in rest j (m j r.0) (λ e. eqb_other r.1 (sym e)))) in
      let a = sum_once (λ j. (arc_at arcs j).cost) k due (omega arith) in
      let b = sum_once (λ j. (arc_at arcs j).service) k due (omega arith) in
      let x = sum_cost arcs due in
      let y = sum_cost arcs left in
      omega arith)
      (λ t.
      let ih = exchange w due o (λ j h. rest j (m j h) (λ e. T_not (any_of (eqb k) due) t (any_of_mem (eqb k) h (eqb_same (sym e))))) in
      omega arith)
    where
      due_mem : T (any_of (eqb k) due) → Memᴰ k due
      due_mem t = let r = any_of_at (eqb k) due t in subst⁻¹ (λ z. Memᴰ z due) (eqb→eq k r.0 r.2) r.1

      rest : (j : ℕ) → Memᴰ j (k ∷ w) → (j ≡ k → ⊥) → Memᴰ j w
      rest j h n = elim (Memᴰ.cases_cons h) [ inl e ↦ absurd (n e) | inr g ↦ g ]

-- THE LAW: both sides stay in the natural numbers, whichever of the two costs is larger
pub drive_cost_lem : (p : Plan) {w : List ℕ} → IsDrive p w
    → drive_cost p w + walk_cost p.arcs (required_numbers p) ≡ walk_cost p.arcs w + required_cost p
unfolding drive_cost
drive_cost_lem p {w} h =
    let e = exchange p.arcs w (required_numbers p) (numbers_once p)
    (λ k m. (let g = numbers_mem p m in h.covers k g.number g.must)) in
    let r = numbers_service p in
    omega arith
