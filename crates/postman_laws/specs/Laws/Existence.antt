-- A plan with a required arc has a drive exactly when it is not cut off. A drive leads from any required vertex to any other; conversely
-- the required arcs, in file order, are joined by shortest paths.
use Rattle.std.proofs.Math.Path.{refl, subst⁻¹}
use Rattle.std.proofs.Common.{subst}
use Rattle.std.proofs.Math.Logic.{inl, inr}
use Rattle.std.proofs.Math.Bool.{not}
use mathlib.Core.List.Memᴰ
use mathlib.Core.List.{List, [], ◌∷◌, Memᴰ}
use Rattle.std.specs.Prelude.{ℕ, ◌<◌, length, T}
use Rattle.std.proofs.Math.Dec.{T_not}
use Rattle.postman.specs.Lists.{any_of}
use Rattle.postman.specs.Plan.{Arc, Plan, is_required_arc, arc_at, required_numbers, required_arcs, WellFormed}
use Rattle.postman.specs.Drive.{IsWalk, IsDrive}
use Rattle.postman.specs.Required.{required}
use Rattle.postman.specs.Distance.{has_path}
use Rattle.postman.specs.PlanCall.{is_cut_off}
use Rattle.postman.specs.Laws.Tests.{not_not}
use Rattle.postman.specs.Laws.Membership.{select_mem, get_d_mem, mem_get_d, any_of_at, any_of_not}
use Rattle.postman_laws.specs.Laws.Distance.{bounded, path_walk, walk_path}
use Rattle.postman_laws.specs.Laws.Walk.{Leads, join, around}
use Rattle.postman.specs.Steps.{IsRequiredNumber}
use Rattle.postman_laws.specs.Laws.Required.{required_arc_of, required_lt, required_open, number_ends, numbers_mem, mem_numbers}

-- from a required vertex a drive leads to its start, and back
reach : (p : Plan) {w : List ℕ} (h : IsDrive p w) {v : ℕ} → Memᴰ v (required p)
    → Leads p.arcs v h.start × Leads p.arcs h.start v
reach p h {v} m =
    let r = required_arc_of p m in
    let a = around p.arcs h.start h.start (h.covers r.0 r.1.number r.1.must) h.leads_back in
    elim r.2 [
      | inl e ↦ (
        subst (λ z. Leads p.arcs z h.start) e (join p.arcs a.1 a.2),
        subst (λ z. Leads p.arcs h.start z) e a.0,
      )
      | inr e ↦ (
        subst (λ z. Leads p.arcs z h.start) e a.2,
        subst (λ z. Leads p.arcs h.start z) e (join p.arcs a.0 a.1),
      )
    ]

-- some arc is required
pub some_required : (p : Plan) → 0 < length (required_arcs p) → (k : ℕ) × IsRequiredNumber p k
unfolding required_arcs
some_required p h =
    let a : Arc = record { tail = 0; head = 0; standing = 0; cost = 0; service = 0 } in
    let s = select_mem is_required_arc p.arcs (get_d_mem (required_arcs p) a 0 h) in
    let x = mem_get_d _ s.0 in
    (x.0, record { number = x.1; must = subst⁻¹ (λ (b : Arc). T (is_required_arc b)) x.2 s.1 })

module _ (p : Plan) (ok : WellFormed p) where
  -- cut off: there is no drive
  pub no_drive : T (is_cut_off p) → (w : List ℕ) → IsDrive p w → ⊥
  unfolding is_cut_off
  no_drive t w h =
      let r = any_of_at (λ i. any_of (λ j. not (has_path p i j)) (required p)) (required p) t in
      let s = any_of_at (λ j. not (has_path p r.0 j)) (required p) r.2 in
      let l = join p.arcs (reach p h r.1).0 (reach p h s.1).1 in
      T_not (has_path p r.0 s.0) s.2 (walk_path p (bounded ok) r.0 s.0 l.0 (required_lt p r.1) l.1)

  -- ---- not cut off: there is one

  module _ (connected : T (not (is_cut_off p))) where
    pub linked : {i j : ℕ} → Memᴰ i (required p) → Memᴰ j (required p) → Leads p.arcs i j
    unfolding is_cut_off
    linked {i} {j} m n =
        let u = any_of_not (λ j. not (has_path p i j)) n (any_of_not (λ i. any_of (λ j. not (has_path p i j)) (required p)) m connected) in
        path_walk p (bounded ok).ends i j (not_not (has_path p i j) u)

    -- through the arcs ks, from i to e
    through : {e : ℕ} → Memᴰ e (required p) → (ks : List ℕ) → ((k : ℕ) → Memᴰ k ks → IsRequiredNumber p k) → (i : ℕ)
        → Memᴰ i (required p)
        → (w : List ℕ) × IsWalk p.arcs i w e × ((k : ℕ) → Memᴰ k ks → Memᴰ k w)
    unfolding join
    through {e} me [] h i mi = let r = linked mi me in (r.0, r.1, λ k m. absurd (Memᴰ.not-nil m))
    through {e} me (k ∷ ks) h i mi =
        let hk = h k (Memᴰ.head refl) in
        let x = number_ends p (bounded ok).ends hk in
        let a = linked mi x.0 in
        let r = through me ks (λ l m. h l (Memᴰ.tail m)) (arc_at p.arcs k).head x.1 in
        let b = join p.arcs (k ∷ [], (hk.number, required_open p k hk, refl, refl)) (r.0, r.1) in
        let c = join p.arcs a b in (
          c.0,
          c.1,
          λ l m. Memᴰ.append_right a.0
              (elim (Memᴰ.cases_cons m) [ inl q ↦ Memᴰ.head q | inr n ↦ Memᴰ.tail (r.2 l n) ]),
        )

    pub a_drive : 0 < length (required_arcs p) → (w : List ℕ) × IsDrive p w
    a_drive some =
        let k = some_required p some in
        let s = (number_ends p (bounded ok).ends k.1).0 in
        let r = through s (required_numbers p) (λ j n. numbers_mem p n) (arc_at p.arcs k.0).tail s in (
          r.0,
          record {
            start = (arc_at p.arcs k.0).tail;
            leads_back = r.1;
            covers = λ j l m. r.2 j (mem_numbers p (record { number = l; must = m }));
          },
        )
