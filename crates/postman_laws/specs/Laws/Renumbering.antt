-- The plan renumbered has the arcs of the plan one by one: so it is well formed, has the same required arcs with the same numbers and the
-- same R, and renumbered back it is the plan. By induction on the list of arcs.
use Rattle.std.specs.Prelude.{◌≡◌, refl, ℕ, zero, suc, ◌<◌, length}
use Rattle.std.proofs.Math.Path.{ap, subst⁻¹, fun_ext}
use Rattle.std.proofs.Common.{◌∙◌, arith}
use mathlib.Core.List.{List, [], ◌∷◌, map, map-map}
use Rattle.std.proofs.lemmas.List.{length-map}
use Rattle.postman.specs.Lists.{select, below, sum_of}
use Rattle.postman.specs.Plan.{Arc, Plan, is_required_arc, arc_at, required_arcs, required_numbers, IsArc, WellFormed}
use Rattle.postman.specs.Required.{required_cost}
use Rattle.postman.specs.Renumbering.{IsNumbering, renumbered_arc, renumbered}
use Rattle.postman.specs.Laws.Membership.{map_mem, select_cong}
use Rattle.postman_laws.specs.Laws.Lists.{select_map}
use Rattle.postman_laws.specs.Laws.WellFormed.{of_good_arcs}

-- ---- the arcs

module _ (π : ℕ → ℕ) where
  arcs_length : (arcs : List Arc) → length (map (renumbered_arc π) arcs) ≡ length arcs
  arcs_length arcs = length-map arcs (renumbered_arc π)

  pub arc_number : (arcs : List Arc) (k : ℕ) → k < length arcs → arc_at (map (renumbered_arc π) arcs) k ≡ renumbered_arc π (arc_at arcs k)
  arc_number [] k l = absurd (omega arith)
  arc_number (a ∷ arcs) zero l = refl
  arc_number (a ∷ arcs) (suc k) l = arc_number arcs k (omega arith)

  -- what is no vertex is the same for every number, also one that no arc has
  pub arc_same : {B : Type 0} (g : Arc → B) → ((a : Arc) → g (renumbered_arc π a) ≡ g a) → (arcs : List Arc) (k : ℕ)
      → g (arc_at (map (renumbered_arc π) arcs) k) ≡ g (arc_at arcs k)
  arc_same g h [] k = refl
  arc_same g h (a ∷ arcs) zero = h a
  arc_same g h (a ∷ arcs) (suc k) = arc_same g h arcs k

-- ---- the plan

pub renumbered_identity : (p : Plan) → renumbered p (λ v. v) ≡ p
renumbered_identity p = ap (λ (arcs : List Arc). record { n = p.n; arcs = arcs }) (all p.arcs)
  where
    all : (arcs : List Arc) → map (renumbered_arc (λ v. v)) arcs ≡ arcs
    all [] = refl
    all (a ∷ arcs) = ap (λ (l : List Arc). a ∷ l) (all arcs)

module _ (p : Plan) {π σ : ℕ → ℕ} (h : IsNumbering p.n π σ) where
  pub renumbered_back : renumbered (renumbered p π) σ ≡ p
  renumbered_back =
      ap (λ (arcs : List Arc). record { n = p.n; arcs = arcs })
      (map-map (renumbered_arc σ) (renumbered_arc π) p.arcs ∙ ap (λ (f : ℕ → ℕ). map (renumbered_arc f) p.arcs) (fun_ext h.back)
      ∙ ap (λ (q : Plan). q.arcs) (renumbered_identity p))

  pub renumbered_well_formed : WellFormed p → WellFormed (renumbered p π)
  renumbered_well_formed ok =
      of_good_arcs p ok _ (arcs_length π p.arcs) (λ a m.
      let r = map_mem (renumbered_arc π) p.arcs m in
      let g = ok.each r.0 r.1 in
      subst⁻¹ (IsArc p.n) r.2 (record {
        tail_in = h.inside _ g.tail_in;
        head_in = h.inside _ g.head_in;
        standing_in = g.standing_in;
        cost_in_holds = g.cost_in_holds;
        service_in = g.service_in;
      }))

-- ---- the required arcs

module _ (p : Plan) (π : ℕ → ℕ) where
  pub renumbered_required : required_arcs (renumbered p π) ≡ map (renumbered_arc π) (required_arcs p)
  unfolding required_arcs
  renumbered_required = select_map is_required_arc is_required_arc (renumbered_arc π) p.arcs (λ a m. refl)

  pub renumbered_count : length (required_arcs (renumbered p π)) ≡ length (required_arcs p)
  renumbered_count = ap length renumbered_required ∙ arcs_length π (required_arcs p)

  pub renumbered_numbers : required_numbers (renumbered p π) ≡ required_numbers p
  unfolding required_numbers
  renumbered_numbers =
      ap (λ n. select (λ k. is_required_arc (arc_at (renumbered p π).arcs k)) (below n)) (arcs_length π p.arcs)
      ∙ select_cong (λ k. is_required_arc (arc_at (renumbered p π).arcs k)) (λ k. is_required_arc (arc_at p.arcs k))
      (below (length p.arcs)) (λ k m. arc_same π is_required_arc (λ a. refl) p.arcs k)

  -- R
  pub renumbered_cost : required_cost (renumbered p π) ≡ required_cost p
  unfolding required_cost
  renumbered_cost =
      ap (λ (arcs : List Arc). sum_of (map (λ a. a.service) arcs)) renumbered_required
      ∙ ap sum_of (map-map (λ a. a.service) (renumbered_arc π) (required_arcs p))
