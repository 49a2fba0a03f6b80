-- Over the table and the flags of a plan, "cut off" is that of the plan.
use Rattle.std.specs.Prelude.{◌≡◌, false, get_or, eqb, ltb}
use Rattle.std.proofs.Common.{subst, lt→ltb, T_not}
use Rattle.std.proofs.Math.Path.{subst⁻¹}
use Rattle.std.proofs.Math.Bool.{Bool, not}
use mathlib.Core.List.{List, Memᴰ}
use Prim.Native.Nat.{ℕ, ◌<◌}
use Rattle.std.proofs.Math.Decide.{dec_le}
use native.Mathlib.Omega.{arith}
use Rattle.std.proofs.Math.Dec.{T, eqb→eq, ltb→lt, not_T}
use Rattle.postman.specs.Lists.{any_of, below}
use Rattle.postman.specs.Plan.{Plan, WellFormed}
use Rattle.postman.specs.Required.{required}
use Rattle.postman.specs.Distance.{no_path, distance, has_path}
use Rattle.postman.specs.PlanCall.{is_cut_off}
use Rattle.postman.specs.Laws.Tests.{same_test, and_both, and_parts, eqb_same}
use Rattle.postman.specs.Laws.Membership.{any_of_mem, any_of_at, mem_below, below_mem}
use Rattle.postman_laws.specs.Laws.Distance.{bounded, distance_le_no_path}
use Rattle.shortest.specs.StepContracts.{IsTable}
use Rattle.required.specs.StepContracts.{IsRequiredFlags}
use Rattle.postman.specs.Steps.{cell}
use Rattle.postman_laws.specs.Laws.Required.{required_below}
use Rattle.network.specs.CutOff.{has_no_path, misses_some, is_cut, cuts_off}
use Rattle.required.specs.Laws.RequiredVertex.{required_of, of_required}

module _ (p : Plan) (ok : WellFormed p) (d : List (List ℕ)) (r : List Bool) (known : IsTable p d) (flags : IsRequiredFlags p r) where
  -- a vertex is flagged exactly where it is required
  pub flagged : {v : ℕ} → v < 64 → T (get_or r v false) → Memᴰ v (required p)
  flagged {v} l t = required_of p ok (subst T (flags v l) t)

  pub flag_of : {v : ℕ} → Memᴰ v (required p) → T (get_or r v false)
  flag_of {v} m = subst⁻¹ T (flags v (required_below p ok m)) (of_required p ok m)

  no_path_lem : (i j : ℕ) → i < 64 → j < 64 → eqb (cell d i j) 4294967295 ≡ not (has_path p i j)
  unfolding has_path no_path
  no_path_lem i j hi hj =
      let e = known i j hi hj in
      let b = distance_le_no_path p (bounded ok).ends i j in
      same_test (eqb (cell d i j) 4294967295) (not (ltb (distance p i j) no_path))
      (λ t. let q = eqb→eq (cell d i j) 4294967295 t in
      not_T (ltb (distance p i j) no_path) (λ u. let l = ltb→lt (distance p i j) no_path u in omega arith))
      (λ t. eqb_same {i = cell d i j} {j = 4294967295} (elim (dec_le no_path (distance p i j)) [
        | yes g ↦ omega arith
        | no g ↦ absurd (T_not (ltb (distance p i j) no_path) t (lt→ltb (distance p i j) no_path (omega arith)))
      ]))

  misses_some_lem : (i : ℕ) → i < 64 → misses_some d r i ≡ any_of (λ j. not (has_path p i j)) (required p)
  unfolding misses_some
  misses_some_lem i hi =
      same_test (any_of (has_no_path d r i) (below 64)) (any_of (λ j. not (has_path p i j)) (required p))
      (λ t.
      let x = any_of_at (has_no_path d r i) (below 64) t in
      let l = below_mem x.1 in
      let b = and_parts (get_or r x.0 false) (eqb (cell d i x.0) 4294967295) x.2 in
      any_of_mem (λ j. not (has_path p i j)) (flagged l b.0) (subst T (no_path_lem i x.0 hi l) b.1))
      (λ t.
      let x = any_of_at (λ j. not (has_path p i j)) (required p) t in
      let l = required_below p ok x.1 in
      any_of_mem (has_no_path d r i) (mem_below l)
      (and_both (get_or r x.0 false) (eqb (cell d i x.0) 4294967295) (flag_of x.1) (subst⁻¹ T (no_path_lem i x.0 hi l) x.2)))

  pub cut_off : cuts_off d r ≡ is_cut_off p
  unfolding cuts_off is_cut_off
  cut_off =
      let f : ℕ → Bool = λ i. any_of (λ j. not (has_path p i j)) (required p) in
      same_test (any_of (is_cut d r) (below 64)) (any_of f (required p))
      (λ t.
      let x = any_of_at (is_cut d r) (below 64) t in
      let l = below_mem x.1 in
      let b = and_parts (get_or r x.0 false) (misses_some d r x.0) x.2 in
      any_of_mem f (flagged l b.0) (subst T (misses_some_lem x.0 l) b.1))
      (λ t.
      let x = any_of_at f (required p) t in
      let l = required_below p ok x.1 in
      any_of_mem (is_cut d r) (mem_below l)
      (and_both (get_or r x.0 false) (misses_some d r x.0) (flag_of x.1) (subst⁻¹ T (misses_some_lem x.0 l) x.2)))
