-- A plan by value has as many arcs as its field m says, and arc k is that of record k.
use Rattle.std.specs.Prelude.{◌≡◌, refl, [], ◌∷◌, ◌++◌, ℕ, ◌+◌, ◌≤◌, ◌<◌, length, get_or, take}
use Rattle.std.proofs.Common.{sym, ap, ◌∙◌, subst, zero-add, add-one, arith, take-suc, take_all}
use Rattle.std.proofs.lemmas.List.{length-map, length-take, get_or-take}
use Rattle.postman.specs.Lists.{below}
use Rattle.postman.specs.Plan.{Arc, arc_at, IsArc, WellFormed}
use Rattle.postman.specs.Laws.Membership.{length_below, get_d_mem, mem_get_d, get_d_map_up_from}
use Rattle.plan.specs.declared.Plan.{Plan as PlanRecord}
use Rattle.plan.specs.Records.{plan_value, arc_value, record_at, zero_record}

pub plan_length : (r : PlanRecord) → length (plan_value r).arcs ≡ r.m
unfolding plan_value
plan_length r = length-map (below r.m) (record_at r.arcs) ∙ length_below r.m

pub plan_arc : (r : PlanRecord) (k : ℕ) → k < r.m → arc_at (plan_value r).arcs k ≡ record_at r.arcs k
unfolding plan_value below
plan_arc r k l = get_d_map_up_from (record_at r.arcs) 0 r.m k _ l ∙ ap (record_at r.arcs) (zero-add k)

pub plan_vertices : (r : PlanRecord) → (plan_value r).n ≡ r.n
unfolding plan_value
plan_vertices r = refl

-- ---- what a well_formed plan says of its record

module _ (r : PlanRecord) (ok : WellFormed (plan_value r)) where
  pub record_arcs : r.m ≤ 256
  record_arcs = let e = plan_length r in let h = ok.arc_count_holds in omega arith

  pub record_vertices : (1 ≤ r.n) × (r.n ≤ 64)
  record_vertices = let e = plan_vertices r in let g = ok.some_vertex in let h = ok.vertices in (omega arith, omega arith)

  pub record_arc : (k : ℕ) → k < r.m → IsArc r.n (record_at r.arcs k)
  record_arc k l =
      let e = plan_length r in
      subst (λ (a : Arc). IsArc r.n a) (plan_arc r k l)
      (rw (plan_vertices r) at (ok.each (arc_at (plan_value r).arcs k) (get_d_mem (plan_value r).arcs _ k (omega arith))))

  -- the ends of an arc are below 64
  pub record_ends : (k : ℕ) → k < r.m → ((record_at r.arcs k).tail < 64) × ((record_at r.arcs k).head < 64)
  record_ends k l = let a = record_arc k l in let t = a.tail_in in let h = a.head_in in let n = record_vertices.1 in
      (omega arith, omega arith)

  -- the arcs before the (k + 1)th
  pub arcs_more : (k : ℕ) → k < r.m → take (k + 1) (plan_value r).arcs ≡ take k (plan_value r).arcs ++ record_at r.arcs k ∷ []
  arcs_more k l =
      let e = plan_length r in
      let h : k < length (plan_value r).arcs = omega arith in
      rw add-one (take-suc (plan_value r).arcs k _ h ∙ ap (λ (a : Arc). take k (plan_value r).arcs ++ a ∷ []) (plan_arc r k l))

  pub arcs_all : take r.m (plan_value r).arcs ≡ (plan_value r).arcs
  arcs_all = let e = plan_length r in take_all r.m (plan_value r).arcs (omega arith)

-- and the other way round: what the limits say of its record makes a plan well formed
pub well_formed : (r : PlanRecord) → 1 ≤ r.n → r.n ≤ 64 → 1 ≤ r.m → r.m ≤ 256
    → ((k : ℕ) → k < r.m → IsArc r.n (record_at r.arcs k)) → WellFormed (plan_value r)
well_formed r a b c d h =
    let e = plan_length r in
    let n = plan_vertices r in
    record {
      some_vertex = omega arith;
      vertices = omega arith;
      some_arc = omega arith;
      arc_count_holds = omega arith;
      each = λ x m.
          let k = mem_get_d _ m in
          let l = k.1 in
          rw n (subst (λ (y : Arc). IsArc r.n y) (sym (plan_arc r k.0 (omega arith)) ∙ k.2) (h k.0 (omega arith)));
    }

-- ---- the first m records, gone over one after the other
module _ (r : PlanRecord) (ok : WellFormed (plan_value r)) (n : ℕ) (e : n ≡ r.m) where
  module _ (k : ℕ) (l : k < length (take n r.arcs)) where
    pub walked_below : k < r.m
    walked_below = omega (arith, length-take n r.arcs)

    pub walked_record : get_or (take n r.arcs) k zero_record ≡ get_or r.arcs k zero_record
    walked_record = get_or-take n r.arcs k zero_record (omega (arith, walked_below))

    pub walked_arc : arc_value (get_or (take n r.arcs) k zero_record) ≡ record_at r.arcs k
    walked_arc = ap arc_value walked_record

    pub walked_ends : ((get_or (take n r.arcs) k zero_record).tail < 64) × ((get_or (take n r.arcs) k zero_record).head < 64)
    walked_ends = rw walked_record (record_ends r ok k walked_below)

  -- the last is gone over
  pub walked_all : (k : ℕ) → length r.arcs ≡ 256 → k ≤ length (take n r.arcs) → length (take n r.arcs) ≤ k → k ≡ r.m
  walked_all k long a b = omega (arith, length-take n r.arcs, record_arcs r ok)
