-- Records filled one by one, and read back as arcs.
use Rattle.std.specs.Prelude.{◌≡◌, List, [], ◌∷◌, ◌++◌, map, ℕ, suc, ◌+◌, ◌-◌, ◌<◌, length, get_or, set, replicate}
use Rattle.std.proofs.Common.{sym, ap, ◌∙◌, arith, ext_get_or}
use Rattle.std.proofs.lemmas.List.{map-append, length-map, set_at}
use Rattle.std.proofs.Math.ListN.{get_or-append, get_or-map}
use Rattle.std.proofs.Math.Seq.{append_snoc}
use Rattle.postman.specs.Lists.{below}
use Rattle.postman.specs.Plan.{Arc, Plan}
use Rattle.plan.specs.declared.Arc.{Arc as ArcRecord}
use Rattle.plan.specs.Records.{arc_value, record_of, record_at, records_of, zero_record, plan_value, plan_record}
use Rattle.postman_laws.specs.Laws.Below.{length_map_below, map_below_more, get_d_map_below}

-- One record more, in the place of the first zeros.
pub records-more
    : (f : ℕ → Arc) (k : ℕ) → k < 256 → set (records_of (map f (below k))) k (record_of (f k)) ≡ records_of (map f (below (k + 1)))
unfolding records_of
records-more f k h =
    let done = map record_of (map f (below k)) in
    let n : length (map f (below k)) ≡ k = length_map_below f k in
    let n' : length (map f (below (k + 1))) ≡ k + 1 = length_map_below f (k + 1) in
    let e : 256 - length (map f (below k)) ≡ suc (256 - (k + 1)) = omega arith in
    let long : length done ≡ k = length-map (map f (below k)) record_of ∙ n in
    ap (λ (z : ℕ). set (done ++ replicate z zero_record) k (record_of (f k))) e
    ∙ set_at done zero_record (replicate (256 - (k + 1)) zero_record) (record_of (f k)) k long
    ∙ sym
    (ap (λ (z : ℕ). map record_of (map f (below (k + 1))) ++ replicate (256 - z) zero_record) n'
    ∙ ap (λ (l : List Arc). map record_of l ++ replicate (256 - (k + 1)) zero_record) (map_below_more f k)
    ∙ ap (λ (l : List ArcRecord). l ++ replicate (256 - (k + 1)) zero_record) (map-append record_of (map f (below k)) (f k ∷ []))
    ∙ append_snoc done (record_of (f k)) (replicate (256 - (k + 1)) zero_record))

-- Record k of the arcs is arc k.
record_at_lem : (arcs : List Arc) (k : ℕ) → k < length arcs → record_at (records_of arcs) k ≡ get_or arcs k (arc_value zero_record)
unfolding records_of
record_at_lem arcs k h =
    let l : k < length (map record_of arcs) = rw (length-map arcs record_of) h in
    ap arc_value (get_or-append (map record_of arcs) (replicate (256 - length arcs) zero_record) zero_record k l
    ∙ get_or-map record_of arcs k (arc_value zero_record))

-- A plan by value stands for the plan that it was made from.
pub value_record : (p : Plan) → plan_value (plan_record p) ≡ p
unfolding plan_value plan_record
value_record p = rw same
  where
    f : ℕ → Arc
    f = record_at (records_of p.arcs)

    same : map (record_at (records_of p.arcs)) (below (length p.arcs)) ≡ p.arcs
    same =
        ext_get_or (arc_value zero_record) (map f (below (length p.arcs))) p.arcs (length_map_below f (length p.arcs))
        (λ k h.
        let l : k < length p.arcs = rw (length_map_below f (length p.arcs)) at h in
        get_d_map_below f (length p.arcs) k (arc_value zero_record) l ∙ record_at_lem p.arcs k l)
