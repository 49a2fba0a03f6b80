-- What a call of `any` over the marks and the arcs says: some mark is bad, or each one is not.
use Rattle.std.proofs.Common.{◌≡◌, ℕ, ◌<◌, ◌≤◌, length, get_or, Bool, true, false, List, take, sym, ◌∙◌, ap, arith, MatchBool}
use Rattle.std.specs.List.{HoldsAt, AllWithin, zip}
use Rattle.std.proofs.lemmas.List.{get_or-take, length-take}
use Rattle.std.proofs.lemmas.Slice.Zip.{get_or-zip, length-zip}
use Rattle.postman.specs.Marks.{is_bad_mark, has_bad_mark}
use Rattle.plan.specs.declared.Arc.{Arc as ArcRecord}
use Rattle.plan.specs.declared.Plan.{Plan as PlanRecord}
use Rattle.plan.specs.Records.{arc_value, zero_record, plan_value}
use Rattle.car_marks.specs.Laws.Marks.{bad_mark, bad_found, none_found}

module _ (r : PlanRecord) (marks : List ℕ) where
  -- whether the mark x.0 is bad at an arc whose record is x.1
  abbrev pub test : ℕ × ArcRecord → Bool
  test x = is_bad_mark x.0 (arc_value x.1)

  -- the marks, each with its arc
  abbrev pub pairs : List (ℕ × ArcRecord)
  pairs = zip marks (take r.m r.arcs)

  abbrev pub Cases : Bool → Type 0
  Cases b = MatchBool b ((k : ℕ) × (k < length pairs) × HoldsAt (λ x. test x ≡ true) pairs k) (AllWithin (λ x. test x ≡ false) pairs 0 (length pairs))

  module _ (all : length r.arcs ≡ 256) (few : r.m ≤ 256) (long : length marks ≡ r.m) where
    size : length pairs ≡ r.m
    size = omega (arith, length-zip marks (take r.m r.arcs), length-take r.m r.arcs)

    mark_test : (k : ℕ) → k < r.m → test (get_or pairs k (0, zero_record)) ≡ bad_mark r marks k
    mark_test k l =
        let e = get_or-zip marks (take r.m r.arcs) k (0, zero_record) (omega arith) (omega (arith, length-take r.m r.arcs)) in
        ap test e ∙ ap (λ a. test (get_or marks k 0, a)) (get_or-take r.m r.arcs k zero_record l)

    pub any_bad : (b : Bool) → Cases b → b ≡ has_bad_mark (plan_value r) marks
    any_bad true h = let e = size in let m : h.0 < r.m = omega arith in bad_found r marks h.0 m (sym (mark_test h.0 m) ∙ h.2 (0, zero_record))
    any_bad false h =
        none_found r marks long (λ k m. let e = size in sym (mark_test k m) ∙ h k (0, zero_record) (omega arith) (omega arith))
