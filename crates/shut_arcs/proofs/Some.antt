-- What a call of `any` says: some element passed, or each one failed.
use Rattle.std.proofs.Common.{◌≡◌, ℕ, ◌<◌, ◌≤◌, ◌/◌, length, get_or, Bool, true, false, ◌&&◌, List, take, sym, ◌∙◌, ap, arith, zero-add, MatchBool}
use Rattle.std.specs.List.{HoldsAt, AllWithin, range_with_len, enumerate_from}
use Rattle.std.proofs.lemmas.List.FromFn.{get_or-range_with_len, length-range_with_len, get_or-enumerate_from, length-enumerate_from}
use Rattle.std.proofs.lemmas.List.{get_or-take, length-take}
use Rattle.postman.specs.Lists.{any_of}
use Rattle.postman.specs.Windows.{Window, Departure, window_in, windows_in, is_shut, is_must_shut}
use Rattle.postman.specs.Plan.{is_required_arc}
use Rattle.plan.specs.declared.Arc.{Arc as ArcRecord}
use Rattle.plan.specs.declared.Plan.{Plan as PlanRecord}
use Rattle.plan.specs.Records.{arc_value, zero_record, plan_value}
use Rattle.shut_arcs.specs.Laws.Shut.{must_shut, must_found, no_must_found}
use Rattle.shut_arcs.specs.Laws.Limits.{window_found, none_found}

module _ {A : Type 0} (Yes No : A → Type 0) (xs : List A) where
  abbrev pub Cases : Bool → Type 0
  Cases r = MatchBool r ((k : ℕ) × (k < length xs) × HoldsAt Yes xs k) (AllWithin No xs 0 (length xs))

  pub by_cases : (b r : Bool) → ((k : ℕ) → k < length xs → HoldsAt Yes xs k → true ≡ b) → (AllWithin No xs 0 (length xs) → false ≡ b) → Cases r → r ≡ b
  by_cases b true found none h = found h.0 h.1 h.2
  by_cases b false found none h = none h

module _ (f : Window → Bool) (numbers : List ℕ) where
  -- the places of the windows
  abbrev pub places : List ℕ
  places = range_with_len 0 (length numbers / 4)

  place : (k : ℕ) → k < length numbers / 4 → f (window_in numbers (get_or places k 0)) ≡ f (window_in numbers k)
  place k l = ap (λ j. f (window_in numbers j)) (get_or-range_with_len 0 (length numbers / 4) k 0 l ∙ zero-add k)

  pub any_window : (r : Bool) → Cases (λ k. f (window_in numbers k) ≡ true) (λ k. f (window_in numbers k) ≡ false) places r → r ≡ any_of f (windows_in numbers)
  any_window r h =
      let n = length numbers / 4 in
      let long = length-range_with_len 0 n in
      by_cases (λ k. f (window_in numbers k) ≡ true) (λ k. f (window_in numbers k) ≡ false) places (any_of f (windows_in numbers)) r
      (λ k l g. let m : k < n = omega arith in window_found f numbers k m (sym (place k m) ∙ g 0))
      (λ g. none_found f numbers (λ k m. sym (place k m) ∙ g k 0 (omega arith) (omega arith))) h

module _ (r : PlanRecord) (windows : List Window) (d : Departure) where
  -- whether arc x.0, whose record is x.1, is a must arc that is shut
  abbrev pub test : ℕ × ArcRecord → Bool
  test x = is_required_arc (arc_value x.1) && is_shut windows d x.0

  -- the arcs of the plan, each with its number
  abbrev pub numbered : List (ℕ × ArcRecord)
  numbered = enumerate_from 0 (take r.m r.arcs)

  arc_test : length numbered ≡ r.m → (k : ℕ) → k < r.m → test (get_or numbered k (0, zero_record)) ≡ must_shut r windows d k
  arc_test long k l =
      let e = get_or-enumerate_from 0 (take r.m r.arcs) k (0, zero_record) (omega (arith, length-enumerate_from 0 (take r.m r.arcs))) in
      let f = get_or-take r.m r.arcs k zero_record l in
      ap test e ∙ ap (λ i. test (i, get_or (take r.m r.arcs) k zero_record)) (zero-add k) ∙ ap (λ a. test (k, a)) f

  pub any_must : length r.arcs ≡ 256 → r.m ≤ 256 → (b : Bool) → Cases (λ x. test x ≡ true) (λ x. test x ≡ false) numbered b
      → b ≡ is_must_shut (plan_value r) windows d
  any_must all few b h =
      let size : length numbered ≡ r.m = omega (arith, length-enumerate_from 0 (take r.m r.arcs), length-take r.m r.arcs) in
      by_cases (λ x. test x ≡ true) (λ x. test x ≡ false) numbered (is_must_shut (plan_value r) windows d) b
      (λ k l g. let m : k < r.m = omega arith in must_found r windows d k m (sym (arc_test size k m) ∙ g (0, zero_record)))
      (λ g. no_must_found r windows d (λ k m. sym (arc_test size k m) ∙ g k (0, zero_record) (omega arith) (omega arith))) h
