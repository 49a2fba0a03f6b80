-- Shut arcs. The tests of one window, one after the other; a must arc that is shut was found, or each arc was looked at; and records that
-- hold the arcs of the plan at a departure stand for that plan.
use Rattle.std.specs.Prelude.{◌≡◌, Bool, ◌&&◌, ◌≢◌, List, ℕ, ◌<◌, ◌≤◌, ltb}
use Rattle.std.proofs.Math.Path.{refl, subst}
use Rattle.std.proofs.Common.{sym, ap, ◌∙◌}
use Rattle.std.proofs.Math.Bool.{true, false}
use native.Mathlib.Omega.{arith}
use borrow.Author.Tests.{le-leb, lt-leb, eq-eqb, ne_eqb}
use Rattle.std.proofs.Math.Dec.{T}
use Rattle.postman.specs.Lists.{any_of}
use Rattle.postman.specs.Plan.{Arc, is_required_arc, required_numbers}
use Rattle.postman.specs.Windows.{Window, Departure, shuts, is_shut, closed_if, plan_at, is_must_shut}
use Rattle.postman.specs.Laws.Tests.{same_test, of_true, and_both, and_parts}
use Rattle.postman.specs.Laws.Membership.{any_of_mem, any_of_at}
use Rattle.postman_laws.specs.Laws.Required.{numbers_mem, mem_numbers}
use Rattle.postman_laws.specs.Laws.Windows.{at_length, at_arc}
use Rattle.plan.specs.declared.Arc.{Arc as ArcRecord}
use Rattle.plan.specs.declared.Plan.{Plan as PlanRecord}
use Rattle.plan.specs.Records.{record_of, record_at, plan_value}
use Rattle.plan.specs.Laws.Made.{HoldMade, made_plan}
use Rattle.plan.specs.Laws.Records.{plan_length, plan_arc}

-- ---- one window

module _ (d : Departure) (k : ℕ) (w : Window) where
  pub other_arc : w.arc ≢ k → false ≡ shuts d k w
  unfolding shuts
  other_arc h = let e = ne_eqb w.arc k h in rw e refl

  module _ (arc : w.arc ≡ k) where
    pub other_day : w.weekday ≢ d.weekday → false ≡ shuts d k w
    unfolding shuts
    other_day h = let x = eq-eqb w.arc k arc in let e = ne_eqb w.weekday d.weekday h in rw (x, e) refl

    module _ (day : w.weekday ≡ d.weekday) where
      pub too_early : d.minute < w.from → false ≡ shuts d k w
      unfolding shuts
      too_early h = let x = eq-eqb w.arc k arc in let y = eq-eqb w.weekday d.weekday day in
          let e = lt-leb w.from d.minute h in rw (x, y, e) refl

      pub by_end : w.from ≤ d.minute → ltb d.minute w.to ≡ shuts d k w
      unfolding shuts
      by_end h = let x = eq-eqb w.arc k arc in let y = eq-eqb w.weekday d.weekday day in let e = le-leb w.from d.minute h in
          rw (x, y, e) refl

pub ruleset of_window = (other_arc, other_day, too_early, by_end)

-- ---- one arc of the plan at a departure

pub closed_as : (a : Arc) (b c : Bool) (x : ArcRecord) → x ≡ record_of (closed_if b a) → b ≡ c → x ≡ record_of (closed_if c a)
closed_as a b c x e f = e ∙ ap (λ (b : Bool). record_of (closed_if b a)) f

-- ---- must arcs that are shut

pub both : (b s x : Bool) → b ≡ true → x ≡ s → x ≡ (b && s)
both b s x e f = rw e f

pub not_both : (b s : Bool) → b ≡ false → false ≡ (b && s)
not_both b s e = rw e refl

module _ (r : PlanRecord) (windows : List Window) (d : Departure) where
  abbrev pub must_shut : ℕ → Bool
  must_shut k = is_required_arc (record_at r.arcs k) && is_shut windows d k

  pub must_found : (k : ℕ) → k < r.m → must_shut k ≡ true → true ≡ is_must_shut (plan_value r) windows d
  unfolding is_must_shut
  must_found k l e =
      let b = and_parts (is_required_arc (record_at r.arcs k)) (is_shut windows d k) (of_true e) in
      let n = plan_length r in
      let m = mem_numbers (plan_value r)
      (record { number = omega arith; must = subst T (ap is_required_arc (sym (plan_arc r k l))) b.0 }) in
      same_test true (any_of (is_shut windows d) (required_numbers (plan_value r))) (λ u. any_of_mem (is_shut windows d) m b.1) (λ u. tt)

  pub no_must_found : ((k : ℕ) → k < r.m → must_shut k ≡ false) → false ≡ is_must_shut (plan_value r) windows d
  unfolding is_must_shut
  no_must_found h =
      same_test false (any_of (is_shut windows d) (required_numbers (plan_value r))) (λ u. absurd u)
      (λ u.
      let a = any_of_at (is_shut windows d) (required_numbers (plan_value r)) u in
      let n = numbers_mem (plan_value r) a.1 in
      let e = plan_length r in
      let i = n.number in
      let l : a.0 < r.m = omega arith in
      subst T (h a.0 l)
      (and_both (is_required_arc (record_at r.arcs a.0)) (is_shut windows d a.0)
      (subst T (ap is_required_arc (plan_arc r a.0 l)) n.must) a.2))

  -- ---- the plan at a departure

  -- each arc, closed where it is shut
  abbrev pub shut_arc : ℕ → Arc → Arc
  shut_arc k = closed_if (is_shut windows d k)

  at_vertices : (plan_at (plan_value r) windows d).n ≡ (plan_value r).n
  unfolding plan_at
  at_vertices = refl

  pub plan_shut : (arcs : List ArcRecord) (j : ℕ) → HoldMade r shut_arc arcs j → j ≡ r.m
      → plan_value (record { n = r.n; m = r.m; arcs = arcs }) ≡ plan_at (plan_value r) windows d
  plan_shut = made_plan r shut_arc (plan_at (plan_value r) windows d) at_vertices (at_length (plan_value r) windows d)
      (λ k l. at_arc (plan_value r) windows d k)
