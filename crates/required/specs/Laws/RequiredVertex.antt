-- A vertex is required where some required arc touches it, and then it is one of the list of required vertices.
use Rattle.std.specs.Prelude.{◌≡◌, Bool, ◌&&◌, ◌||◌, ℕ, ◌<◌, length, take}
use Rattle.std.specs.List.{list_any}
use Rattle.std.proofs.Math.Path.{refl, sym, ap, subst}
use Rattle.std.proofs.lemmas.List.{length-take, get_or_default}
use Rattle.std.proofs.lemmas.List.Folds.{Any-from_list_any, list_any_at}
use Rattle.std.proofs.Common.{◌∙◌, arith, eqb→eq}
use Rattle.std.proofs.Math.Logic.{inl, inr}
use Rattle.std.proofs.Math.Bool.{true, false}
use mathlib.Core.List.Memᴰ
use mathlib.Core.List.{Memᴰ}
use Rattle.std.proofs.Math.Dec.{T, eqb}
use Rattle.postman.specs.Lists.{select, below}
use Rattle.postman.specs.Plan.{Arc, Plan, is_required_arc, arc_at, required_arcs, WellFormed}
use Rattle.postman.specs.Required.{is_required, required}
use Rattle.postman.specs.Laws.Tests.{and_parts, or_cases, is_true}
use Rattle.postman.specs.Laws.Membership.{mem_select, select_mem, get_d_mem, mem_get_d, any_of_at}
use Rattle.postman_laws.specs.Laws.Distance.{bounded}
use Rattle.postman_laws.specs.Laws.Required.{required_ends_lem}
use Rattle.plan.specs.declared.Plan.{Plan as PlanRecord}
use Rattle.plan.specs.Records.{plan_value, arc_value, record_at, zero_record}
use Rattle.plan.specs.Laws.Records.{plan_arc, plan_length, record_arcs, walked_below, walked_arc}
use Rattle.required.specs.Laws.Search.{any_some, any_none}

-- the arc is required, and v one of its ends
abbrev pub touches : ℕ → Arc → Bool
touches v a = is_required_arc a && (eqb a.tail v || eqb a.head v)

module _ (r : PlanRecord) (v : ℕ) where
  pub required_some : (k : ℕ) → k < r.m → touches v (record_at r.arcs k) ≡ true → true ≡ is_required (plan_value r) v
  unfolding is_required required_arcs
  required_some k l e =
      let n = plan_length r in
      let a : T (touches v (arc_at (plan_value r).arcs k)) = rw (plan_arc r k l, e) tt in
      let b = and_parts (is_required_arc (arc_at (plan_value r).arcs k)) _ a in
      sym (any_some (λ a. eqb a.tail v || eqb a.head v)
      (mem_select is_required_arc (get_d_mem (plan_value r).arcs _ k (omega arith)) b.0) (is_true b.1))

  pub required_none : ((k : ℕ) → k < r.m → touches v (record_at r.arcs k) ≡ false) → false ≡ is_required (plan_value r) v
  unfolding is_required required_arcs
  required_none h = sym (any_none (λ a. eqb a.tail v || eqb a.head v) (select is_required_arc (plan_value r).arcs) (λ a m.
      let n = plan_length r in
      let s = select_mem is_required_arc (plan_value r).arcs m in
      let x = mem_get_d _ s.0 in
      let k = x.1 in
      let e : touches v a ≡ false =
      subst (λ (b : Arc). touches v b ≡ false) (sym (plan_arc r x.0 (omega arith)) ∙ x.2) (h x.0 (omega arith)) in
      let o : is_required_arc a ≡ true = is_true s.1 in
      rw o at e))

-- the same of the first m records, gone over one after the other
same_answer : (a b : Bool) → (a ≡ true → true ≡ b) → (a ≡ false → false ≡ b) → a ≡ b
same_answer true b f g = f refl
same_answer false b f g = g refl

not_true : (b : Bool) → (b ≡ true → ⊥) → b ≡ false
not_true true f = absurd (f refl)
not_true false f = refl

module _ (r : PlanRecord) (ok : WellFormed (plan_value r)) (v : ℕ) (long : length r.arcs ≡ 256) (n : ℕ) (e : n ≡ r.m) where
  pub required_any : list_any (λ a. touches v (arc_value a)) (take n r.arcs) ≡ is_required (plan_value r) v
  required_any =
      let m = record_arcs r ok in
      same_answer _ _ (λ q.
      let w = Any-from_list_any (λ a. touches v (arc_value a)) (take n r.arcs) q in
      required_some r v w.0 (walked_below r ok n e w.0 w.2)
      (ap (touches v)
      (sym (walked_arc r ok n e w.0 w.2) ∙ ap arc_value (get_or_default (take n r.arcs) w.0 zero_record w.1 w.2 ∙ w.3))
      ∙ w.4))
      (λ q. required_none r v (λ k l.
      let g : k < length (take n r.arcs) = omega (arith, length-take n r.arcs) in
      not_true _ (λ t.
      let u = ap (touches v) (walked_arc r ok n e k g) ∙ t in
      let a = list_any_at (λ a. touches v (arc_value a)) (take n r.arcs) k zero_record g u in
      cc)))

module _ (p : Plan) (ok : WellFormed p) where
  pub required_of : {v : ℕ} → T (is_required p v) → Memᴰ v (required p)
  unfolding is_required
  required_of {v} t =
      let r = any_of_at (λ a. eqb a.tail v || eqb a.head v) (required_arcs p) t in
      let e = required_ends_lem p (bounded ok).ends r.1 in
      elim (or_cases (eqb r.0.tail v) (eqb r.0.head v) r.2) [
        | inl u ↦ Memᴰ.cast (sym (eqb→eq _ v u)) e.0
        | inr u ↦ Memᴰ.cast (sym (eqb→eq _ v u)) e.1
      ]

  pub of_required : {v : ℕ} → Memᴰ v (required p) → T (is_required p v)
  unfolding required
  of_required m = (select_mem (is_required p) (below p.n) m).1
