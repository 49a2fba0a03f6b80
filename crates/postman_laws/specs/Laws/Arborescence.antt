-- The list of arborescences holds just the lists that are arborescences by document 01's words: one candidate of each component, by what
-- `choices` and `select` hold; and going back arrives in k steps if it arrives at all.
use Rattle.std.proofs.Math.Path.{refl, subst⁻¹}
use Rattle.std.proofs.Common.{subst, one-add, arith}
use Rattle.std.proofs.Math.Bool.{not}
use Rattle.std.specs.Prelude.{◌&&◌}
use mathlib.Core.List.{List, map, Memᴰ}
use Prim.Native.Nat.{ℕ, zero, suc, ◌-◌, ◌<◌}
use Rattle.std.proofs.Math.Dec.{eqb, eqb→eq, not_T}
use Rattle.postman.specs.Lists.{below, up_from, choices, iterate}
use Rattle.postman.specs.Plan.{Plan}
use Rattle.postman.specs.Required.{required}
use Rattle.postman.specs.Link.{Link, links}
use Rattle.postman.specs.Component.{component, component_count}
use Rattle.postman.specs.Arborescence.{link_at, parent, Enters, IsArborescence, candidates, arrives, arborescences}
use Rattle.postman.specs.Laws.Tests.{and_both, and_parts, eqb_same, eqb_other}
use Rattle.postman.specs.Laws.Membership.{mem_select, select_mem, all_of_mem, all_of_at, mem_below, below_mem, mem_choices, choices_mem, mem_get_d}
use Rattle.postman_laws.specs.Laws.Distance.{InPlan}
use Rattle.postman_laws.specs.Laws.Component.{component_lt}
use Rattle.postman_laws.specs.Laws.Link.{link_ends}
use Rattle.postman_laws.specs.Laws.Iteration.{settle}
use Rattle.postman.specs.Steps.{Joins, no_link}

module _ (p : Plan) (q : ℕ) {l : Link} where
  pub candidates_mem : Memᴰ l (candidates p q) → Enters p q l
  unfolding candidates
  candidates_mem m =
      let s = select_mem (λ l. eqb (component p l.head) q && not (eqb (component p l.tail) q)) (links p) m in
      let b = and_parts (eqb (component p l.head) q) (not (eqb (component p l.tail) q)) s.1 in
      record { is_link_holds = s.0; head = eqb→eq (component p l.head) q b.0; tail = eqb_other b.1 }

  pub mem_candidates : Enters p q l → Memᴰ l (candidates p q)
  unfolding candidates
  mem_candidates e =
      mem_select (λ l. eqb (component p l.head) q && not (eqb (component p l.tail) q)) e.is_link_holds
      (and_both (eqb (component p l.head) q) (not (eqb (component p l.tail) q)) (eqb_same e.head)
      (not_T (eqb (component p l.tail) q) (λ u. e.tail (eqb→eq (component p l.tail) q u))))

module _ (p : Plan) {t : List Link} where
  pub arborescences_mem : Memᴰ t (arborescences p) → IsArborescence p t
  unfolding arborescences arrives
  arborescences_mem m =
      let k = component_count p in
      let s = select_mem (arrives p) (choices (map (candidates p) (up_from 1 (k - 1)))) m in
      let c = choices_mem no_link (candidates p) 1 (k - 1) s.0 in
      let n = c.0 in
      record {
        size = n;
        enters = λ q l. candidates_mem p (suc q) (subst (λ z. Memᴰ (link_at t q) (candidates p z)) (one-add q) (c.1 q (omega arith)));
        back = λ q l. (k, eqb→eq (iterate k (parent p t) q) 0 (all_of_at (λ q. eqb (iterate k (parent p t) q) 0) (mem_below l) s.1));
      }

  -- the links of an arborescence join required vertices
  pub joins : IsArborescence p t → Joins p t
  joins h l m =
      let x = mem_get_d no_link m in
      subst (λ (z : Link). Memᴰ z.tail (required p) × Memᴰ z.head (required p)) x.2
      (link_ends p (h.enters x.0 x.1).is_link_holds)

  module _ (ok : InPlan p) where
    parent_lt : IsArborescence p t → (q : ℕ) → q < component_count p → parent p t q < component_count p
    unfolding parent
    parent_lt h zero l = l
    parent_lt h (suc q) l = let n = h.size in component_lt p ok (link_ends p (h.enters q (omega arith)).is_link_holds).0

    pub mem_arborescences : IsArborescence p t → Memᴰ t (arborescences p)
    unfolding arborescences arrives parent
    mem_arborescences h =
        let k = component_count p in
        let n = h.size in
        mem_select (arrives p)
        (mem_choices no_link (candidates p) 1 (k - 1) t n
        (λ q l. subst⁻¹ (λ z. Memᴰ (link_at t q) (candidates p z)) (one-add q) (mem_candidates p (suc q) (h.enters q (omega arith)))))
        (all_of_mem (λ q. eqb (iterate k (parent p t) q) 0) (below k) (λ q m.
        let b = h.back q (below_mem m) in
        eqb_same (settle k (parent p t) (parent_lt h) b.0 q refl (below_mem m) b.1)))
