-- The root is a branch: nothing is chosen, its state is that of the required arcs with the multipliers as
-- potentials, and every component has its own name.
use Rattle.std.specs.Prelude.{◌≡◌, refl, ℕ, ◌+◌, ◌-◌, ◌≤◌, ◌<◌, length, ℤ, pos}
use Rattle.std.proofs.Common.{sym, ◌∙◌, subst}
use Rattle.std.proofs.Math.Path.{ap, subst⁻¹}
use Rattle.std.proofs.Math.Logic.{inl, inr}
use mathlib.Core.List.Memᴰ
use mathlib.Core.List.{List, [], ◌∷◌, Memᴰ}
use Rattle.std.proofs.Math.Decide.{dec_lt}
use native.Mathlib.Omega.{arith}
use Rattle.std.proofs.Math.ListN.{get_or}
use Rattle.integers.specs.Linear.{z, zl}
use Rattle.postman.specs.Lists.{sum_of, up_from, occurrences}
use Rattle.postman.specs.Plan.{Plan}
use Rattle.postman.specs.Required.{required, required_cost}
use Rattle.postman.specs.Link.{Link}
use Rattle.postman.specs.Component.{component, component_count}
use Rattle.postman.specs.Arborescence.{candidates}
use Rattle.postman.specs.Balancing.{heads as heads-of, tails as tails-of, link_cost}
use Rattle.postman.specs.LagrangianBound.{reduced_cost}
use Rattle.postman.specs.Steps.{Joins, cell}
use Rattle.postman_laws.specs.Laws.Existence.{some_required}
use Rattle.postman_laws.specs.Laws.Required.{number_ends}
use Rattle.postman.specs.Laws.Membership.{get_d_mem, mem_get_d, mem_up_from, up_from_mem}
use Rattle.postman_laws.specs.Laws.Lists.{map_cong}
use Rattle.residual_search.specs.Step.{State, arcs_of}
use Rattle.balance.specs.Invariant.{Certified, Counted}
use Rattle.balance.specs.Laws.Repriced.{repriced}
use Rattle.small_counts.specs.Matrix.{entries_of, AreFew, AreCounts}
use Rattle.branches.specs.declared.branch.Branch.{Branch}
use Rattle.branches.specs.Links.{links_in}
use Rattle.tree_bounds.specs.Branch.{source_by, sources_by, Named}
use Rattle.tree_bounds.specs.Bound.{ArePotentials}
use Rattle.tree_bounds.specs.Prepared.{Prepared}
use Rattle.branches.specs.Branches.{chosen_in, names_in, state_in, IsRoot, AreGiven}
use Rattle.tree_bounds.specs.Reducible.{Spread, AreShifted, CanReduce, CanRest}
use Rattle.tree_bounds.specs.Laws.Prepared.{candidate_ends, in_plan, some_component, agrees, metric, places, link_here, here_mem}
use Rattle.tree_bounds.specs.Laws.Branch.{source_lt}
use Rattle.branches.specs.Laws.Start.{start_certified, start_counted}

-- no links
none : (ts hs : List ℕ) → links_in 0 ts hs ≡ []
unfolding arcs_of
none [] hs = refl
none (t ∷ ts) [] = refl
none (t ∷ ts) (h ∷ hs) = refl

pub no_chosen : (b : Branch) → b.a ≡ 1 → chosen_in b ≡ []
no_chosen b e = ap (λ n. links_in (n - 1) b.tails b.heads) e ∙ none b.tails b.heads

module _ {p : Plan} {table : List (List ℕ)} {vs start source tails heads : List ℕ} {k : ℕ}
    (h : Prepared p table vs start source tails heads k) where
  -- the candidates have reduced costs, by any potentials
  pub can_rest : (pot : List ℕ) → ArePotentials table (required p) pot → (a : ℕ) → 1 ≤ a → a ≤ k → CanRest table pot start tails heads a k
  can_rest pot f a one within = record {
    few = (let e = h.count in let g = h.few in omega arith);
    one = one;
    within = within;
    ascending = λ q l b. h.layout.ascending q b;
    fits = λ q l b. h.layout.fits q b;
    each = λ q l b x c d.
        let o : 1 ≤ q = omega arith in
        let n = places h q o b in
        let i = x - get_or start q 0 in
        let less : i < length (candidates p q) = omega arith in
        let e = h.ends q i o b less in
        let at : get_or start q 0 + i ≡ x = omega arith in
        let ends = candidate_ends p q (link_here h q o b i less) (here_mem h q o b i less) in
        let t = ap (λ y. get_or tails y 0) (sym at) ∙ e.0 in
        let u = ap (λ y. get_or heads y 0) (sym at) ∙ e.1 in
        reducible pot f (subst⁻¹ (λ v. Memᴰ v (required p)) t ends.0) (subst⁻¹ (λ v. Memᴰ v (required p)) u ends.1);
  }
    where
      reducible : (pot : List ℕ) → ArePotentials table (required p) pot → {i j : ℕ} → Memᴰ i (required p) → Memᴰ j (required p)
          → CanReduce table pot i j
      reducible pot f {i} {j} mi mj = record {
        tail = (metric h).small i mi;
        head = (metric h).small j mj;
        short = (metric h).bound i j mi mj;
        feasible = f.feasible i j mi mj;
        low = f.low j;
      }

  -- there is a required vertex
  pub some_vertex : 0 < length (required p)
  some_vertex =
      let r = some_required p h.plannable.some_arc in
      let x = mem_get_d 0 (number_ends p (in_plan h) r.1).0 in
      let b = x.1 in
      omega arith

  module _ {base : State} {u : List ℤ} {r : ℕ} {entries : List ℕ} (g : AreGiven p table base u r entries) where
    abbrev mu : ℕ → ℤ
    mu i = get_or u i (pos 0)

    first : Memᴰ (get_or vs 0 0) (required p)
    first = subst⁻¹ (λ (v : List ℕ). Memᴰ (get_or v 0 0) (required p)) h.vertices (get_d_mem (required p) 0 0 some_vertex)

    pub some_place : 1 ≤ length vs
    some_place = subst⁻¹ (λ (v : List ℕ). 1 ≤ length v) h.vertices (let s = some_vertex in omega arith)

    -- the multipliers are not far apart
    pub spread : (v : ℕ) → Memᴰ v (required p) → Spread (mu v) (mu (get_or vs 0 0))
    unfolding reduced_cost
    spread v m =
        let f = get_or vs 0 0 in
        let a = g.multipliers.feasible f v first m in
        let b = g.multipliers.feasible v f m first in
        let c = (metric h).bound f v first m in
        let d = (metric h).bound v f m first in
        let e = agrees h f v first m in
        let i = agrees h v f m first in
        record { above = simp zl (omega (arith, z, simp zl at a)); below = simp zl (omega (arith, z, simp zl at b)) }

    pub can_shift : (i : ℕ) → i < length vs → (get_or vs i 0 < 64) × Spread (mu (get_or vs i 0)) (mu (get_or vs 0 0))
    can_shift i l =
        let m = subst (λ (v : List ℕ). Memᴰ (get_or vs i 0) v) h.vertices (get_d_mem vs 0 i l) in
        ((metric h).small _ m, spread _ m)

    module _ (w : List ℕ) (s : AreShifted u vs (length vs) w) where
      nothing : Joins p []
      nothing l m = absurd (Memᴰ.not-nil m)

      -- what the root's fields are
      pub record AreFields (b : Branch) : Type 0 where
        pub nothing_chosen : b.a ≡ 1
        pub tails_size : length b.tails ≡ 8
        pub heads_size : length b.heads ≡ 8
        pub state_is : state_in base.amounts b ≡ repriced base w
        pub fixed_is : b.fixed ≡ r
        pub names_are : (c : ℕ) → c < 8 → names_in b c ≡ c
        pub entries_are : b.entries ≡ entries
        pub counts_are : 1 < k → AreCounts entries 1 k b.counts

      module _ (b : Branch) (f : AreFields b) where
        no_links : chosen_in b ≡ []
        no_links = no_chosen b f.nothing_chosen

        named : Named p (names_in b) b.a
        named c l =
            let few = h.few in
            subst⁻¹ (λ n. Memᴰ (names_in b c) (0 ∷ up_from n (component_count p - n))) f.nothing_chosen
            (subst⁻¹ (λ x. Memᴰ x (0 ∷ up_from 1 (component_count p - 1))) (f.names_are c (omega arith)) (elim (dec_lt 0 c) [
              | yes o ↦ Memᴰ.tail (mem_up_from 1 (component_count p - 1) (omega arith) (omega arith))
              | no o ↦ Memᴰ.head {x = 0} (omega arith)
            ]))

        sources_same : (q : ℕ) → sources_by p (λ c. c) q ≡ sources_by p (names_in b) q
        sources_same q =
            map_cong (source_by p (λ c. c)) (source_by p (names_in b)) (candidates p q) (λ l m.
            let few = h.few in
            let s = source_lt p (in_plan h) (some_component h) q l m in
            sym (f.names_are (component p l.tail) (omega arith)))

        -- IT IS A BRANCH
        pub root_branch : IsRoot p table base.amounts b
        unfolding link_cost sum_of
        root_branch = record {
          branch = record {
            one = (let e = f.nothing_chosen in omega arith);
            most = (let e = f.nothing_chosen in let s = some_component h in omega arith);
            tails_size = f.tails_size;
            heads_size = f.heads_size;
            joins = subst⁻¹ (Joins p) no_links nothing;
            certified = subst⁻¹ (Certified (cell table) (required p)) f.state_is (start_certified h g w s);
            counted = subst⁻¹ (λ (t : List Link). Counted (required p) (state_in base.amounts b) (heads-of p t) (tails-of p t)) no_links
                (subst⁻¹ (λ (s : State). Counted (required p) s (heads-of p []) (tails-of p [])) f.state_is (start_counted h g w s));
            fixed = f.fixed_is ∙ g.required_cost_holds ∙ (let e : required_cost p ≡ required_cost p + 0 = omega arith in e)
                ∙ ap (λ (t : List Link). required_cost p + link_cost p t) (sym no_links);
            named = named;
            entries = λ q x l c m.
                let e = f.nothing_chosen in
                let few = h.few in
                ap (λ (v : List ℕ). entries_of v q x) f.entries_are ∙ g.entries_are q x (omega arith) c (small x m)
                ∙ ap (occurrences x) (sources_same q);
            few = subst⁻¹ (λ (v : List ℕ). AreFew v b.a (component_count p)) f.entries_are
                (subst⁻¹ (λ n. AreFew entries n (component_count p)) f.nothing_chosen g.few);
            counts = λ l. subst⁻¹ (λ (v : List ℕ). AreCounts v b.a (component_count p) b.counts) f.entries_are
                (subst⁻¹ (λ n. AreCounts entries n (component_count p) b.counts) f.nothing_chosen
                (subst (λ n. AreCounts entries 1 n b.counts) h.count
                (f.counts_are (let e = f.nothing_chosen in let n = h.count in omega arith))));
          };
          nothing = f.nothing_chosen;
          names_are = f.names_are;
        }
          where
            small : (x : ℕ) → Memᴰ x (0 ∷ up_from b.a (component_count p - b.a)) → x < 8
            small x m = elim (Memᴰ.cases_cons m) [
              | inl e ↦ omega arith
              | inr t ↦ (let i = up_from_mem b.a (component_count p - b.a) t in let few = h.few in let e = f.nothing_chosen in
                  omega arith)
            ]
