-- The branch below a branch is a branch: a link moves from what is to come to what is known, in the state, in the costs and in the names.
use Rattle.std.specs.Prelude.{◌≡◌, refl, ◌≢◌, ℕ, zero, suc, ◌+◌, ◌*◌, ◌-◌, ◌^◌, ◌≤◌, ◌<◌, length, set}
use Rattle.std.proofs.Math.Path.{sym, ap, ap₂, subst⁻¹}
use Rattle.std.proofs.Common.{◌∙◌, subst, length-set}
use Rattle.std.proofs.Math.Logic.{inl, inr}
use mathlib.Core.List.{List, [], ◌∷◌, ◌++◌, map, Memᴰ, append_assoc, map-append, map-map}
use native.Mathlib.Omega.{arith}
use Rattle.postman.specs.Lists.{sum_of, up_from, occurrences, delta}
use Rattle.postman.specs.Plan.{Plan, required_arcs}
use Rattle.postman.specs.Required.{required, required_cost}
use Rattle.postman.specs.Distance.{distance}
use Rattle.postman.specs.Link.{Link}
use Rattle.postman.specs.Component.{component, component_count}
use Rattle.postman.specs.Arborescence.{candidates}
use Rattle.postman.specs.Balancing.{heads as heads-of, tails as tails-of, link_cost}
use Rattle.postman.specs.Steps.{Joins, cell}
use Rattle.postman_laws.specs.Laws.Balancing.{within_heads, within_tails}
use Rattle.postman.specs.Laws.Membership.{up_from_mem, mem_up_from}
use Rattle.postman_laws.specs.Laws.Lists.{map_cong}
use Rattle.residual_search.specs.Step.{State, add, add_all, arcs_of}
use Rattle.balance.specs.Invariant.{Metric, Certified, Counted}
use Rattle.balance.specs.Laws.Arcs.{all_counted}
use Rattle.direct_amounts.specs.Laws.Plan.{balance_counted, balance_room}
use Rattle.small_counts.specs.Recursion.{merged}
use Rattle.small_counts.specs.Matrix.{entries_of, AreFew, AreCounts}
use Rattle.small_counts.specs.Arrival.{renamed}
use Rattle.small_counts.specs.Laws.Matrix.{few_merged}
use Rattle.small_counts.specs.Laws.Recursion.{occurrences_renamed}
use Rattle.branches.specs.declared.branch.Branch.{Branch}
use Rattle.branches.specs.Links.{links_in}
use Rattle.tree_bounds.specs.Branch.{source_by, renamed_by, sources_by, Named}
use Rattle.tree_bounds.specs.Bound.{ArePotentials}
use Rattle.tree_bounds.specs.Prepared.{Prepared}
use Rattle.branches.specs.Branches.{chosen_in, names_in, state_in, IsBranch, CanGoBelow, IsBelow}
use Rattle.tree_bounds.specs.Reducible.{CanReduce}
use Rattle.tree_bounds.specs.Laws.Prepared.{candidate_ends, in_plan, some_component, agrees, metric, required_small}
use Rattle.tree_bounds.specs.Laws.Branch.{still_named, source_lt}

-- ---- links in arrays

links_length : (n : ℕ) (ts hs : List ℕ) → n ≤ length ts → n ≤ length hs → length (links_in n ts hs) ≡ n
unfolding arcs_of
links_length zero ts hs lt lh = refl
links_length (suc n) [] hs lt lh = absurd (omega arith)
links_length (suc n) (t ∷ ts) [] lt lh = absurd (omega arith)
links_length (suc n) (t ∷ ts) (h ∷ hs) lt lh = ap suc (links_length n ts hs (omega arith) (omega arith))

-- one link more, written behind the first n
links_set : (n t h : ℕ) (ts hs : List ℕ) → n < length ts → n < length hs
    → links_in (suc n) (set ts n t) (set hs n h) ≡ links_in n ts hs ++ record { tail = t; head = h } ∷ []
unfolding arcs_of
links_set n t h [] hs lt lh = absurd (omega arith)
links_set n t h (x ∷ ts) [] lt lh = absurd (omega arith)
links_set zero t h (x ∷ ts) (y ∷ hs) lt lh = refl
links_set (suc n) t h (x ∷ ts) (y ∷ hs) lt lh =
    ap (λ (l : List Link). record { tail = x; head = y } ∷ l) (links_set n t h ts hs (omega arith) (omega arith))

cost_last : (p : Plan) (t : List Link) (l : Link) → link_cost p (t ++ l ∷ []) ≡ link_cost p t + distance p l.tail l.head
unfolding link_cost sum_of
cost_last p [] l = omega arith
cost_last p (x ∷ t) l = let h = cost_last p t l in omega arith

-- ---- the branch below

module _ {p : Plan} {table : List (List ℕ)} {vs start source tails heads : List ℕ} {k : ℕ}
    (h : Prepared p table vs start source tails heads k) {f : List ℕ} (b : Branch) (is : IsBranch p table f b) where
  pub chosen_length : length (chosen_in b) ≡ b.a - 1
  chosen_length = let s = is.tails_size in let t = is.heads_size in let m = is.most in let f = h.few in
      links_length (b.a - 1) b.tails b.heads (omega arith) (omega arith)

  pub chosen_short : length (chosen_in b) ≤ 8
  chosen_short = let e = chosen_length in let m = is.most in let f = h.few in omega arith

  pub link_cost_small : (t : List Link) → Joins p t → link_cost p t ≤ length t * 4128705
  unfolding link_cost sum_of
  link_cost_small [] j = omega arith
  link_cost_small (l ∷ t) j =
      let i = j l (mathlib.Core.List.Memᴰ.head refl) in
      let a = (metric h).bound _ _ i.0 i.1 in
      let e = agrees h _ _ i.0 i.1 in
      let r = link_cost_small t (λ x m. j x (mathlib.Core.List.Memᴰ.tail m)) in
      omega arith

  pub fixed_small : b.fixed ≤ 60000000
  fixed_small =
      let e = is.fixed in
      let r = required_small p h.plannable.well_formed in
      let c = link_cost_small (chosen_in b) is.joins in
      let l = chosen_short in
      omega arith

  -- the state is small
  heads_few : length (heads-of p (chosen_in b)) ≤ 356
  heads_few =
      let n = (balance_counted p h.plannable.well_formed h.plannable.connected (cell table) (agrees h) (chosen_in b) is.joins
      (let l = chosen_short in omega arith)).number in
      let r = balance_room p h.plannable.well_formed h.plannable.connected (cell table) (agrees h) (chosen_in b) is.joins
      (let l = chosen_short in omega arith) in
      omega arith

  pub room : b.count ≤ 356
  room = let e = is.counted.number in let l = heads_few in omega arith

  pub balancing_small : b.balancing ≤ 2939637960000
  balancing_small = let c = is.certified.numbers.cheap in let r = room in omega arith

  module _ (more : b.a < k) (l : Link) (m : Memᴰ l (candidates p b.a)) where
    ends : Memᴰ l.tail (required p) × Memᴰ l.head (required p)
    ends = candidate_ends p b.a l m

    -- the reduced cost of a candidate, by any potentials
    pub can_reduce : (pot : List ℕ) → ArePotentials table (required p) pot → CanReduce table pot l.tail l.head
    can_reduce pot f =
        let t = metric h in
        record {
          tail = t.small _ ends.0;
          head = t.small _ ends.1;
          short = t.bound _ _ ends.0 ends.1;
          feasible = f.feasible _ _ ends.0 ends.1;
          low = f.low l.head;
        }

    pub can_go_below : (x : ℕ) → x < 8 → CanGoBelow table vs f b l.tail l.head x k
    can_go_below x small = record {
      one = is.one;
      more = more;
      few = (let e = h.count in let f = h.few in omega arith);
      link = record {
        metric = subst⁻¹ (Metric (cell table)) h.vertices (metric h);
        certified = subst⁻¹ (λ (v : List ℕ). Certified (cell table) v (state_in f b)) h.vertices is.certified;
        room = (let r = room in omega arith);
        tail_in = subst⁻¹ (λ (v : List ℕ). Memᴰ l.tail v) h.vertices ends.0;
        head_in = subst⁻¹ (λ (v : List ℕ). Memᴰ l.head v) h.vertices ends.1;
      };
      name = small;
      fixed_small = (let f = fixed_small in omega arith);
      entries_few = subst⁻¹ (λ n. AreFew b.entries b.a n) h.count is.few;
    }

    module _ (other : source_by p (names_in b) l ≢ b.a) (g : List ℕ) (r : Branch)
        (at : IsBelow table vs f b l.tail l.head (source_by p (names_in b) l) k g r) where
      abbrev x : ℕ
      x = source_by p (names_in b) l

      before : b.a ≡ suc (b.a - 1)
      before = let o = is.one in omega arith

      -- THE LINKS CHOSEN
      pub chosen_more : chosen_in r ≡ chosen_in b ++ l ∷ []
      chosen_more =
          let n = b.a - 1 in
          let o = is.one in
          let mo = is.most in
          let fe = h.few in
          let st = is.tails_size in
          let sh = is.heads_size in
          let e : r.a - 1 ≡ suc n = (let g = at.next in omega arith) in
          ap (λ i. links_in i r.tails r.heads) e ∙ ap₂ (λ (ts hs : List ℕ). links_in (suc n) ts hs) at.tails_are at.heads_are
          ∙ links_set n l.tail l.head b.tails b.heads (omega arith) (omega arith)

      joins_more : Joins p (chosen_in b ++ l ∷ [])
      joins_more y g = elim (mathlib.Core.List.Memᴰ.append_cases (chosen_in b) g) [
        | inl i ↦ is.joins y i
        | inr i ↦ subst⁻¹ (λ (y : Link). Memᴰ y.tail (required p) × Memᴰ y.head (required p))
            (mathlib.Core.List.Memᴰ.eq_of_singleton i) ends
      ]

      one_link : (Certified (cell table) (required p) (state_in g r))
          × Counted (required p) (state_in g r) (heads-of p (chosen_in b) ++ l.head ∷ []) (tails-of p (chosen_in b) ++ l.tail ∷ [])
      unfolding add_all
      one_link =
          let e : state_in g r ≡ add (cell table) (required p) (state_in f b) l.tail l.head =
          at.state_is ∙ ap (λ (v : List ℕ). add (cell table) v (state_in f b) l.tail l.head) h.vertices in
          let m = all_counted (cell table) (required p) (metric h) (l ∷ []) (state_in f b) (heads-of p (chosen_in b))
          (tails-of p (chosen_in b))
          (λ x i. subst⁻¹ (λ (y : Link). Memᴰ y.tail (required p) × Memᴰ y.head (required p))
          (mathlib.Core.List.Memᴰ.eq_of_singleton i) ends)
          (within_heads p (in_plan h) (chosen_in b) is.joins) (within_tails p (in_plan h) (chosen_in b) is.joins) is.certified
          is.counted (let n = heads_few in omega arith) in (
            subst⁻¹ (Certified (cell table) (required p)) e m.0,
            subst⁻¹ (λ (s : State). Counted (required p) s (heads-of p (chosen_in b) ++ l.head ∷ [])
                (tails-of p (chosen_in b) ++ l.tail ∷ [])) e m.1,
          )

      heads_more : heads-of p (chosen_in b) ++ l.head ∷ [] ≡ heads-of p (chosen_in r)
      unfolding heads-of
      heads_more =
          append_assoc (map (λ a. a.head) (required_arcs p)) (map (λ (x : Link). x.head) (chosen_in b)) (l.head ∷ [])
          ∙ ap (λ (xs : List ℕ). map (λ a. a.head) (required_arcs p) ++ xs) (sym (map-append (λ (x : Link). x.head) (chosen_in b) (l ∷ [])))
          ∙ ap (λ (t : List Link). map (λ a. a.head) (required_arcs p) ++ map (λ (x : Link). x.head) t) (sym chosen_more)

      tails_more : tails-of p (chosen_in b) ++ l.tail ∷ [] ≡ tails-of p (chosen_in r)
      unfolding tails-of
      tails_more =
          append_assoc (map (λ a. a.tail) (required_arcs p)) (map (λ (x : Link). x.tail) (chosen_in b)) (l.tail ∷ [])
          ∙ ap (λ (xs : List ℕ). map (λ a. a.tail) (required_arcs p) ++ xs) (sym (map-append (λ (x : Link). x.tail) (chosen_in b) (l ∷ [])))
          ∙ ap (λ (t : List Link). map (λ a. a.tail) (required_arcs p) ++ map (λ (x : Link). x.tail) t) (sym chosen_more)

      fixed_more : r.fixed ≡ required_cost p + link_cost p (chosen_in r)
      fixed_more =
          let a = at.fixed_is in
          let c = is.fixed in
          let d = ap (link_cost p) chosen_more ∙ cost_last p (chosen_in b) l in
          let e = agrees h l.tail l.head ends.0 ends.1 in
          omega arith

      -- the new names
      names_new : (c : ℕ) → c < component_count p → names_in r c ≡ renamed_by (names_in b) b.a x c
      names_new c g = at.names_are c (let f = h.few in omega arith)

      a_is : r.a ≡ suc b.a
      a_is = let g = at.next in omega arith

      named_more : Named p (names_in r) r.a
      named_more c g =
          subst⁻¹ (λ n. Memᴰ (names_in r c) (0 ∷ up_from n (component_count p - n))) a_is
          (subst⁻¹ (λ z. Memᴰ z (0 ∷ up_from (suc b.a) (component_count p - suc b.a))) (names_new c g)
          (still_named p (in_plan h) (some_component h) (names_in b) b.a is.one (let e = h.count in omega arith)
          is.named l m other c g))

      sources_new : (q : ℕ) → sources_by p (names_in r) q ≡ map (renamed b.a x) (sources_by p (names_in b) q)
      sources_new q =
          map_cong (source_by p (names_in r)) (λ y. renamed b.a x (source_by p (names_in b) y)) (candidates p q)
          (λ y g. names_new (component p y.tail) (source_lt p (in_plan h) (some_component h) q y g))
          ∙ sym (map-map (renamed b.a x) (source_by p (names_in b)) (candidates p q))

      entries_more : (q y : ℕ) → r.a ≤ q → q < component_count p → Memᴰ y (0 ∷ up_from r.a (component_count p - r.a))
          → entries_of r.entries q y ≡ occurrences y (sources_by p (names_in r) q)
      unfolding merged
      entries_more q y g c s =
          let few = h.few in
          let e = a_is in
          let n = h.count in
          let o = is.one in
          let i : (y ≢ b.a) × (y < 8) × Memᴰ y (0 ∷ up_from b.a (component_count p - b.a)) = elim (mathlib.Core.List.Memᴰ.cases_cons s) [
            | inl z ↦ ((λ f. omega arith), omega arith, mathlib.Core.List.Memᴰ.head z)
            | inr t ↦ (let u = up_from_mem r.a (component_count p - r.a) t in (
              (λ f. omega arith),
              omega arith,
              mathlib.Core.List.Memᴰ.tail
                  (mem_up_from b.a (component_count p - b.a) (omega arith) (omega arith)),
            ))
          ] in
          let z = is.entries q b.a (omega arith) c
          (mathlib.Core.List.Memᴰ.tail (mem_up_from b.a (component_count p - b.a) (omega arith) (omega arith))) in
          let w = is.entries q y (omega arith) c i.2 in
          (at.entries_are (omega arith)).done q y (omega arith) (omega arith) i.1 ∙ ap₂ (λ u v. u + delta y x * v) w z
          ∙ sym (ap (occurrences y) (sources_new q) ∙ occurrences_renamed b.a x y other i.0 (sources_by p (names_in b) q))

      few_more : AreFew r.entries r.a (component_count p)
      few_more q y lo hi c =
          let e = a_is in
          let n = h.count in
          let f = h.few in
          let m = few_merged b.entries r.entries b.a x k (omega arith) (omega arith)
          (subst⁻¹ (λ n. AreFew b.entries b.a n) h.count is.few) (at.entries_are (omega arith)) in
          subst⁻¹ (λ a. entries_of r.entries q y ≤ 2048 * 2 ^ a) at.next (m q y (omega arith) (omega arith) c)

      -- IT IS A BRANCH
      pub below_branch : (r.a < component_count p → AreCounts r.entries r.a (component_count p) r.counts) → IsBranch p table g r
      below_branch counts = record {
        one = (let e = a_is in omega arith);
        most = (let e = a_is in let n = h.count in omega arith);
        tails_size = ap length at.tails_are ∙ length-set b.tails (b.a - 1) l.tail ∙ is.tails_size;
        heads_size = ap length at.heads_are ∙ length-set b.heads (b.a - 1) l.head ∙ is.heads_size;
        joins = subst⁻¹ (Joins p) chosen_more joins_more;
        certified = one_link.0;
        counted = subst (λ (hs : List ℕ). Counted (required p) (state_in g r) hs (tails-of p (chosen_in r))) heads_more
            (subst (Counted (required p) (state_in g r) (heads-of p (chosen_in b) ++ l.head ∷ [])) tails_more one_link.1);
        fixed = fixed_more;
        named = named_more;
        entries = entries_more;
        few = few_more;
        counts = counts;
      }
