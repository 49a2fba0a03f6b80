-- A branch is gone through one candidate of component a after the other. The trees behind a candidate are those of the branch below, which
-- is gone into, or passed over: they are skipped, or none is left to be tried, or the bound says that none of them costs less than the best
-- so far. A count that is capped stands for more trees than are left.
use Rattle.std.specs.Prelude.{◌≡◌, ◌≢◌, ◌⊎◌, Bool, length, take, ltb}
use Rattle.std.proofs.Math.Path.{refl, sym, ap, ap₂, subst⁻¹}
use Rattle.std.proofs.Common.{◌∙◌, subst, add-one, le-leb, ne_eqb, lt-ltb, take-suc, take_all}
use Rattle.std.proofs.Math.Logic.{inl, inr}
use Rattle.std.proofs.Math.Bool.{true, false, cond}
use mathlib.Core.List.Memᴰ
use mathlib.Core.List.{List, [], ◌∷◌, ◌++◌, map, flat_map, append_assoc, append-nil, Memᴰ, map-append, map-map}
use Prim.Native.Nat.{ℕ, suc, ◌+◌, ◌*◌, ◌-◌, ◌≤◌, ◌<◌, min}
use Rattle.std.proofs.Math.Decide.{ℕ_discrete, dec_le, dec_lt}
use native.Mathlib.Omega.{arith}
use Rattle.std.proofs.lemmas.Bool.{lt-leb}
use Rattle.std.proofs.Math.ListN.{get_or, length-map}
use Rattle.postman_laws.specs.Laws.Contradiction.{zero_is_one}
use Rattle.postman.specs.Lists.{up_from, delta}
use Rattle.postman.specs.Plan.{Plan, required_arcs}
use Rattle.postman.specs.Required.{required}
use Rattle.postman.specs.Link.{Link}
use Rattle.postman.specs.Component.{component, component_count}
use Rattle.postman.specs.Arborescence.{link_at, candidates}
use Rattle.postman.specs.Balancing.{heads as heads-of, tails as tails-of, sum_over, completion_cost}
use Rattle.postman_laws.specs.Laws.Sum.{sum_append}
use Rattle.postman.specs.Laws.Membership.{map_mem, mem_map, select_mem, up_from_mem, mem_up_from}
use Rattle.postman_laws.specs.Laws.Occurrences.{occurrences_of_mem}
use Rattle.postman_laws.specs.Laws.Lists.{map_cong, flat_map_append}
use Rattle.postman.specs.Steps.{cell}
use Rattle.residual_search.specs.Step.{State, add}
use Rattle.direct_amounts.specs.Laws.Plan.{certified_least}
use Rattle.small_counts.specs.Recursion.{merged, count_trees}
use Rattle.small_counts.specs.Matrix.{entries_of, cap, AreCounts}
use Rattle.small_counts.specs.Laws.Recursion.{entries_in, count_cong}
use Rattle.branches.specs.declared.branch.Branch.{Branch}
use Rattle.branches.specs.declared.candidate.Candidate.{Candidate}
use Rattle.tree_bounds.specs.declared.pricing.Pricing.{Pricing}
use Rattle.branches.specs.declared.progress.Progress.{Progress}
use Rattle.branches.specs.Links.{links_in}
use Rattle.tree_bounds.specs.Branch.{source_by, renamed_by, sources_by, left_choices, completions, entered}
use Rattle.branches.specs.Progress.{Held, pass_over, try_tree, advance, keep}
use Rattle.tree_bounds.specs.Bound.{ArePotentials, Bounds, Low, reduced_by}
use Rattle.tree_bounds.specs.Prepared.{Prepared}
use Rattle.search.specs.StepContracts.{IsBranchPriced, IsExplored}
use Rattle.branches.specs.Branches.{chosen_in, names_in, state_in, CanGoBelow, IsBranch, IsBelow, IsCandidate, repriced_branch, candidate_link, trees_in}
use Rattle.branches.specs.Holding.{held_in, is_entered, IsShort}
use Rattle.tree_bounds.specs.Pricing.{Prices, IsLifted, IsBounded}
use Rattle.tree_bounds.specs.Reducible.{CanReduce, CanLevel, AreLevelled}
use Rattle.tree_bounds.specs.Laws.Prepared.{in_plan, some_component, agrees, places, places_fit, here_mem, here_source}
use Rattle.tree_bounds.specs.Laws.Branch.{source_lt, completions_step, completions_last, completions_cong, entered_none, entered_some, entered_count}
use Rattle.branches.specs.Laws.Progress.{pass_none, held_same, advance_append, passed_over, Idle}
use Rattle.tree_bounds.specs.Laws.Bound.{too_dear, priced_bounds}
use Rattle.search.specs.Laws.Kept.{can_level, cost_small, kept_branch}
use Rattle.branches.specs.Laws.Below.{chosen_short, fixed_small, room, balancing_small, can_reduce, can_go_below, chosen_more, below_branch}

-- ---- lists

flat_map_one : {A B : Type 0} (f : A → List B) (x : A) → flat_map f (x ∷ []) ≡ f x
unfolding flat_map
flat_map_one f x = append-nil (f x)

take_none : {A : Type 0} (xs : List A) → take 0 xs ≡ []
take_none [] = refl
take_none (x ∷ xs) = refl

-- ---- trees that have the same cost

try_same : (f g : List Link → ℕ) (h : Held) (t : List Link) → f t ≡ g t → try_tree f h t ≡ try_tree g h t
unfolding try_tree
try_same f g h t e = ap (λ c. cond (ltb 0 h.skip) (pass_over h 1) (cond (ltb 0 h.left) (pass_over (keep h c t) 1) h)) e

-- ---- fewer are left

module _ (f : List Link → ℕ) where
  try_less : (h : Held) (t : List Link) → ((try_tree f h t).skip ≤ h.skip) × ((try_tree f h t).left ≤ h.left)
  unfolding try_tree
  try_less h t = by (ltb 0 h.skip) (ltb 0 h.left) (ltb (f t) h.cost)
    where
      by : (x y z : Bool) → let r =
          cond x (pass_over h 1) (cond y (pass_over (cond z (record { cost = f t; links = t; skip = h.skip; left = h.left }) h) 1) h) in
          (r.skip ≤ h.skip) × (r.left ≤ h.left)
      by true y z = (omega arith, omega arith)
      by false true true = (omega arith, omega arith)
      by false true false = (omega arith, omega arith)
      by false false z = (omega arith, omega arith)

  advance_less : (h : Held) (ts : List (List Link)) → ((advance f h ts).skip ≤ h.skip) × ((advance f h ts).left ≤ h.left)
  unfolding advance
  advance_less h [] = (omega arith, omega arith)
  advance_less h (t ∷ ts) = let a = try_less h t in let b = advance_less (try_tree f h t) ts in
      (omega (arith, a.0, b.0), omega (arith, a.1, b.1))

pub explored_short : (p : Plan) (ts : List (List Link)) (g r : Progress) → IsExplored p ts g r → IsShort g → IsShort r
explored_short p ts g r e s =
    let a = advance_less (completion_cost p) (held_in (component_count p - 1) g) ts in
    let x = ap (λ (h : Held). h.skip) e in
    let y = ap (λ (h : Held). h.left) e in
    omega (arith, a.0, a.1)

-- ---- a branch that is not gone into

module _ (g : Progress) (n least : ℕ) where
  pub not_entered : is_entered g n least ≡ false → (n ≤ g.skip) ⊎ ((g.left ≡ 0) ⊎ (g.cost ≤ least))
  not_entered e = elim (dec_le n g.skip) [
    | yes a ↦ inl a
    | no a ↦ elim (ℕ_discrete g.left 0) [
      | yes b ↦ inr (inl b)
      | no b ↦ elim (dec_lt least g.cost) [
        | yes d ↦ absurd (different (sym (all (omega arith) b d) ∙ e))
        | no d ↦ inr (inr (omega arith))
      ]
    ]
  ]
    where
      different : true ≡ false → ⊥
      different e = zero_is_one (cc)

      all : g.skip < n → g.left ≢ 0 → least < g.cost → is_entered g n least ≡ true
      all a b d = rw (lt-leb n g.skip a, ne_eqb g.left 0 b) (lt-ltb least g.cost d)

  pub is_entered_lem : is_entered g n least ≡ true → g.skip < n
  is_entered_lem e = elim (dec_le n g.skip) [
    | yes a ↦ absurd
        (let x : ◌≡◌ {A = Bool} false true = sym (rw (le-leb n g.skip a) refl) ∙ e in zero_is_one (cc))
    | no a ↦ omega arith
  ]

-- a count that is capped
capped : (h : Held) (n : ℕ) → h.skip + h.left ≤ cap → pass_over h (min n cap) ≡ pass_over h n
capped h n s = elim (dec_le n cap) [
  | yes l ↦ ap (pass_over h) (let e : min n cap ≡ n = omega arith in e)
  | no l ↦
      let e : min n cap ≡ cap = omega arith in
      ap (pass_over h) e ∙ held_same refl (let a : h.skip - cap ≡ 0 = omega arith in let b : h.skip - n ≡ 0 = omega arith in a ∙ sym b)
      (let a : h.left - (cap - h.skip) ≡ 0 = omega arith in let b : h.left - (n - h.skip) ≡ 0 = omega arith in a ∙ sym b)
]

above : {a y : ℕ} → a ≤ y → y ≢ a → suc a ≤ y
above {a} {y} l o = elim (ℕ_discrete y a) [ yes e ↦ absurd (o e) | no d ↦ omega arith ]

-- ---- prices without a link

module _ (p : Plan) (table : List (List ℕ)) (chosen : List Link) (a : ℕ) (l : Link) where
  pub lifted_prices : (old new r : Pricing) → Prices p table chosen a old → Prices p table (chosen ++ l ∷ []) (a + 1) new
      → IsLifted old new l.tail l.head r → Prices p table chosen a r
  unfolding heads-of tails-of sum_over
  lifted_prices old new r qo qn i = elim i [
    | inl e ↦ subst⁻¹ (Prices p table chosen a) e qo
    | inr e ↦
        let w = new.potentials in
        let u : ℕ → ℕ = λ v. get_or w v 0 in
        let x = qn.priced in
        let h0 = map (λ a. a.head) (required_arcs p) in
        let t0 = map (λ a. a.tail) (required_arcs p) in
        let hc = map (λ (l : Link). l.head) chosen in
        let tc = map (λ (l : Link). l.tail) chosen in
        let e1 = ap (λ (l : List ℕ). sum_over (h0 ++ l) u) (map-append (λ (l : Link). l.head) chosen (l ∷ []))
        ∙ sum_append h0 (hc ++ l.head ∷ []) u ∙ ap (λ n. sum_over h0 u + n) (sum_append hc (l.head ∷ []) u) in
        let e2 = ap (λ (l : List ℕ). sum_over (t0 ++ l) u) (map-append (λ (l : Link). l.tail) chosen (l ∷ []))
        ∙ sum_append t0 (tc ++ l.tail ∷ []) u ∙ ap (λ n. sum_over t0 u + n) (sum_append tc (l.tail ∷ []) u) in
        let e3 = sum_append h0 hc u in
        let e4 = sum_append t0 tc u in
        let f = e.1 in
        record {
          potentials = subst⁻¹ (ArePotentials table (required p)) e.0 qn.potentials;
          priced = subst⁻¹
              (λ (w : List ℕ). r.value + sum_over (tails-of p chosen) (λ v. get_or w v 0) ≤ sum_over (heads-of p chosen)
              (λ v. get_or w v 0))
              e.0 (omega arith);
          small = (let s = qn.small in let t = qn.potentials.low l.tail in omega arith);
        }
  ]

-- ---- the branch

module _ {p : Plan} {table : List (List ℕ)} {vs start source tails heads : List ℕ} {k : ℕ}
    (h : Prepared p table vs start source tails heads k) {am : List ℕ} (b : Branch) (is : IsBranch p table am b) where
  abbrev f : List Link → ℕ
  f = completion_cost p

  abbrev pub behind : List (List Link) → List (List Link)
  behind ts = map (λ t. chosen_in b ++ t) ts

  abbrev pub branches : List Link → List (List Link)
  branches ls = behind (flat_map (entered p (names_in b) b.a) ls)

  count_is : b.a < k → b.a < component_count p
  count_is l = let e = h.count in omega arith

  -- THE LAST COMPONENT IS CHOSEN FOR
  pub one_tree : b.a ≡ k → (g r : Progress)
      → ((m : ℕ) → held_in m r ≡ try_tree (λ t. b.fixed + b.balancing) (held_in m g) (links_in m b.tails b.heads))
      → IsExplored p (trees_in p b) g r
  unfolding trees_in advance completion_cost
  one_tree e g r c =
      let m = component_count p - 1 in
      let n : b.a - 1 ≡ m = (let d = h.count in omega arith) in
      let last = completions_last p (in_plan h) (some_component h) (names_in b) b.a (e ∙ h.count) is.named in
      let tree = append-nil (chosen_in b) in
      let links : chosen_in b ≡ links_in m b.tails b.heads = ap (λ i. links_in i b.tails b.heads) n in
      let cost : b.fixed + b.balancing ≡ f (chosen_in b) =
      (let a = is.fixed in
      let l = certified_least p h.plannable.well_formed h.plannable.connected (cell table) (agrees h) (chosen_in b) is.joins
      (let q = chosen_short h b is in omega arith) (state_in am b) is.certified is.counted in
      omega arith)
      in
      c m ∙ ap (try_tree (λ t. b.fixed + b.balancing) (held_in m g)) (sym links)
      ∙ try_same (λ t. b.fixed + b.balancing) f (held_in m g) (chosen_in b) cost
      ∙ ap (try_tree f (held_in m g)) (sym tree) ∙ sym (ap (λ (ts : List (List Link)). advance f (held_in m g) (behind ts)) last)

  -- no candidate yet, one more, all of them
  pub none_explored : (g : Progress) → IsExplored p (branches []) g g
  unfolding advance flat_map
  none_explored g = refl

  pub all_explored : b.a < k → branches (candidates p b.a) ≡ trees_in p b
  unfolding trees_in
  all_explored l = ap behind (sym (completions_step p (in_plan h) (some_component h) (names_in b) b.a is.one (count_is l) is.named))

  module _ (more : b.a < k) (i : ℕ) (less : i < length (candidates p b.a)) where
    abbrev l : Link
    l = link_at (candidates p b.a) i

    pub one_more : (g r s : Progress) → IsExplored p (branches (take i (candidates p b.a))) g r
        → IsExplored p (behind (entered p (names_in b) b.a l)) r s → IsExplored p (branches (take (i + 1) (candidates p b.a))) g s
    one_more g r s x y =
        let m = component_count p - 1 in
        let c = candidates p b.a in
        let e = ap (λ n. take n c) (add-one i) ∙ take-suc c i (record { tail = 0; head = 0 }) less in
        y ∙ ap (λ (z : Held). advance f z (behind (entered p (names_in b) b.a l))) x
        ∙ sym (ap (λ (ls : List Link). advance f (held_in m g) (branches ls)) e
        ∙ ap (λ (ts : List (List Link)). advance f (held_in m g) (behind ts))
        (flat_map_append (entered p (names_in b) b.a) (take i c) (l ∷ [])
        ∙ ap (λ (ts : List (List Link)). flat_map (entered p (names_in b) b.a) (take i c) ++ ts)
        (flat_map_one (entered p (names_in b) b.a) l))
        ∙ ap (advance f (held_in m g))
        (map-append (λ (t : List Link). chosen_in b ++ t) (flat_map (entered p (names_in b) b.a) (take i c))
        (entered p (names_in b) b.a l))
        ∙ advance_append f (held_in m g) (branches (take i c)) (behind (entered p (names_in b) b.a l)))

  pub more_left : b.a ≢ k → b.a < k
  more_left o = elim (ℕ_discrete b.a k) [ yes e ↦ absurd (o e) | no d ↦ (let m = is.most in let e = h.count in omega arith) ]

  pub explored_start : (n : ℕ) → n ≡ 0 → (g : Progress) → IsExplored p (branches (take n (candidates p b.a))) g g
  explored_start n e g =
      subst⁻¹ (λ (ls : List Link). IsExplored p (branches ls) g g)
      (ap (λ n. take n (candidates p b.a)) e ∙ take_none (candidates p b.a)) (none_explored g)

  pub explored_end : b.a < k → (n : ℕ) → n ≡ length (candidates p b.a) → (g r : Progress)
      → IsExplored p (branches (take n (candidates p b.a))) g r → IsExplored p (trees_in p b) g r
  explored_end l n e g r x =
      subst (λ (ts : List (List Link)). IsExplored p ts g r) (all_explored l)
      (subst (λ (ls : List Link). IsExplored p (branches ls) g r) (take_all n (candidates p b.a) (omega arith)) x)

  -- ---- the branch below a candidate

  module _ (more : b.a < k) (l : Link) (m : Memᴰ l (candidates p b.a)) where
    abbrev x : ℕ
    x = source_by p (names_in b) l

    abbrev here : List (List Link)
    here = behind (entered p (names_in b) b.a l)

    -- IT IS GONE INTO
    pub gone_into : x ≢ b.a → (g : List ℕ) (n : Branch) → IsBelow table vs am b l.tail l.head x k g n → (r s : Progress)
        → IsExplored p (trees_in p n) r s → IsExplored p here r s
    unfolding trees_in
    gone_into o a n at r s e = e ∙ ap (advance f (held_in (component_count p - 1) r)) same
      where
        next : n.a ≡ suc b.a
        next = let g = at.next in omega arith

        same : trees_in p n ≡ here
        same =
            ap₂ (λ (c : List Link) (ts : List (List Link)). map (λ t. c ++ t) ts) (chosen_more h b is more l m o a n at)
            (completions_cong p (in_plan h) (some_component h) (names_in n) (renamed_by (names_in b) b.a x) n.a
            (λ c g. at.names_are c (let few = h.few in omega arith)) ∙ ap (completions p (renamed_by (names_in b) b.a x)) next)
            ∙ map_cong (λ t. (chosen_in b ++ l ∷ []) ++ t) (λ t. chosen_in b ++ l ∷ t)
            (completions p (renamed_by (names_in b) b.a x) (suc b.a)) (λ t g. append_assoc (chosen_in b) (l ∷ []) t)
            ∙ sym (map-map (λ (t : List Link). chosen_in b ++ t) (λ t. l ∷ t) (completions p (renamed_by (names_in b) b.a x) (suc b.a)))
            ∙ ap behind (sym (entered_some p (in_plan h) (some_component h) (names_in b) b.a is.one (count_is more) is.named l m o))

    -- how many trees it has
    below_count : x ≢ b.a
        → length here ≡ count_trees (merged (entries_of b.entries) b.a x) (up_from (suc b.a) (component_count p - suc b.a))
    unfolding entries_in merged
    below_count o =
        length-map (entered p (names_in b) b.a l) (λ t. chosen_in b ++ t)
        ∙ entered_count p (in_plan h) (some_component h) (names_in b) b.a is.one (count_is more) is.named l m o
        ∙ count_cong (up_from (suc b.a) (component_count p - suc b.a)) (merged (entries_in (sources_by p (names_in b))) b.a x)
        (merged (entries_of b.entries) b.a x) (λ q y u v.
        let i = up_from_mem (suc b.a) (component_count p - suc b.a) u in
        let c = count_is more in
        ap₂ (λ s t. s + delta y x * t) (sym (is.entries q y (omega arith) (omega arith) (later v)))
        (sym (is.entries q b.a (omega arith) (omega arith)
        (Memᴰ.tail (mem_up_from b.a (component_count p - b.a) (omega arith) (omega arith))))))
      where
        later : {y : ℕ} → Memᴰ y (0 ∷ up_from (suc b.a) (component_count p - suc b.a))
            → Memᴰ y (0 ∷ up_from b.a (component_count p - b.a))
        later v = elim (Memᴰ.cases_cons v) [
          | inl e ↦ Memᴰ.head e
          | inr t ↦ (let i = up_from_mem (suc b.a) (component_count p - suc b.a) t in let c = count_is more in
              Memᴰ.tail (mem_up_from b.a (component_count p - b.a) (omega arith) (omega arith)))
        ]

    -- by a bound
    dear : (pot : List ℕ) (value rest old : ℕ) → Bounds p table pot value (chosen_in b) b.a → Low p table pot rest (suc b.a)
        → old ≤ value + rest + reduced_by table pot l.tail l.head
        → x ≢ b.a → (t : List Link) → Memᴰ t here → old ≤ f t
    unfolding completions
    dear pot value rest old bounds low d o t g =
        let u = map_mem (λ (t : List Link). chosen_in b ++ t) (entered p (names_in b) b.a l) g in
        let v = map_mem (λ (t : List Link). l ∷ t) (completions p (renamed_by (names_in b) b.a x) (suc b.a))
        (subst (λ (ts : List (List Link)). Memᴰ u.0 ts)
        (entered_some p (in_plan h) (some_component h) (names_in b) b.a is.one (count_is more) is.named l m o) u.1) in
        let w = select_mem _ (left_choices p (suc b.a)) v.1 in
        subst⁻¹ (λ (t : List Link). old ≤ f t) (u.2 ∙ ap (λ (t : List Link). chosen_in b ++ t) v.2)
        (too_dear p table pot value rest old (chosen_in b) b.a (count_is more) bounds low l m d v.0 w.0)

    -- IT IS PASSED OVER
    pub passed : (r s : Progress) → IsShort r → ((i : ℕ) → held_in i s ≡ pass_over (held_in i r) (get_or b.counts x 0))
        → (least : ℕ) → is_entered r (get_or b.counts x 0) least ≡ false → (x ≢ b.a → (t : List Link) → Memᴰ t here → least ≤ f t)
        → IsExplored p here r s
    unfolding advance
    passed r s short e least out by_bound = elim (ℕ_discrete x b.a) [
      | yes d ↦
          let z : get_or counts x 0 ≡ 0 = ap (λ y. get_or counts y 0) d ∙ are.circle in
          e i ∙ ap (pass_over (held_in i r)) z ∙ sym (pass_none (held_in i r))
          ∙ sym (ap (λ (ts : List (List Link)). advance f (held_in i r) (behind ts))
          (entered_none p (in_plan h) (some_component h) (names_in b) b.a is.one (count_is more) is.named l m d))
      | no o ↦
          let n : get_or counts x 0 ≡ min (length here) cap = number o in
          e i ∙ ap (pass_over (held_in i r)) n ∙ capped (held_in i r) (length here) short
          ∙ sym (passed_over f (held_in i r) here (idle o n))
    ]
      where
        i : ℕ
        i = component_count p - 1

        counts : List ℕ
        counts = b.counts

        are : AreCounts b.entries b.a (component_count p) counts
        are = is.counts (count_is more)

        source_in : x ≢ b.a → Memᴰ x (0 ∷ up_from (suc b.a) (component_count p - suc b.a))
        source_in o = apart (is.named (component p l.tail) (source_lt p (in_plan h) (some_component h) b.a l m))
          where
            apart : Memᴰ x (0 ∷ up_from b.a (component_count p - b.a))
                → Memᴰ x (0 ∷ up_from (suc b.a) (component_count p - suc b.a))
            apart v = elim (Memᴰ.cases_cons v) [
              | inl e ↦ Memᴰ.head e
              | inr t ↦ (let u = up_from_mem b.a (component_count p - b.a) t in
                  Memᴰ.tail (mem_up_from (suc b.a) (component_count p - suc b.a) (above u.0 o) (omega arith)))
            ]

        -- the candidate is an entry
        some_entry : 1 ≤ entries_of b.entries b.a x
        some_entry =
            let e = is.entries b.a x (omega arith) (count_is more)
            (is.named (component p l.tail) (source_lt p (in_plan h) (some_component h) b.a l m)) in
            let s = occurrences_of_mem (mem_map (source_by p (names_in b)) m) in
            omega arith

        number : x ≢ b.a → get_or counts x 0 ≡ min (length here) cap
        number o = are.each x (source_in o) some_entry ∙ ap (λ n. min n cap) (sym (below_count o))

        idle : x ≢ b.a → get_or counts x 0 ≡ min (length here) cap → Idle f (held_in i r) here
        idle o n = elim (not_entered r (get_or counts x 0) least out) [
          | inl s ↦ elim (dec_le (length here) cap) [ yes c ↦ inr (inl (omega arith)) | no c ↦ inr (inr (omega arith)) ]
          | inr y ↦ elim y [ inl z ↦ inr (inr z) | inr w ↦ inl (λ t g. (let a = by_bound o t g in omega arith)) ]
        ]

  -- ---- the potentials that price it

  own_feasible : ArePotentials table (required p) b.potentials
  own_feasible =
      record {
        feasible = λ i j mi mj. is.certified.feasible i j mi mj;
        low = λ v. (let a = is.certified.numbers.low v in let r = room h b is in omega arith);
      }

  -- its own
  pub own_prices : (r : Pricing) → r.potentials ≡ b.potentials → r.value ≡ b.balancing → Prices p table (chosen_in b) b.a r
  own_prices r e f =
      let o = is.counted.priced in
      let m = is.most in
      let few = h.few in
      record {
        potentials = subst⁻¹ (ArePotentials table (required p)) e own_feasible;
        priced = subst⁻¹
            (λ (w : List ℕ). r.value + sum_over (tails-of p (chosen_in b)) (λ v. get_or w v 0)
            ≤ sum_over (heads-of p (chosen_in b)) (λ v. get_or w v 0)) e (omega arith);
        small = (let g = balancing_small h b is in omega arith);
      }

  -- the bound that they give
  pub priced_branch : (r : Pricing) → Prices p table (chosen_in b) b.a r
      → Bounds p table r.potentials (b.fixed + r.value) (chosen_in b) b.a
  priced_branch r q =
      subst⁻¹ (λ v. Bounds p table r.potentials (v + r.value) (chosen_in b) b.a) is.fixed
      (priced_bounds h (chosen_in b) is.joins r.potentials q.potentials r.value q.priced b.a)

  -- prices with a bound
  pub bounded_prices : (q r : Pricing) → Prices p table (chosen_in b) b.a q
      → IsBounded table start tails heads k q b.fixed (b.a + 1) r → IsBranchPriced p table b r
  bounded_prices q r x y =
      let v = y.value_is in
      record {
        prices = record {
          potentials = subst⁻¹ (ArePotentials table (required p)) y.potentials_are x.potentials;
          priced = subst⁻¹
              (λ (w : List ℕ). r.value + sum_over (tails-of p (chosen_in b)) (λ v. get_or w v 0)
              ≤ sum_over (heads-of p (chosen_in b)) (λ v. get_or w v 0)) y.potentials_are (let a = x.priced in omega arith);
          small = (let a = x.small in omega arith);
        };
        rest = y.rest;
        low = subst⁻¹ (λ (w : List ℕ). Low p table w y.rest (b.a + 1)) y.potentials_are (y.low p vs source h);
        sum = (let a = y.bound_is in omega arith);
        small = y.small;
      }

  pub bound_small : (r : Pricing) → IsBranchPriced p table b r → r.bound ≤ 3060000000000
  bound_small r x = let a = x.sum in let c = fixed_small h b is in let s = x.prices.small in let d = x.small in omega arith

  -- ---- the candidate at a place

  module _ (more : b.a < k) (y : ℕ) (lo : get_or start b.a 0 ≤ y) (hi : y < get_or start (b.a + 1) 0) where
    abbrev i : ℕ
    i = y - get_or start b.a 0

    less : i < length (candidates p b.a)
    less = let e = places h b.a is.one more in omega arith

    at : get_or start b.a 0 + i ≡ y
    at = omega arith

    abbrev there : Link
    there = link_at (candidates p b.a) i

    mem : Memᴰ there (candidates p b.a)
    mem = here_mem h b.a is.one more i less

    source_is : get_or source y 0 ≡ component p there.tail
    source_is = ap (λ z. get_or source z 0) (sym at) ∙ here_source h b.a is.one more i less

    -- its source and its name are components
    pub can_look : (y < 4096) × (get_or source y 0 < 8) × (get_or b.names (get_or source y 0) 0 < 8)
    can_look =
        let f = places_fit h b.a is.one more in
        let c = source_lt p (in_plan h) (some_component h) b.a there mem in
        let e = source_is in
        let few = h.few in
        (omega arith, omega arith, subst⁻¹ (λ z. get_or b.names z 0 < 8) e (small (is.named (component p there.tail) c)))
      where
        small : {z : ℕ} → Memᴰ z (0 ∷ up_from b.a (component_count p - b.a)) → z < 8
        small v = elim (Memᴰ.cases_cons v) [
          | inl e ↦ omega arith
          | inr t ↦ (let u = up_from_mem b.a (component_count p - b.a) t in let few = h.few in let c = count_is more in omega arith)
        ]

    module _ (c : Candidate) (is_at : IsCandidate source tails heads b.names b.counts y c) where
      tail_is : c.tail ≡ there.tail
      tail_is = is_at.tail_is ∙ ap (λ z. get_or tails z 0) (sym at) ∙ (h.ends b.a i is.one more less).0

      head_is : c.head ≡ there.head
      head_is = is_at.head_is ∙ ap (λ z. get_or heads z 0) (sym at) ∙ (h.ends b.a i is.one more less).1

      name_is : c.name ≡ source_by p (names_in b) there
      name_is = is_at.name_is ∙ ap (λ z. get_or b.names z 0) source_is

      trees_are : c.trees ≡ get_or b.counts (source_by p (names_in b) there) 0
      trees_are = is_at.trees_are ∙ ap (λ z. get_or b.counts (get_or b.names z 0) 0) source_is

      -- reduced costs, by any potentials
      pub can_reduce_here : (pot : List ℕ) → ArePotentials table (required p) pot → CanReduce table pot c.tail c.head
      can_reduce_here pot f =
          subst⁻¹ (λ t. CanReduce table pot t c.head) tail_is
          (subst⁻¹ (CanReduce table pot there.tail) head_is (can_reduce h b is more there mem pot f))

      reduced_same : (pot : List ℕ) → reduced_by table pot c.tail c.head ≡ reduced_by table pot there.tail there.head
      reduced_same pot = ap₂ (reduced_by table pot) tail_is head_is

      pub can_go : CanGoBelow table vs am b c.tail c.head c.name k
      can_go = subst⁻¹ (λ t. CanGoBelow table vs am b t c.head c.name k) tail_is
          (subst⁻¹ (λ z. CanGoBelow table vs am b there.tail z c.name k) head_is
          (can_go_below h b is more there mem c.name (let l = can_look.2 in let e = is_at.name_is in omega arith)))

      -- its potentials, raised
      abbrev more_state : State
      more_state = add (cell table) vs (state_in am b) c.tail c.head

      raised_same : add (cell table) vs (state_in am b) there.tail there.head ≡ more_state
      raised_same = ap₂ (λ t z. add (cell table) vs (state_in am b) t z) (sym tail_is) (sym head_is)

      pub raised_level : CanLevel more_state.potentials vs
      raised_level = subst (λ (s : State). CanLevel s.potentials vs) raised_same (can_level h b is there mem)

      pub raised_small : more_state.cost ≤ 3000000000000
      raised_small = subst (λ (s : State). s.cost ≤ 3000000000000) raised_same (cost_small h b is there mem)

      pub raised_kept : (w : List ℕ) → AreLevelled more_state.potentials vs (length vs) w → IsBranch p table am (repriced_branch b w)
      raised_kept w v = kept_branch h b is there mem w (subst⁻¹ (λ (s : State). AreLevelled s.potentials vs (length vs) w) raised_same v)

      -- it is gone into
      module _ (r : Progress) (least : ℕ) (yes : is_entered r c.trees least ≡ true) (a : List ℕ) (n : Branch)
          (below : IsBelow table vs am b c.tail c.head c.name k a n) where
        apart : source_by p (names_in b) there ≢ b.a
        apart e = let l = is_entered_lem r c.trees least yes in
            let t = trees_are ∙ ap (λ z. get_or b.counts z 0) e ∙ (is.counts (count_is more)).circle in omega arith

        below_there : IsBelow table vs am b there.tail there.head (source_by p (names_in b) there) k a n
        below_there =
            subst (λ t. IsBelow table vs am b t there.head (source_by p (names_in b) there) k a n) tail_is
            (subst (λ z. IsBelow table vs am b c.tail z (source_by p (names_in b) there) k a n) head_is
            (subst (λ x. IsBelow table vs am b c.tail c.head x k a n) name_is below))

        pub next_branch : (n.a < component_count p → AreCounts n.entries n.a (component_count p) n.counts) → IsBranch p table a n
        next_branch = below_branch h b is more there mem apart a n below_there

        pub next_prices : (q : Pricing) → Prices p table (chosen_in n) n.a q
            → Prices p table (chosen_in b ++ candidate_link c ∷ []) (b.a + 1) q
        next_prices q x =
            let link : there ≡ candidate_link c = ap₂ (λ t z. record { tail = t; head = z }) (sym tail_is) (sym head_is) in
            subst (λ n. Prices p table (chosen_in b ++ candidate_link c ∷ []) n q) below.next
            (subst (λ (l : Link). Prices p table (chosen_in b ++ l ∷ []) n.a q) link
            (subst (λ (t : List Link). Prices p table t n.a q) (chosen_more h b is more there mem apart a n below_there) x))

        pub next_explored : (g s : Progress) → IsExplored p (branches (take i (candidates p b.a))) g r → IsExplored p (trees_in p n) r s
            → IsExplored p (branches (take (i + 1) (candidates p b.a))) g s
        next_explored g s before e = one_more more i less g r s before (gone_into more there mem apart a n below_there r s e)

      -- it is passed over
      pub next_passed : (g r s : Progress) → IsShort r → IsExplored p (branches (take i (candidates p b.a))) g r
          → ((i : ℕ) → held_in i s ≡ pass_over (held_in i r) c.trees)
          → (q : Pricing) → IsBranchPriced p table b q
          → is_entered r c.trees (q.bound + reduced_by table q.potentials c.tail c.head) ≡ false
          → IsExplored p (branches (take (i + 1) (candidates p b.a))) g s
      next_passed g r s short before e q price out =
          let pot = q.potentials in
          let least = q.bound + reduced_by table pot c.tail c.head in
          let next : suc b.a ≡ b.a + 1 = omega arith in
          one_more more i less g r s before
          (passed more there mem r s short (λ m. e m ∙ ap (pass_over (held_in m r)) trees_are) least
          (subst (λ n. is_entered r n least ≡ false) trees_are out)
          (λ o t m. dear more there mem pot (b.fixed + q.value) price.rest least (priced_branch q price.prices)
          (subst⁻¹ (Low p table pot price.rest) next price.low)
          (let x = reduced_same pot in let y = price.sum in omega arith) o t m))
