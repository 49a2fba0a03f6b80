-- The branch goes on with the potentials that a link has raised: they certify the amounts without it too (`add_tight`), and a
-- constant taken off all of them changes neither.
use Rattle.std.specs.Prelude.{◌≡◌, ℕ, ◌+◌, ◌≤◌, ◌<◌, length, get_or}
use Rattle.std.proofs.Math.Path.{ap, subst⁻¹}
use Rattle.std.proofs.Common.{subst}
use mathlib.Core.List.{List, map, Memᴰ}
use native.Mathlib.Omega.{arith}
use Rattle.std.proofs.Math.ListN.{length-append, length-map}
use Rattle.postman.specs.Plan.{Plan, required_arcs}
use Rattle.postman.specs.Required.{required}
use Rattle.postman.specs.Link.{Link}
use Rattle.postman.specs.Balancing.{heads as heads-of, tails as tails-of}
use Rattle.postman.specs.Arborescence.{candidates}
use Rattle.postman_laws.specs.Laws.Balancing.{within_heads, within_tails}
use Rattle.postman.specs.Laws.Membership.{get_d_mem, mem_get_d}
use Rattle.balance.specs.Optimality.{ArePotentials, Tight}
use Rattle.postman.specs.Steps.{cell, amount}
use Rattle.residual_search.specs.Step.{State, potential, add}
use Rattle.balance.specs.Invariant.{Certified}
use Rattle.balance.specs.Laws.Step.{add_certified, add_tight}
use Rattle.balance.specs.Laws.Repriced.{repriced_certified, repriced_counted}
use Rattle.branches.specs.declared.branch.Branch.{Branch}
use Rattle.tree_bounds.specs.Prepared.{Prepared}
use Rattle.branches.specs.Branches.{chosen_in, state_in, IsBranch, repriced_branch}
use Rattle.tree_bounds.specs.Reducible.{Near, CanLevel, AreLevelled}
use Rattle.tree_bounds.specs.Laws.Prepared.{candidate_ends, in_plan, metric}
use Rattle.branches.specs.Laws.Root.{some_vertex}
use Rattle.branches.specs.Laws.Below.{room}

-- ---- one after the other

-- ---- the branch

module _ {p : Plan} {table : List (List ℕ)} {vs start source tails heads : List ℕ} {k : ℕ}
    (h : Prepared p table vs start source tails heads k) {f : List ℕ} (b : Branch) (is : IsBranch p table f b)
    (l : Link) (m : Memᴰ l (candidates p b.a)) where
  abbrev n : State
  n = add (cell table) vs (state_in f b) l.tail l.head

  abbrev u : List ℕ
  u = n.potentials

  ends : Memᴰ l.tail (required p) × Memᴰ l.head (required p)
  ends = candidate_ends p b.a l m

  state_is : n ≡ add (cell table) (required p) (state_in f b) l.tail l.head
  state_is = ap (λ (v : List ℕ). add (cell table) v (state_in f b) l.tail l.head) h.vertices

  small : b.count < 1000
  small = let r = room h b is in omega arith

  after : Certified (cell table) (required p) n
  after = subst⁻¹ (Certified (cell table) (required p)) state_is
      (add_certified (cell table) (required p) (metric h) (state_in f b) is.certified small l.tail l.head ends.0 ends.1)

  tight : Tight (cell table) (required p) (amount f) (potential u)
  tight = subst⁻¹ (λ (s : State). Tight (cell table) (required p) (amount f) (potential s.potentials)) state_is
      (add_tight (cell table) (required p) (metric h) (state_in f b) is.certified small l.tail l.head ends.0 ends.1)

  counts : n.count ≡ b.count + 1
  unfolding add
  counts = ap (λ (s : State). s.count) state_is

  -- what the code asks
  pub near : (i j : ℕ) → Memᴰ i (required p) → Memᴰ j (required p) → Near (get_or u i 0) (get_or u j 0)
  near i j mi mj =
      let a = after.feasible i j mi mj in
      let c = after.feasible j i mj mi in
      let e = (metric h).bound i j mi mj in
      let f = (metric h).bound j i mj mi in
      let g = after.numbers.low i in
      let o = counts in
      let q = room h b is in
      record { above = omega arith; below = omega arith; low = omega arith }

  pub cost_small : n.cost ≤ 3000000000000
  cost_small = let a = after.numbers.cheap in let c = counts in let r = room h b is in omega arith

  first_in : Memᴰ (get_or vs 0 0) (required p)
  first_in = subst⁻¹ (λ (v : List ℕ). Memᴰ (get_or v 0 0) (required p)) h.vertices (get_d_mem (required p) 0 0 (some_vertex h))

  pub can_level : CanLevel u vs
  can_level = (
    (λ i c. let g = subst (λ (v : List ℕ). Memᴰ (get_or vs i 0) v) h.vertices (get_d_mem vs 0 i c) in
        ((metric h).small _ g, near _ _ g first_in)),
    subst⁻¹ (λ (v : List ℕ). 1 ≤ length v) h.vertices (let s = some_vertex h in omega arith),
  )

  module _ (w : List ℕ) (v : AreLevelled u vs (length vs) w) where
    level_at : (i : ℕ) → Memᴰ i (required p) → get_or w i 0 + get_or u (get_or vs 0 0) 0 ≡ get_or u i 0 + 4128705
    level_at i g =
        let y = mem_get_d 0 (subst⁻¹ (λ (l : List ℕ). Memᴰ i l) h.vertices g) in
        subst (λ i. get_or w i 0 + get_or u (get_or vs 0 0) 0 ≡ get_or u i 0 + 4128705) y.2 (v.each y.0 y.1)

    feasible' : ArePotentials (cell table) (required p) (potential w)
    feasible' i j mi mj = let a = level_at i mi in let c = level_at j mj in let e = after.feasible i j mi mj in omega arith

    tight' : Tight (cell table) (required p) (amount f) (potential w)
    tight' i j mi mj q = let a = level_at i mi in let c = level_at j mj in let e = tight i j mi mj q in omega arith

    -- some arc is counted
    some_arc : 1 ≤ b.count
    unfolding heads-of
    some_arc =
        let e = is.counted.number in
        let a = length-append (map (λ a. a.head) (required_arcs p)) (map (λ (l : Link). l.head) (chosen_in b)) in
        let c = length-map (required_arcs p) (λ a. a.head) in
        let s = h.plannable.some_arc in
        omega arith

    -- IT IS A BRANCH
    pub kept_branch : IsBranch p table f (repriced_branch b w)
    kept_branch = record {
      one = is.one;
      most = is.most;
      tails_size = is.tails_size;
      heads_size = is.heads_size;
      joins = is.joins;
      certified = repriced_certified (cell table) (required p) (state_in f b) w feasible' tight' is.certified v.size some_arc v.low;
      counted = repriced_counted (cell table) (required p) (state_in f b) w feasible' tight' (heads-of p (chosen_in b))
          (tails-of p (chosen_in b)) (within_heads p (in_plan h) (chosen_in b) is.joins)
          (within_tails p (in_plan h) (chosen_in b) is.joins) is.certified is.counted;
      fixed = is.fixed;
      named = is.named;
      entries = is.entries;
      few = is.few;
      counts = is.counts;
    }
