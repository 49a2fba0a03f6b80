-- A branch by value, its root and the branches below it.
use Rattle.std.specs.Prelude.{◌≡◌, ℕ, ◌+◌, ◌-◌, ◌≤◌, ◌<◌, length, get_or, set, ℤ, pos}
use mathlib.Core.List.{List, [], ◌∷◌, ◌++◌, map, Memᴰ}
use Rattle.postman.specs.Lists.{up_from, occurrences}
use Rattle.postman.specs.Plan.{Plan}
use Rattle.postman.specs.Required.{required, required_cost}
use Rattle.postman.specs.Link.{Link}
use Rattle.postman.specs.Component.{component_count}
use Rattle.postman.specs.Balancing.{heads, tails, link_cost}
use Rattle.postman.specs.LagrangianBound.{AreMultipliers}
use Rattle.postman.specs.Steps.{Joins, cell}
use Rattle.residual_search.specs.Step.{State, add}
use Rattle.balance.specs.Invariant.{Metric, Certified, Counted}
use Rattle.balance.specs.Balance.{balance}
use Rattle.small_counts.specs.Matrix.{entries_of, AreFew, IsMerged, AreCounts}
use Rattle.small_counts.specs.Arrival.{renamed}
use Rattle.branches.specs.declared.branch.Branch.{Branch}
use Rattle.branches.specs.declared.candidate.Candidate.{Candidate}
use Rattle.branches.specs.Links.{links_in}
use Rattle.tree_bounds.specs.Branch.{Named, sources_by, completions}

-- A candidate of the component that is chosen for next: its link, its source by its new name, and how many trees the branch below has.
pub record IsCandidate (source tails heads names counts : List ℕ) (x : ℕ) (c : Candidate) : Type 0 where
  pub tail_is : c.tail ≡ get_or tails x 0
  pub head_is : c.head ≡ get_or heads x 0
  pub name_is : c.name ≡ get_or names (get_or source x 0) 0
  pub trees_are : c.trees ≡ get_or counts (get_or names (get_or source x 0) 0) 0

-- The links chosen, for components 1 to a − 1.
abbrev pub chosen_in : Branch → List Link
chosen_in b = links_in (b.a - 1) b.tails b.heads

abbrev pub names_in : Branch → ℕ → ℕ
names_in b c = get_or b.names c 0

-- The state, with the amounts that are lent beside the branch.
abbrev pub state_in : List ℕ → Branch → State
state_in f b = record { amounts = f; potentials = b.potentials; cost = b.balancing; count = b.count }

pub record IsBranch (p : Plan) (table : List (List ℕ)) (f : List ℕ) (b : Branch) : Type 0 where
  pub one : 1 ≤ b.a
  pub most : b.a ≤ component_count p
  pub tails_size : length b.tails ≡ 8
  pub heads_size : length b.heads ≡ 8
  pub joins : Joins p (chosen_in b)
  pub certified : Certified (cell table) (required p) (state_in f b)
  pub counted : Counted (required p) (state_in f b) (heads p (chosen_in b)) (tails p (chosen_in b))
  pub fixed : b.fixed ≡ required_cost p + link_cost p (chosen_in b)
  pub named : Named p (names_in b) b.a
  pub entries : (q x : ℕ) → b.a ≤ q → q < component_count p → Memᴰ x (0 ∷ up_from b.a (component_count p - b.a))
      → entries_of b.entries q x ≡ occurrences x (sources_by p (names_in b) q)
  pub few : AreFew b.entries b.a (component_count p)
  pub counts : b.a < component_count p → AreCounts b.entries b.a (component_count p) b.counts

-- The branch that has no choice yet: all trees.
pub record IsRoot (p : Plan) (table : List (List ℕ)) (f : List ℕ) (b : Branch) : Type 0 where
  pub branch : IsBranch p table f b
  pub nothing : b.a ≡ 1
  pub names_are : (c : ℕ) → c < 8 → names_in b c ≡ c

-- What the root is made from: the state of the required arcs, multipliers, R, and the entries of the components.
pub record AreGiven (p : Plan) (table : List (List ℕ)) (base : State) (u : List ℤ) (r : ℕ) (entries : List ℕ) : Type 0 where
  pub base_is : base ≡ balance (cell table) p []
  pub multipliers : AreMultipliers p (λ i. get_or u i (pos 0))
  pub required_cost_holds : r ≡ required_cost p
  pub entries_are : (q x : ℕ) → 1 ≤ q → q < component_count p → x < 8 → entries_of entries q x ≡ occurrences x (sources_by p (λ c. c) q)
  pub few : AreFew entries 1 (component_count p)

-- One link more can be added to a state.
pub record CanLink (table : List (List ℕ)) (vs : List ℕ) (s : State) (tail head : ℕ) : Type 0 where
  pub metric : Metric (cell table) vs
  pub certified : Certified (cell table) vs s
  pub room : s.count ≤ 370
  pub tail_in : Memᴰ tail vs
  pub head_in : Memᴰ head vs

-- Component a can take the link from tail to head, which comes from component x by its new name.
pub record CanGoBelow (table : List (List ℕ)) (vs f : List ℕ) (b : Branch) (tail head x k : ℕ) : Type 0 where
  pub one : 1 ≤ b.a
  pub more : b.a < k
  pub few : k ≤ 8
  pub link : CanLink table vs (state_in f b) tail head
  pub name : x < 8
  pub fixed_small : b.fixed ≤ 100000000
  pub entries_few : AreFew b.entries b.a k

-- The branch below, in which it has taken it, with the amounts g. Its entries matter where another component is left.
pub record IsBelow (table : List (List ℕ)) (vs f : List ℕ) (b : Branch) (tail head x k : ℕ) (g : List ℕ) (r : Branch) : Type 0 where
  pub next : r.a ≡ b.a + 1
  pub tails_are : r.tails ≡ set b.tails (b.a - 1) tail
  pub heads_are : r.heads ≡ set b.heads (b.a - 1) head
  pub state_is : state_in g r ≡ add (cell table) vs (state_in f b) tail head
  pub fixed_is : r.fixed ≡ b.fixed + cell table tail head
  pub names_are : (c : ℕ) → c < 8 → get_or r.names c 0 ≡ renamed b.a x (get_or b.names c 0)
  pub entries_are : b.a + 1 < k → IsMerged b.entries b.a x k r.entries

-- The branch with the potentials w.
abbrev pub repriced_branch : Branch → List ℕ → Branch
repriced_branch b w = record {
  a = b.a;
  tails = b.tails;
  heads = b.heads;
  potentials = w;
  balancing = b.balancing;
  count = b.count;
  fixed = b.fixed;
  names = b.names;
  entries = b.entries;
  counts = b.counts;
}

abbrev pub candidate_link : Candidate → Link
candidate_link c = record { tail = c.tail; head = c.head }

-- The trees of a branch, in order.
unfoldable pub trees_in : Plan → Branch → List (List Link)
unfolding completions
trees_in p b = map (λ t. chosen_in b ++ t) (completions p (names_in b) b.a)
