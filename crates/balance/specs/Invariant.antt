-- What a state keeps, whichever arcs are added.
use Rattle.std.specs.Prelude.{◌≡◌, ℕ, ◌+◌, ◌*◌, ◌≤◌, ◌<◌, length, get_or}
use mathlib.Core.List.{List, Memᴰ}
use Rattle.postman.specs.Lists.{occurrences}
use Rattle.postman.specs.Link.{Link}
use Rattle.postman.specs.Balancing.{sum_over}
use Rattle.balance.specs.Optimality.{ArePotentials, Tight, Balances, sent}
use Rattle.postman.specs.Steps.{amount}
use Rattle.residual_search.specs.Step.{State, potential}

-- What is asked of the distances d between the vertices vs: the vertices are distinct, at most 64 and below 64, no distance exceeds 63
-- arcs of cost 65,535, a vertex is at no distance from itself, and a way by a third vertex is no shorter. `Laws.Plan`: the required
-- vertices of a plan that is not cut off are so.
pub record Metric (d : ℕ → ℕ → ℕ) (vs : List ℕ) : Type 0 where
  pub once : (i : ℕ) → occurrences i vs ≤ 1
  pub size : length vs ≤ 64
  pub small : (i : ℕ) → Memᴰ i vs → i < 64
  pub bound : (i j : ℕ) → Memᴰ i vs → Memᴰ j vs → d i j ≤ 4128705
  pub self : (i : ℕ) → Memᴰ i vs → d i i ≡ 0
  pub triangle : (i k j : ℕ) → Memᴰ i vs → Memᴰ k vs → Memᴰ j vs → d i j ≤ d i k + d k j

-- Every number of the list us is one of vs.
abbrev pub AllIn : List ℕ → List ℕ → Type 0
AllIn vs us = (k : ℕ) → k < length us → Memᴰ (get_or us k 0) vs

-- The arcs join vertices of vs.
abbrev pub Joining : List ℕ → List Link → Type 0
Joining vs arcs = (a : Link) → Memᴰ a arcs → Memᴰ a.tail vs × Memᴰ a.head vs

-- At most so many arcs are added to a state: more than 256 required arcs and 7 links.
abbrev pub limit : ℕ
limit = 1000

-- The numbers of a state are small: an arc adds at most one to an amount, and to a potential at most a
-- residual length, which two distances bound.
pub record Small (s : State) : Type 0 where
  pub long_amounts : length s.amounts ≡ 4096
  pub long_potentials : length s.potentials ≡ 64
  pub few : (k : ℕ) → get_or s.amounts k 0 ≤ s.count
  pub low : (k : ℕ) → get_or s.potentials k 0 ≤ s.count * 8257410
  pub cheap : s.cost ≤ s.count * 8257410000

-- Nothing is sent from a vertex to itself.
abbrev pub Loopless : List ℕ → List ℕ → Type 0
Loopless vs f = (i : ℕ) → Memᴰ i vs → amount f i i ≡ 0

-- No vertex sends more than amounts of 16 bits can hold.
pub record Sparse (vs f : List ℕ) : Type 0 where
  pub once : (i : ℕ) → occurrences i vs ≤ 1
  pub small : (i : ℕ) → Memᴰ i vs → i < 64
  pub long : length f ≡ 4096
  pub loopless : Loopless vs f
  pub rows : (i : ℕ) → Memᴰ i vs → sent vs (amount f) i ≤ 64000

-- The potentials certify the amounts.
pub record Certified (d : ℕ → ℕ → ℕ) (vs : List ℕ) (s : State) : Type 0 where
  pub numbers : Small s
  pub feasible : ArePotentials d vs (potential s.potentials)
  pub tight : Tight d vs (amount s.amounts) (potential s.potentials)
  pub loopless : Loopless vs s.amounts

-- The arcs counted have these heads and tails: the amounts balance them, and the cost is what the potentials price them at.
pub record Counted (vs : List ℕ) (s : State) (hs ts : List ℕ) : Type 0 where
  pub number : s.count ≡ length hs
  pub balanced : Balances vs (amount s.amounts) hs ts
  pub priced : s.cost + sum_over ts (potential s.potentials) ≡ sum_over hs (potential s.potentials)
