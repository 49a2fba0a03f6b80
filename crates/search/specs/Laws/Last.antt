-- A link of the last component completes a tree. The branch that it would give has no component left to be chosen for, so it is the one
-- tree; it is not made, but what the laws say of it holds: it costs what is fixed, the link's d and what the raised potentials price it at.
use Rattle.std.specs.Prelude.{◌≡◌, refl, true, false, List, [], ◌∷◌, ℕ, zero, suc, ◌+◌, ◌-◌, ◌≤◌, ◌<◌, get_or, set, take}
use Rattle.std.proofs.Common.{arith}
use Rattle.postman.specs.Plan.{Plan}
use Rattle.postman.specs.Arborescence.{candidates}
use Rattle.postman.specs.Steps.{cell}
use Rattle.residual_search.specs.Step.{State, add}
use Rattle.small_counts.specs.Arrival.{renamed}
use Rattle.branches.specs.declared.branch.Branch.{Branch}
use Rattle.branches.specs.declared.candidate.Candidate.{Candidate}
use Rattle.search.specs.declared.last.Completed.{Completed}
use Rattle.tree_bounds.specs.declared.pricing.Pricing.{Pricing}
use Rattle.branches.specs.declared.progress.Progress.{Progress}
use Rattle.tree_bounds.specs.Bound.{reduced_by}
use Rattle.branches.specs.Progress.{pass_over}
use Rattle.tree_bounds.specs.Prepared.{Prepared}
use Rattle.search.specs.StepContracts.{CanComplete, IsCompleted, IsBranchPriced, IsExplored}
use Rattle.branches.specs.Branches.{state_in, IsCandidate, IsBranch, IsBelow, repriced_branch, chosen_in}
use Rattle.branches.specs.Holding.{held_in, is_entered, IsShort}
use Rattle.tree_bounds.specs.Pricing.{Prices}
use Rattle.tree_bounds.specs.Laws.Bound.{low_none}
use Rattle.branches.specs.Laws.Below.{fixed_small}
use Rattle.search.specs.Laws.Explore.{branches, one_tree, own_prices, can_go, raised_level, raised_small, raised_kept, next_branch, next_explored, next_passed}

-- the names of the eight components by a function
eight : (ℕ → ℕ) → List ℕ
eight f = f 0 ∷ f 1 ∷ f 2 ∷ f 3 ∷ f 4 ∷ f 5 ∷ f 6 ∷ f 7 ∷ []

at_eight : (f : ℕ → ℕ) (c : ℕ) → c < 8 → get_or (eight f) c 0 ≡ f c
unfolding eight
at_eight f zero l = refl
at_eight f (suc zero) l = refl
at_eight f (suc (suc zero)) l = refl
at_eight f (suc (suc (suc zero))) l = refl
at_eight f (suc (suc (suc (suc zero)))) l = refl
at_eight f (suc (suc (suc (suc (suc zero))))) l = refl
at_eight f (suc (suc (suc (suc (suc (suc zero)))))) l = refl
at_eight f (suc (suc (suc (suc (suc (suc (suc zero))))))) l = refl
at_eight f (suc (suc (suc (suc (suc (suc (suc (suc n)))))))) l = absurd (omega arith)

module _ {p : Plan} {table : List (List ℕ)} {vs start source tails heads : List ℕ} (b : Branch)
    (h : Prepared p table vs start source tails heads (b.a + 1)) {am : List ℕ}
    (w : List ℕ) (is : IsBranch p table am (repriced_branch b w)) where
  abbrev own : Branch
  own = repriced_branch b w

  abbrev prices : Pricing
  prices = record { potentials = w; value = b.balancing; bound = b.fixed + b.balancing }

  pub last_prices : (q : Pricing) → q.potentials ≡ w → q.value ≡ b.balancing → Prices p table (chosen_in own) own.a q
  last_prices = own_prices h own is

  last_priced : IsBranchPriced p table own prices
  last_priced =
      record {
        prices = own_prices h own is prices refl refl;
        rest = 0;
        low = low_none p table w (b.a + 1);
        sum = omega arith;
        small = omega arith;
      }

  module _ (y : ℕ) (lo : get_or start b.a 0 ≤ y) (hi : y < get_or start (b.a + 1) 0) (c : Candidate)
      (is_at : IsCandidate source tails heads b.names b.counts y c) where
    more : b.a < b.a + 1
    more = omega arith

    abbrev after : State
    after = add (cell table) vs (state_in am own) c.tail c.head

    pub can_complete : CanComplete table vs am b w c.tail c.head
    can_complete = record {
      one = is.one;
      few = (let m = is.most in let f = h.few in omega arith);
      link = (can_go h own is more y lo hi c is_at).link;
      fixed_small = (let f = fixed_small h own is in omega arith);
      cost_small = raised_small h own is more y lo hi c is_at;
      level = raised_level h own is more y lo hi c is_at;
    }

    -- the branch below, which is not made
    abbrev n : Branch
    n = record {
      a = b.a + 1;
      tails = set b.tails (b.a - 1) c.tail;
      heads = set b.heads (b.a - 1) c.head;
      potentials = after.potentials;
      balancing = after.cost;
      count = after.count;
      fixed = b.fixed + cell table c.tail c.head;
      names = eight (λ i. renamed b.a c.name (get_or b.names i 0));
      entries = b.entries;
      counts = b.counts;
    }

    n_below : IsBelow table vs am own c.tail c.head c.name (b.a + 1) after.amounts n
    n_below = record {
      next = refl;
      tails_are = refl;
      heads_are = refl;
      state_is = refl;
      fixed_is = refl;
      names_are = at_eight (λ i. renamed b.a c.name (get_or b.names i 0));
      entries_are = λ l. absurd (omega arith);
    }

    -- ITS TREE IS TRIED
    module _ (r : Progress) (least : ℕ) (yes : is_entered r c.trees least ≡ true) (s : Completed)
        (done : IsCompleted table vs am b w c.tail c.head r s) where
      n_branch : IsBranch p table after.amounts n
      n_branch = next_branch h own is more y lo hi c is_at r least yes after.amounts n n_below
          (λ l. absurd (let e = h.count in omega arith))

      pub last_explored : (g : Progress) → IsExplored p (branches h own is (take (y - get_or start b.a 0) (candidates p b.a))) g r
          → IsExplored p (branches h own is (take (y - get_or start b.a 0 + 1) (candidates p b.a))) g s.progress
      last_explored g before =
          next_explored h own is more y lo hi c is_at r least yes after.amounts n n_below g s.progress before
          (one_tree h n n_branch refl r s.progress done.tried)

      pub last_kept : IsBranch p table am (repriced_branch b s.potentials)
      last_kept = raised_kept h own is more y lo hi c is_at s.potentials done.levelled

    -- IT IS PASSED OVER
    pub last_passed : (g r s : Progress) → IsShort r
        → IsExplored p (branches h own is (take (y - get_or start b.a 0) (candidates p b.a))) g r
        → ((i : ℕ) → held_in i s ≡ pass_over (held_in i r) c.trees)
        → is_entered r c.trees (b.fixed + b.balancing + reduced_by table w c.tail c.head) ≡ false
        → IsExplored p (branches h own is (take (y - get_or start b.a 0 + 1) (candidates p b.a))) g s
    last_passed g r s short before e out = next_passed h own is more y lo hi c is_at g r s short before e prices last_priced out
