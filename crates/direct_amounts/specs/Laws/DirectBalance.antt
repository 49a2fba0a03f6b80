-- The direct amounts of a certified state: they balance the same arcs, tight for the same potentials,
-- and send no more units than there are arcs.
use Rattle.std.specs.Prelude.{◌≡◌, ◌⊎◌, ◌≢◌, ℕ, ◌+◌, ◌*◌, ◌≤◌, length}
use Rattle.std.proofs.Common.{sym, ap, ◌∙◌, inl, inr, suc-mul, mul-le-mul_right, arith}
use Rattle.std.proofs.Math.Path.{subst⁻¹}
use mathlib.Core.List.{List, [], ◌∷◌, Memᴰ}
use Rattle.std.proofs.Math.Decide.{ℕ_discrete}
use Rattle.postman.specs.Balancing.{sum_over}
use Rattle.postman_laws.specs.Laws.Sum.{term_le}
use Rattle.balance.specs.Optimality.{Tight, Balances, sent, received}
use Rattle.postman.specs.Steps.{amount}
use Rattle.residual_search.specs.Step.{State, potential}
use Rattle.direct_amounts.specs.Direct.{passed, bypass, bypass_from, bypass_vertex, direct}
use Rattle.balance.specs.Invariant.{Metric, limit, Sparse, Certified, Counted}
use Rattle.residual_search.specs.Laws.Fold.{fold_all}
use Rattle.direct_amounts.specs.Laws.Direct.{bypass_passes, Kept, direct_kept, direct_one_way}

-- ---- what fits

sum_most : (vs : List ℕ) (g : ℕ → ℕ) (n : ℕ) → ((i : ℕ) → g i ≤ n) → sum_over vs g ≤ length vs * n
unfolding sum_over
sum_most [] g n h = omega arith
sum_most (v ∷ vs) g n h = let a = sum_most vs g n h in let b = h v in let e = suc-mul (length vs) n in omega arith

sum_two : {i j : ℕ} {vs : List ℕ} (g : ℕ → ℕ) → i ≢ j → Memᴰ i vs → Memᴰ j vs → g i + g j ≤ sum_over vs g
unfolding sum_over
sum_two g n (Memᴰ.head e) (Memᴰ.head f) = absurd (n (e ∙ sym f))
sum_two g n (Memᴰ.head e) (Memᴰ.tail m) = let a = ap g e in let b = term_le g m in omega arith
sum_two g n (Memᴰ.tail m) (Memᴰ.head e) = let a = ap g e in let b = term_le g m in omega arith
sum_two g n (Memᴰ.tail m) (Memᴰ.tail k) = let a = sum_two g n m k in omega arith

pub certified_sparse : (d : ℕ → ℕ → ℕ) (vs : List ℕ) → Metric d vs → (s : State) → Certified d vs s → s.count ≤ limit
    → Sparse vs s.amounts
unfolding sent
certified_sparse d vs metric s certified room = record {
  once = metric.once;
  small = metric.small;
  long = certified.numbers.long_amounts;
  loopless = certified.loopless;
  rows = λ i m. (
      let a = sum_most vs (λ j. amount s.amounts i j) limit (λ j. let b = certified.numbers.few (i * 64 + j) in omega arith) in
      let b = mul-le-mul_right {m = length vs} {n = 64} limit metric.size in
      omega arith);
}

-- passing by a vertex keeps that, and what it adds fits
pub bypass_sparse : (vs f : List ℕ) (a b c : ℕ) → Memᴰ a vs → Memᴰ b vs → Memᴰ c vs → Sparse vs f
    → Sparse vs (bypass f a b c)
bypass_sparse vs f a b c ma mb mc s =
    let p = (bypass_passes vs s.once s.small f s.long s.loopless a b c ma mb mc).falls in
    record {
      once = s.once;
      small = s.small;
      long = p.long;
      loopless = p.loopless;
      rows = λ i m. (let x = p.sends i m in let y = s.rows i m in omega arith);
    }

pub from_sparse : (vs f : List ℕ) (b a : ℕ) → Memᴰ b vs → Memᴰ a vs → Sparse vs f → Sparse vs (bypass_from vs b f a)
unfolding bypass_from
from_sparse vs f b a mb ma s = fold_all (λ g c. bypass g a b c) vs (Sparse vs) (λ g c mc q. bypass_sparse vs g a b c ma mb mc q) f s

pub vertex_sparse : (vs f : List ℕ) (b : ℕ) → Memᴰ b vs → Sparse vs f → Sparse vs (bypass_vertex vs f b)
unfolding bypass_vertex
vertex_sparse vs f b mb s = fold_all (bypass_from vs b) vs (Sparse vs) (λ g a ma q. from_sparse vs g b a mb ma q) f s

pub bypass_room : (vs f : List ℕ) (a b c : ℕ) → Memᴰ a vs → Memᴰ b vs → Memᴰ c vs → Sparse vs f
    → amount f a c + passed f a b c ≤ 64000
unfolding sent
bypass_room vs f a b c ma mb mc s =
    let r = s.rows a ma in
    elim (ℕ_discrete b c) [
      | yes e ↦ let l = s.loopless b mb in let q = ap (amount f b) e in let x = term_le (λ j. amount f a j) mc in omega arith
      | no n ↦ let x = sum_two (λ j. amount f a j) n mb mc in omega arith
    ]

-- ---- what holds

module _ (d : ℕ → ℕ → ℕ) (vs : List ℕ) (metric : Metric d vs) (s : State) (certified : Certified d vs s) where
  abbrev g : List ℕ
  g = direct vs s.amounts

  abbrev u : ℕ → ℕ
  u = potential s.potentials

  abbrev TightOf : List ℕ → Type 0
  TightOf f = Tight d vs (amount f) u

  tight_step : (f : List ℕ) (a b c : ℕ) → Memᴰ a vs → Memᴰ b vs → Memᴰ c vs → length f ≡ 4096
      → ((i : ℕ) → Memᴰ i vs → amount f i i ≡ 0) → TightOf f → TightOf (bypass f a b c)
  tight_step f a b c ma mb mc l o t i j mi mj h =
      elim ((bypass_passes vs metric.once metric.small f l o a b c ma mb mc).from i j mi mj h) [
        | inl k ↦ t i j mi mj k
        | inr k ↦
            let x = t a b ma mb k.2 in
            let y = t b c mb mc k.3 in
            let w = metric.triangle a b c ma mb mc in
            let z = certified.feasible a c ma mc in
            subst⁻¹ (λ i. u i ≡ d i j + u j) k.0 (subst⁻¹ (λ j. u a ≡ d a j + u j) k.1 (omega arith))
      ]

  direct_keeps : Kept vs metric.once metric.small TightOf tight_step s.amounts g
  direct_keeps =
      direct_kept vs metric.once metric.small TightOf tight_step s.amounts certified.numbers.long_amounts
      certified.loopless certified.tight

  -- TIGHT FOR THE SAME POTENTIALS
  pub direct_tight : Tight d vs (amount g) u
  direct_tight = direct_keeps.keep

  -- NO VERTEX BOTH SENDS AND RECEIVES
  pub one_way : (b : ℕ) → Memᴰ b vs → (received vs (amount g) b ≡ 0) ⊎ (sent vs (amount g) b ≡ 0)
  one_way = direct_one_way vs metric.once metric.small TightOf tight_step s.amounts certified.numbers.long_amounts
      certified.loopless certified.tight

  module _ (hs ts : List ℕ) (counted : Counted vs s hs ts) where
    -- BALANCING THE SAME ARCS
    pub direct_balanced : Balances vs (amount g) hs ts
    direct_balanced i m = let a = direct_keeps.falls.net i m in let b = counted.balanced i m in omega arith
