-- Duality: the cost of amounts that balance heads hs and tails ts is the sum of u over hs less that over ts, and the reduced costs of what
-- is sent. So amounts that are tight for feasible potentials cost the least assignment of heads to tails.
use Rattle.std.specs.Prelude.{◌≡◌, length, ℤ, pos, ◌+ℤ◌, ◌≤ℤ◌}
use Rattle.std.proofs.Math.Path.{refl, sym, ap}
use Rattle.std.proofs.Common.{◌∙◌, subst₂}
use mathlib.Core.List.{List, [], ◌∷◌, map, Memᴰ}
use Prim.Native.Nat.{ℕ, zero, suc, ◌+◌, ◌*◌, ◌≤◌, ◌<◌}
use Rattle.std.proofs.Math.Nat.{mul-add, mul-zero, mul_comm}
use Rattle.std.proofs.Math.Decide.{dec_le}
use native.Mathlib.Omega.{arith}
use Rattle.integers.specs.Linear.{z, zl}
use Rattle.postman.specs.Lists.{occurrences, sum_of, sum_ofℤ}
use Rattle.postman.specs.Balancing.{sum_over, IsBalancing, balancing_cost, assignment}
use Rattle.postman_laws.specs.Laws.Sum.{sum_cong_mem, sum_none, sum_add, sum_mul, sum_swap, term_le, sum_occurrences}
use Rattle.postman_laws.specs.Laws.Amounts.{Within, within_once, difference, assignment_le}
use Rattle.postman_laws.specs.Laws.SignedSum.{sum_pos}
use Rattle.postman_laws.specs.Laws.LagrangianBound.{weak_duality}
use Rattle.balance.specs.Optimality.{ArePotentials, Tight, Balances, sent, received, reduced}

-- the reduced costs of what is sent
unfoldable pub slack : (ℕ → ℕ → ℕ) → List ℕ → (ℕ → ℕ → ℕ) → (ℕ → ℕ) → ℕ
unfolding sum_over
slack d vs f u = sum_over vs (λ i. sum_over vs (λ j. f i j * reduced d u i j))

module _ (d f : ℕ → ℕ → ℕ) (vs : List ℕ) (u : ℕ → ℕ) where
  abbrev pairs : (ℕ → ℕ → ℕ) → ℕ
  pairs g = sum_over vs (λ i. sum_over vs (λ j. g i j))

  pairs_ext : (g h : ℕ → ℕ → ℕ) → ((i j : ℕ) → Memᴰ i vs → Memᴰ j vs → g i j ≡ h i j) → pairs g ≡ pairs h
  pairs_ext g h e = sum_cong_mem vs _ _ (λ i m. sum_cong_mem vs _ _ (λ j n. e i j m n))

  pairs_add : (g h : ℕ → ℕ → ℕ) → pairs (λ i j. g i j + h i j) ≡ pairs g + pairs h
  pairs_add g h = sum_cong_mem vs _ _ (λ i m. sum_add vs (g i) (h i)) ∙ sum_add vs (λ i. sum_over vs (g i)) (λ i. sum_over vs (h i))

  by_pairs : ArePotentials d vs u → balancing_cost vs d f + pairs (λ i j. f i j * u j) ≡ pairs (λ i j. f i j * u i) + slack d vs f u
  unfolding balancing_cost slack
  by_pairs feasible =
      sym (pairs_add (λ i j. f i j * d i j) (λ i j. f i j * u j))
      ∙ pairs_ext _ _
      (λ i j m n. sym (mul-add (f i j) (d i j) (u j)) ∙ ap (λ x. f i j * x) (let h = feasible i j m n in omega arith)
      ∙ mul-add (f i j) (u i) (reduced d u i j))
      ∙ pairs_add (λ i j. f i j * u i) (λ i j. f i j * reduced d u i j)

  by_sent : pairs (λ i j. f i j * u i) ≡ sum_over vs (λ i. u i * sent vs f i)
  unfolding sent
  by_sent = sum_cong_mem vs _ _ (λ i m. sum_mul vs (λ j. f i j) (u i) ∙ mul_comm (sum_over vs (λ j. f i j)) (u i))

  by_received : pairs (λ i j. f i j * u j) ≡ sum_over vs (λ i. u i * received vs f i)
  unfolding received
  by_received =
      sum_swap vs vs (λ i j. f i j * u j)
      ∙ sum_cong_mem vs _ _ (λ j m. sum_mul vs (λ i. f i j) (u j) ∙ mul_comm (sum_over vs (λ i. f i j)) (u j))

  module _ (hs ts : List ℕ) (wh : Within vs hs) (wt : Within vs ts) (balanced : Balances vs f hs ts) where
    weighted : sum_over vs (λ i. u i * sent vs f i) + sum_over ts u ≡ sum_over vs (λ i. u i * received vs f i) + sum_over hs u
    weighted =
        ap (λ x. sum_over vs (λ i. u i * sent vs f i) + x) (sym (sum_occurrences u vs ts (within_once wt)))
        ∙ sym (sum_add vs (λ i. u i * sent vs f i) (λ i. u i * occurrences i ts))
        ∙ sum_cong_mem vs _ _
        (λ i m. sym (mul-add (u i) (sent vs f i) (occurrences i ts)) ∙ ap (λ x. u i * x) (balanced i m)
        ∙ mul-add (u i) (received vs f i) (occurrences i hs))
        ∙ sum_add vs (λ i. u i * received vs f i) (λ i. u i * occurrences i hs)
        ∙ ap (λ x. sum_over vs (λ i. u i * received vs f i) + x) (sum_occurrences u vs hs (within_once wh))

    -- DUALITY
    pub cost_price : ArePotentials d vs u → balancing_cost vs d f + sum_over ts u ≡ sum_over hs u + slack d vs f u
    cost_price feasible =
        let a = by_pairs feasible in
        let b = weighted in
        let e = by_sent in
        let g = by_received in
        omega arith

    -- under tight potentials nothing sent has a reduced cost
    pub tight_slack : Tight d vs f u → slack d vs f u ≡ 0
    unfolding slack
    tight_slack tight = sum_none vs _ (λ i m. sum_none vs _ (λ j n. at i j m n))
      where
        at : (i j : ℕ) → Memᴰ i vs → Memᴰ j vs → f i j * reduced d u i j ≡ 0
        at i j m n = elim (dec_le 1 (f i j)) [
          | yes h ↦ let e = tight i j m n h in let r : reduced d u i j ≡ 0 = omega arith in ap (λ x. f i j * x) r ∙ mul-zero (f i j)
          | no h ↦ let r : f i j ≡ 0 = omega arith in
              ap (λ x. x * reduced d u i j) r ∙ mul_comm 0 (reduced d u i j) ∙ mul-zero (reduced d u i j)
        ]

    -- and where nothing sent has one, the potentials are tight
    pub slack_tight : ArePotentials d vs u → slack d vs f u ≡ 0 → Tight d vs f u
    unfolding slack
    slack_tight feasible z i j m n h =
        let a = term_le (λ i. sum_over vs (λ j. f i j * reduced d u i j)) m in
        let b = term_le (λ j. f i j * reduced d u i j) n in
        let p : f i j * reduced d u i j ≡ 0 = omega arith in
        let r = no_product (f i j) (reduced d u i j) h p in
        let g = feasible i j m n in
        omega arith
      where
        no_product : (a b : ℕ) → 0 < a → a * b ≡ 0 → b ≡ 0
        no_product zero b h e = absurd (omega arith)
        no_product (suc a) zero h e = refl
        no_product (suc a) (suc b) h e = absurd (omega (arith, e))

-- ---- a balancing that is tight for feasible potentials is a least one

sum_of_map : (xs : List ℕ) (u : ℕ → ℕ) → sum_of (map u xs) ≡ sum_over xs u
unfolding sum_of sum_over
sum_of_map [] u = refl
sum_of_map (x ∷ xs) u = ap (λ y. u x + y) (sum_of_map xs u)

signed_sum : (xs : List ℕ) (u : ℕ → ℕ) → sum_ofℤ (map (λ i. pos (u i)) xs) ≡ pos (sum_over xs u)
signed_sum xs u = sum_pos u xs ∙ ap pos (sum_of_map xs u)

pub is_balancing : (vs : List ℕ) (f : ℕ → ℕ → ℕ) (hs ts : List ℕ) → Balances vs f hs ts → IsBalancing vs (difference hs ts) f
unfolding IsBalancing difference sent received
is_balancing vs f hs ts b i m = let e = b i m in simp zl (omega arith)

-- the price of the heads less that of the tails is at most the assignment
pub price_le : (d : ℕ → ℕ → ℕ) (vs : List ℕ) (u : ℕ → ℕ) (hs ts : List ℕ) → length hs ≡ length ts → Within vs hs → Within vs ts
    → ArePotentials d vs u
    → sum_over hs u ≤ sum_over ts u + assignment d hs ts
price_le d vs u hs ts l wh wt feasible =
    let h = weak_duality d (λ i. pos (u i)) hs ts l
    (λ s t m n. let g = feasible s t (wh.among s m) (wt.among t n) in simp zl (omega arith)) in
    let a = signed_sum hs u in
    let b = signed_sum ts u in
    let k : pos (sum_over hs u) ≤ℤ (pos (sum_over ts u) +ℤ pos (assignment d hs ts)) =
    subst₂ (λ (x y : ℤ). x ≤ℤ (y +ℤ pos (assignment d hs ts))) a b h in
    omega (arith, simp zl at k)

module _ (d : ℕ → ℕ → ℕ) (triangle : (i k j : ℕ) → d i j ≤ d i k + d k j) (self : (i : ℕ) → d i i ≡ 0) (vs : List ℕ) (f : ℕ → ℕ → ℕ)
    (u : ℕ → ℕ) (hs ts : List ℕ)
    (long : length hs ≡ length ts) (wh : Within vs hs) (wt : Within vs ts) (balanced : Balances vs f hs ts)
    (feasible : ArePotentials d vs u) (tight : Tight d vs f u) where
  -- THE THEOREM: the amounts cost the least assignment, and so does the price of the imbalance
  pub cost_least : balancing_cost vs d f ≡ assignment d hs ts
  cost_least =
      let a = cost_price d f vs u hs ts wh wt balanced feasible in
      let s = tight_slack d f vs u hs ts wh wt balanced tight in
      let b = price_le d vs u hs ts long wh wt feasible in
      let c = assignment_le d triangle self vs hs ts f long wh wt (is_balancing vs f hs ts balanced) in
      omega arith

  pub price_least : assignment d hs ts + sum_over ts u ≡ sum_over hs u
  price_least =
      let a = cost_price d f vs u hs ts wh wt balanced feasible in
      let s = tight_slack d f vs u hs ts wh wt balanced tight in
      let b = cost_least in
      omega arith
