-- The sum of u(i) × D(i) over all vertices is that over the required ones, since u is 0 elsewhere; and it
-- is small: no D is above the number of arcs.
use Rattle.std.specs.Int.{int_max}
use Rattle.std.specs.Prelude.{◌≡◌, Bool, not, ℕ, zero, suc, ◌+◌, ◌*◌, ◌≤◌, ◌<◌, ℤ, pos, negsuc, nat_abs, ◌+ℤ◌, ◌*ℤ◌}
use Rattle.std.proofs.Math.Path.{refl, ap, subst⁻¹}
use Rattle.std.proofs.Common.{ap₂, ◌∙◌, subst}
use mathlib.Core.List.{List, [], ◌∷◌, ◌++◌, map, append-nil, Memᴰ}
use native.Mathlib.Omega.{arith}
use Rattle.std.proofs.Math.ListN.{length, get_or, length-map}
use Rattle.std.proofs.Math.Dec.{T, T_not}
use Rattle.std.proofs.Math.IntN.{zero-*ℤ}
use Rattle.integers.specs.Linear.{z, zl, Within, within_abs, abs_within, abs_add, mul_abs}
use Rattle.postman.specs.Lists.{select, sum_ofℤ, below, maxℤ}
use Rattle.postman.specs.Plan.{Plan, WellFormed, is_required_arc, required_arcs}
use Rattle.postman.specs.Required.{required, is_required}
use Rattle.postman.specs.Balancing.{heads, tails, imbalance}
use Rattle.postman.specs.LagrangianBound.{price_of_imbalance}
use Rattle.postman.specs.Laws.Tests.{cond_ind}
use Rattle.postman.specs.Laws.Membership.{select_mem, below_mem}
use Rattle.postman_laws.specs.Laws.Below.{map_below_more}
use Rattle.postman_laws.specs.Laws.Selection.{select_length}
use Rattle.postman_laws.specs.Laws.Occurrences.{occurrences_few}
use Rattle.required.specs.StepContracts.{IsImbalance}
use Rattle.network.specs.Laws.Vertices.{required_of_64}
use Rattle.pair_costs.specs.PairCosts.{multipliers_in}
use Rattle.multiplier_steps.specs.Steps.{AreSmall}
use Rattle.lagrangian.specs.Price.{price_of}

-- ---- one vertex more

sum_snoc : (xs : List ℤ) (x : ℤ) → sum_ofℤ (xs ++ x ∷ []) ≡ sum_ofℤ xs +ℤ x
unfolding sum_ofℤ
sum_snoc [] x = simp zl (omega arith)
sum_snoc (y ∷ ys) x = let h = sum_snoc ys x in simp zl (omega (arith, z, simp zl at h))

module _ (u d : List ℤ) where
  abbrev pub term : ℕ → ℤ
  term i = get_or u i (pos 0) *ℤ get_or d i (pos 0)

  pub price_none : price_of u d 0 ≡ pos 0
  unfolding price_of below sum_ofℤ
  price_none = refl

  pub price_more : (i : ℕ) → price_of u d (i + 1) ≡ price_of u d i +ℤ term i
  unfolding price_of
  price_more i = ap sum_ofℤ (map_below_more term i) ∙ sum_snoc (map term (below i)) (term i)

  module _ (hu : AreSmall 4128705 u) (hd : AreSmall 256 d) where
    term_small : (i : ℕ) → i < 64 → nat_abs (term i) ≤ 1056948480
    term_small i l = mul_abs (get_or u i (pos 0)) (get_or d i (pos 0)) 4128705 256 (within_abs (hu i l)) (within_abs (hd i l))

    price_size : (i : ℕ) → i ≤ 64 → nat_abs (price_of u d i) ≤ i * 1056948480
    price_size zero l = subst⁻¹ (λ (x : ℤ). nat_abs x ≤ 0) price_none (omega arith)
    price_size (suc i) l =
        let e : i + 1 ≡ suc i = omega arith in
        let a = abs_add (price_of u d i) (term i) in
        let b = price_size i (omega arith) in
        let c = term_small i (omega arith) in
        subst (λ n. nat_abs (price_of u d n) ≤ n * 1056948480) e
        (subst⁻¹ (λ (x : ℤ). nat_abs x ≤ (i + 1) * 1056948480) (price_more i) (omega arith))

    pub price_small : (i : ℕ) → i ≤ 64 → Within 67644702720 (price_of u d i)
    price_small i l = abs_within 67644702720 (price_of u d i) (let a = price_size i l in omega arith)

-- ---- D is small

module _ (p : Plan) (ok : WellFormed p) where
  arcs_few : length (required_arcs p) ≤ 256
  unfolding required_arcs
  arcs_few = let a = select_length is_required_arc p.arcs in let b = ok.arc_count_holds in omega arith

  pub imbalance_small : (i : ℕ) → Within 256 (imbalance p [] i)
  unfolding imbalance heads tails
  imbalance_small i =
      let hs = map (λ a. a.head) (required_arcs p) in
      let ts = map (λ a. a.tail) (required_arcs p) in
      let a = occurrences_few i (hs ++ []) in
      let b = occurrences_few i (ts ++ []) in
      let e : length (hs ++ []) ≡ length (required_arcs p) = ap length (append-nil hs) ∙ length-map (required_arcs p) (λ a. a.head) in
      let f : length (ts ++ []) ≡ length (required_arcs p) = ap length (append-nil ts) ∙ length-map (required_arcs p) (λ a. a.tail) in
      let n = arcs_few in
      record { low = simp zl (omega (arith, z)); high = simp zl (omega (arith, z)) }

-- ---- over the required vertices

sum_selected : (f : ℕ → Bool) (g h : ℕ → ℤ) (xs : List ℕ) → ((x : ℕ) → Memᴰ x xs → T (f x) → g x ≡ h x)
    → ((x : ℕ) → Memᴰ x xs → T (not (f x)) → g x ≡ pos 0) → sum_ofℤ (map g xs) ≡ sum_ofℤ (map h (select f xs))
unfolding sum_ofℤ select
sum_selected f g h [] a b = refl
sum_selected f g h (x ∷ xs) a b =
    let r = sum_selected f g h xs (λ y m. a y (Memᴰ.tail m)) (λ y m. b y (Memᴰ.tail m)) in
    cond_ind (f x) (x ∷ select f xs) (select f xs) (λ l. g x +ℤ sum_ofℤ (map g xs) ≡ sum_ofℤ (map h l))
    (λ t. ap₂ ◌+ℤ◌ (a x (Memᴰ.head refl) t) r)
    (λ t. let e = b x (Memᴰ.head refl) t in simp zl (omega (arith, z, simp zl at e, simp zl at r)))

module _ (p : Plan) (ok : WellFormed p) (u d : List ℤ) (hd : IsImbalance p d)
    (elsewhere : (i : ℕ) → (Memᴰ i (required p) → ⊥) → multipliers_in u i ≡ pos 0) where
  -- THE SUM IS THE DEFINITION'S
  pub price_is : price_of u d 64 ≡ price_of_imbalance p (multipliers_in u)
  unfolding price_of price_of_imbalance required
  price_is =
      let away : (i : ℕ) → T (not (is_required p i)) → Memᴰ i (required p) → ⊥ =
      λ i t m. T_not (is_required p i) t (select_mem (is_required p) (below p.n) m).1 in
      sum_selected (is_required p) (term u d) (λ i. multipliers_in u i *ℤ imbalance p [] i) (below 64)
      (λ i m t. ap (λ (x : ℤ). multipliers_in u i *ℤ x) (hd i (below_mem m)))
      (λ i m t. ap (λ (x : ℤ). x *ℤ get_or d i (pos 0)) (elsewhere i (away i t)) ∙ zero-*ℤ (get_or d i (pos 0)))
      ∙ ap (λ (vs : List ℕ). sum_ofℤ (map (λ i. multipliers_in u i *ℤ imbalance p [] i) vs)) (required_of_64 p ok)

-- ---- the larger of two

pub max_is : (a b : ℤ) → int_max a b ≡ maxℤ a b
unfolding maxℤ
max_is (pos a) (pos b) = grind arith
max_is (pos a) (negsuc b) = refl
max_is (negsuc a) (pos b) = refl
max_is (negsuc a) (negsuc b) = grind arith
