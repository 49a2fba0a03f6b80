-- For a plan that is not cut off: the state that counts its required arcs and the links of t holds a least balancing and its cost, and the
-- multipliers drawn from the state of no link are the greatest.
use Rattle.std.specs.Prelude.{◌≡◌, ◌⊎◌, not, ℕ, ◌+◌, ◌*◌, ◌-◌, ◌≤◌, ◌<◌, length, get_or, ℤ, pos, nat_abs, ◌+ℤ◌, ◌≤ℤ◌, T}
use Rattle.std.proofs.Math.Path.{refl, sym, ap, subst₂, subst⁻¹}
use Rattle.std.proofs.Common.{◌∙◌, mul-le-mul_right, zero-mul, suc-mul}
use Rattle.std.proofs.Math.Logic.{inl, inr}
use mathlib.Core.List.Memᴰ
use mathlib.Core.List.{List, [], ◌∷◌, ◌++◌, map, Memᴰ}
use native.Mathlib.Omega.{arith}
use Rattle.std.proofs.Math.ListN.{length-map, length-append}
use Rattle.integers.specs.Linear.{z, zl, pos_abs}
use Rattle.postman.specs.Lists.{select, below, sum_ofℤ}
use Rattle.postman.specs.Plan.{Arc, Plan, is_required_arc, required_arcs, WellFormed}
use Rattle.postman.specs.Required.{is_required, required}
use Rattle.postman.specs.Distance.{distance}
use Rattle.postman.specs.Link.{Link}
use Rattle.postman.specs.Balancing.{heads, tails, imbalance, sum_over, IsBalancing, balancing_cost, least_balancing}
use Rattle.postman.specs.LagrangianBound.{Multipliers, reduced_cost, price_of_imbalance, AreMultipliers, AreGreatest}
use Rattle.postman.specs.PlanCall.{is_cut_off}
use Rattle.postman.specs.Laws.Membership.{map_mem, length_below}
use Rattle.postman_laws.specs.Laws.Occurrences.{mem?}
use Rattle.postman_laws.specs.Laws.Distance.{InPlan, bounded, triangle, distance_self, distance_bound}
use Rattle.postman_laws.specs.Laws.Required.{required_lt, required_once, required_ends_lem, required_below}
use Rattle.postman_laws.specs.Laws.Amounts.{Within, difference}
use Rattle.postman.specs.Steps.{Joins, amount}
use Rattle.postman_laws.specs.Laws.Balancing.{within_heads, within_tails, same_length}
use Rattle.postman_laws.specs.Laws.Existence.{linked}
use Rattle.postman_laws.specs.Laws.Selection.{select_length}
use Rattle.postman_laws.specs.Laws.LagrangianBound.{price_split}
use Rattle.balance.specs.Optimality.{ArePotentials, Tight, sent, received}
use Rattle.residual_search.specs.Step.{State, potential, empty, add, add_all}
use Rattle.balance.specs.Multipliers.{multipliers}
use Rattle.balance.specs.Balance.{required_ends, balance}
use Rattle.direct_amounts.specs.Direct.{direct}
use Rattle.balance.specs.Invariant.{Metric, Joining, limit, Certified, Counted}
use Rattle.balance.specs.Laws.Duality.{is_balancing, cost_price, slack_tight, cost_least, price_least}
use Rattle.balance.specs.Laws.Arcs.{all_counted, empty_certified, empty_counted}
use Rattle.direct_amounts.specs.Laws.DirectBalance.{direct_tight, one_way, direct_balanced}
use Rattle.balance.specs.Laws.Multipliers.{x_root, w, w_feasible, w_tight, below_greatest, M-here, M-other}

-- ---- sums of signed numbers, and of the naturals that a constant makes of them

signed_shift : (xs : List ℕ) (v : ℕ → ℤ) (q : ℕ → ℕ) (c : ℕ) → ((i : ℕ) → Memᴰ i xs → v i +ℤ pos c ≡ pos (q i))
    → sum_ofℤ (map v xs) +ℤ pos (length xs * c) ≡ pos (sum_over xs q)
unfolding sum_ofℤ sum_over
signed_shift [] v q c h = simp zl (omega (arith, zero-mul c))
signed_shift (x ∷ xs) v q c h =
    let a = h x (Memᴰ.head refl) in
    let b = signed_shift xs v q c (λ i m. h i (Memᴰ.tail m)) in
    let e = suc-mul (length xs) c in
    simp zl (omega (arith, z, simp zl at a, simp zl at b))

-- ---- the links after the required arcs

add_append : (d : ℕ → ℕ → ℕ) (vs : List ℕ) (s : State) (xs ys : List Link) → add_all d vs s (xs ++ ys) ≡ add_all d vs (add_all d vs s xs) ys
unfolding add_all
add_append d vs s [] ys = refl
add_append d vs s (x ∷ xs) ys = add_append d vs (add d vs s x.tail x.head) xs ys

-- ---- the required vertices are as a state asks

required_size : (p : Plan) → length (required p) ≤ p.n
unfolding required
required_size p = let a = select_length (is_required p) (below p.n) in let b = length_below p.n in omega arith

module _ (p : Plan) (ok : WellFormed p) (connected : T (not (is_cut_off p))) where
  ends : InPlan p
  ends = (bounded ok).ends

  pub plan_metric : Metric (distance p) (required p)
  plan_metric = record {
    once = required_once p;
    size = (let a = required_size p in let b = ok.vertices in omega arith);
    small = λ i m. required_below p ok m;
    bound = λ i j mi mj. (
        let w = linked p ok connected mi mj in
        let a = distance_bound p ends 65535 (bounded ok).costs i j w.0 (required_lt p mi) w.1 in
        let b = ok.vertices in
        let c = mul-le-mul_right {m = p.n - 1} {n = 63} 65535 (omega arith) in
        omega arith);
    self = λ i m. distance_self p ends i;
    triangle = λ i k j mi mk mj. triangle p ends i k j;
  }

  -- ---- over a table d of their distances

  module _ (d : ℕ → ℕ → ℕ) (agrees : (i j : ℕ) → Memᴰ i (required p) → Memᴰ j (required p) → d i j ≡ distance p i j) where
    pub table_metric : Metric d (required p)
    table_metric = record {
      once = plan_metric.once;
      size = plan_metric.size;
      small = plan_metric.small;
      bound = λ i j mi mj. (let e = agrees i j mi mj in let a = plan_metric.bound i j mi mj in omega arith);
      self = λ i m. agrees i i m m ∙ plan_metric.self i m;
      triangle = λ i k j mi mk mj.
          (let a = plan_metric.triangle i k j mi mk mj in let e = agrees i j mi mj in let f = agrees i k mi mk in
          let g = agrees k j mk mj in omega arith);
    }

    feasible_distance : (u : ℕ → ℕ) → ArePotentials d (required p) u → ArePotentials (distance p) (required p) u
    feasible_distance u h i j mi mj = let a = h i j mi mj in let e = agrees i j mi mj in omega arith

    tight_distance : (f : ℕ → ℕ → ℕ) (u : ℕ → ℕ) → Tight d (required p) f u → Tight (distance p) (required p) f u
    tight_distance f u h i j mi mj q = let a = h i j mi mj q in let e = agrees i j mi mj in omega arith

    module _ (t : List Link) (joins : Joins p t) (short : length t ≤ 100) where
      pub inside : Joining (required p) (required_ends p ++ t)
      unfolding required_ends
      inside a m = elim (Memᴰ.append_cases (map (λ a. record { tail = a.tail; head = a.head }) (required_arcs p)) m) [
        | inl n ↦
            let r = map_mem (λ a. record { tail = a.tail; head = a.head }) (required_arcs p) n in
            let e = required_ends_lem p ends r.1 in
            subst⁻¹ (λ (l : Link). Memᴰ l.tail (required p) × Memᴰ l.head (required p)) r.2 e
        | inr n ↦ joins a n
      ]

      ends_heads : map (λ (a : Link). a.head) (required_ends p ++ t) ≡ heads p t
      unfolding heads required_ends
      ends_heads = at (required_arcs p)
        where
          at : (arcs : List Arc)
              → map (λ (a : Link). a.head) (map (λ (a : Arc). record { tail = a.tail; head = a.head }) arcs ++ t)
              ≡ map (λ a. a.head) arcs ++ map (λ l. l.head) t
          at [] = refl
          at (a ∷ arcs) = ap (λ (l : List ℕ). a.head ∷ l) (at arcs)

      ends_tails : map (λ (a : Link). a.tail) (required_ends p ++ t) ≡ tails p t
      unfolding tails required_ends
      ends_tails = at (required_arcs p)
        where
          at : (arcs : List Arc)
              → map (λ (a : Link). a.tail) (map (λ (a : Arc). record { tail = a.tail; head = a.head }) arcs ++ t)
              ≡ map (λ a. a.tail) arcs ++ map (λ l. l.tail) t
          at [] = refl
          at (a ∷ arcs) = ap (λ (l : List ℕ). a.tail ∷ l) (at arcs)

      pub few_arcs : length (required_ends p ++ t) ≤ 356
      unfolding required_ends required_arcs
      few_arcs =
          let a = length-append (map (λ (a : Arc). record { tail = a.tail; head = a.head }) (select is_required_arc p.arcs)) t in
          let b = length-map {B = Link} (select is_required_arc p.arcs) (λ (a : Arc). record { tail = a.tail; head = a.head }) in
          let c = select_length is_required_arc p.arcs in
          let e = ok.arc_count_holds in
          omega arith

      both : Certified d (required p) (balance d p t) × Counted (required p) (balance d p t) (heads p t) (tails p t)
      unfolding balance
      both =
          let nothing : Within (required p) [] = record { once = required_once p; among = λ i m. absurd (Memᴰ.not-nil m) } in
          let l = few_arcs in
          let r = all_counted d (required p) table_metric (required_ends p ++ t) empty [] [] inside nothing nothing
          (empty_certified d (required p)) (empty_counted (required p)) (omega arith) in
          (r.0, subst₂ (Counted (required p) (add_all d (required p) empty (required_ends p ++ t))) ends_heads ends_tails r.1)

      pub balance_certified : Certified d (required p) (balance d p t)
      balance_certified = both.0

      pub balance_counted : Counted (required p) (balance d p t) (heads p t) (tails p t)
      balance_counted = both.1

      abbrev f : ℕ → ℕ → ℕ
      f = amount (balance d p t).amounts

      abbrev u : ℕ → ℕ
      u = potential (balance d p t).potentials

      -- AT THE LEAST COST
      pub amounts_least : balancing_cost (required p) (distance p) f ≡ least_balancing p t
      unfolding least_balancing
      amounts_least =
          cost_least (distance p) (triangle p ends) (distance_self p ends) (required p) f u (heads p t) (tails p t)
          (same_length p ends t joins) (within_heads p ends t joins) (within_tails p ends t joins)
          balance_counted.balanced (feasible_distance u balance_certified.feasible) (tight_distance f u balance_certified.tight)

      -- feasible and tight potentials price the arcs at the least cost
      price_at : (q : ℕ → ℕ) → ArePotentials (distance p) (required p) q → Tight (distance p) (required p) f q
          → least_balancing p t + sum_over (tails p t) q ≡ sum_over (heads p t) q
      unfolding least_balancing
      price_at q feasible tight =
          price_least (distance p) (triangle p ends) (distance_self p ends) (required p) f q (heads p t) (tails p t)
          (same_length p ends t joins) (within_heads p ends t joins) (within_tails p ends t joins)
          balance_counted.balanced feasible tight

      -- WHICH ANY STATE HOLDS that is certified and counts these arcs
      pub certified_least : (s : State) → Certified d (required p) s → Counted (required p) s (heads p t) (tails p t)
          → s.cost ≡ least_balancing p t
      unfolding least_balancing
      certified_least s c n =
          let g = amount s.amounts in
          let q = potential s.potentials in
          let a = price_least (distance p) (triangle p ends) (distance_self p ends) (required p) g q (heads p t) (tails p t)
          (same_length p ends t joins) (within_heads p ends t joins) (within_tails p ends t joins)
          n.balanced (feasible_distance q c.feasible) (tight_distance g q c.tight) in
          let b = n.priced in
          omega arith

      pub balance_least : (balance d p t).cost ≡ least_balancing p t
      balance_least = certified_least (balance d p t) balance_certified balance_counted

      pub balance_room : (balance d p t).count ≤ 356
      balance_room =
          let a = balance_counted.number in
          let b = few_arcs in
          let c = ap length ends_heads in
          let e = length-map (required_ends p ++ t) (λ (a : Link). a.head) in
          omega arith

      -- ---- the direct amounts

      abbrev g : ℕ → ℕ → ℕ
      g = amount (direct (required p) (balance d p t).amounts)

      -- THEY BALANCE
      pub direct_balances : IsBalancing (required p) (imbalance p t) g
      unfolding imbalance difference
      direct_balances =
          is_balancing (required p) g (heads p t) (tails p t)
          (direct_balanced d (required p) table_metric (balance d p t) balance_certified (heads p t) (tails p t) balance_counted)

      -- AT THE LEAST COST
      pub direct_least : balancing_cost (required p) (distance p) g ≡ least_balancing p t
      unfolding least_balancing
      direct_least =
          cost_least (distance p) (triangle p ends) (distance_self p ends) (required p) g u (heads p t) (tails p t)
          (same_length p ends t joins) (within_heads p ends t joins) (within_tails p ends t joins)
          (direct_balanced d (required p) table_metric (balance d p t) balance_certified (heads p t) (tails p t) balance_counted)
          (feasible_distance u balance_certified.feasible)
          (tight_distance g u (direct_tight d (required p) table_metric (balance d p t) balance_certified))

      -- FROM SURPLUS TO DEFICIT
      pub direct_way : (v : ℕ) → Memᴰ v (required p) → (received (required p) g v ≡ 0) ⊎ (sent (required p) g v ≡ 0)
      direct_way = one_way d (required p) table_metric (balance d p t) balance_certified

    -- ---- the multipliers

    none : Joins p []
    none l m = absurd (Memᴰ.not-nil m)

    -- what a sum over the heads less that over the tails comes to
    price_from : (v : Multipliers) (q : ℕ → ℕ) (c : ℕ) → ((i : ℕ) → Memᴰ i (required p) → v i +ℤ pos c ≡ pos (q i))
        → price_of_imbalance p v +ℤ pos (sum_over (tails p []) q) ≡ pos (sum_over (heads p []) q)
    unfolding price_of_imbalance
    price_from v q c h =
        let e = price_split p v ends [] none in
        let a = signed_shift (heads p []) v q c (λ i m. h i ((within_heads p ends [] none).among i m)) in
        let b = signed_shift (tails p []) v q c (λ i m. h i ((within_tails p ends [] none).among i m)) in
        let l = ap (λ n. n * c) (same_length p ends [] none) in
        rw e (simp zl (omega (arith, z, simp zl at a, simp zl at b)))

    -- HEIGHTS THAT ARE FEASIBLE, AND TIGHT FOR THE AMOUNTS, ARE MULTIPLIERS, once a constant is taken off
    pub heights_multipliers : (q : ℕ → ℕ) → ArePotentials d (required p) q → Tight d (required p) (amount (balance d p []).amounts) q
        → (v : Multipliers) (c : ℕ) → ((i : ℕ) → Memᴰ i (required p) → v i +ℤ pos c ≡ pos (q i))
        → ((i : ℕ) → (Memᴰ i (required p) → ⊥) → v i ≡ pos 0) → AreMultipliers p v
    unfolding reduced_cost
    heights_multipliers q feasible tight v c here other = record {
      elsewhere = other;
      feasible = λ i j mi mj. (
          let a = here i mi in
          let b = here j mj in
          let g = feasible i j mi mj in
          let e = agrees i j mi mj in
          simp zl (omega (arith, simp zl at a, simp zl at b)));
      tight =
          let a = price_from v q c here in
          let b = price_at [] none (omega arith) q (feasible_distance q feasible)
          (tight_distance (amount (balance d p []).amounts) q tight) in
          simp zl (omega (arith, simp zl at a));
    }

    -- AND MULTIPLIERS ARE FEASIBLE, AND TIGHT FOR THE AMOUNTS: nothing that is sent has a reduced cost, since they
    -- price the imbalance at what the amounts cost
    module _ (v : Multipliers) (are : AreMultipliers p v) (q : ℕ → ℕ) (c : ℕ)
        (here : (i : ℕ) → Memᴰ i (required p) → v i +ℤ pos c ≡ pos (q i)) where
      abbrev f₀ : ℕ → ℕ → ℕ
      f₀ = amount (balance d p []).amounts

      q_feasible : ArePotentials (distance p) (required p) q
      unfolding reduced_cost
      q_feasible i j mi mj =
          let a = are.feasible i j mi mj in
          let b = here i mi in
          let e = here j mj in
          omega (arith, simp zl at a, simp zl at b, simp zl at e)

      q_tight : Tight (distance p) (required p) f₀ q
      q_tight =
          let balanced = (balance_counted [] none (omega arith)).balanced in
          let a = cost_price (distance p) f₀ (required p) q (heads p []) (tails p []) (within_heads p ends [] none)
          (within_tails p ends [] none) balanced q_feasible in
          let b = amounts_least [] none (omega arith) in
          let g = price_from v q c here in
          let e = are.tight in
          slack_tight (distance p) f₀ (required p) q (heads p []) (tails p []) (within_heads p ends [] none)
          (within_tails p ends [] none) balanced q_feasible (omega (arith, z, simp zl at g))

      pub multipliers_heights : ArePotentials d (required p) q × Tight d (required p) f₀ q
      multipliers_heights = (
        (λ i j mi mj. (let h = q_feasible i j mi mj in let e = agrees i j mi mj in omega arith)),
        (λ i j mi mj o. (let h = q_tight i j mi mj o in let e = agrees i j mi mj in omega arith)),
      )

    module _ (root : ℕ) (mr : Memᴰ root (required p)) where
      abbrev s : State
      s = balance d p []

      certified : Certified d (required p) s
      certified = balance_certified [] none (omega arith)

      room : s.count < limit
      room = let a = balance_room [] none (omega arith) in omega arith

      abbrev U : Multipliers
      U i = get_or (multipliers d (required p) s root) i (pos 0)

      abbrev W : ℕ → ℕ
      W = w d (required p) table_metric s certified room root mr

      abbrev c : ℕ
      c = potential s.potentials root

      U-here : (i : ℕ) → Memᴰ i (required p) → U i +ℤ pos c ≡ pos (W i)
      U-here i m = let e = M-here d (required p) table_metric s certified room root mr i m in simp zl (omega (arith, simp zl at e))

      are_multipliers : AreMultipliers p U
      are_multipliers =
          heights_multipliers W (w_feasible d (required p) table_metric s certified room root mr)
          (w_tight d (required p) table_metric s certified room root mr) U c U-here
          (λ i n. M-other d (required p) table_metric s certified room root mr i n)

      -- other multipliers, as naturals: none is less than minus the distance from the root
      module _ (v : Multipliers) (others : AreMultipliers p v) (zero-there : v root ≡ pos 0) where
        abbrev q : ℕ → ℕ
        q i = nat_abs (v i +ℤ pos 4128705)

        q_here : (i : ℕ) → Memᴰ i (required p) → v i +ℤ pos 4128705 ≡ pos (q i)
        unfolding reduced_cost
        q_here i m =
            let a = others.feasible root i mr m in
            let b = plan_metric.bound root i mr m in
            let e = zero-there in
            sym (pos_abs (simp zl (omega (arith, z, simp zl at a))))

        q_both : ArePotentials d (required p) q × Tight d (required p) (amount s.amounts) q
        q_both = multipliers_heights v others q 4128705 q_here

        no_greater : (i : ℕ) → v i ≤ℤ U i
        no_greater i = elim (mem? i (required p)) [
          | inl m ↦
              let a = below_greatest d (required p) table_metric s certified room root mr q q_both.0 q_both.1 i m in
              let b = q_here i m in
              let c = q_here root mr in
              let e = U-here i m in
              simp zl (omega (arith, z, simp zl at b, simp zl at c, simp zl at e, zero-there))
          | inr n ↦ let a = others.elsewhere i n in let b = M-other d (required p) table_metric s certified room root mr i n in
              omega (arith, z)
        ]

      -- THE MULTIPLIERS ARE THE GREATEST
      pub multipliers_greatest : AreGreatest p root (λ i. get_or (multipliers d (required p) (balance d p []) root) i (pos 0))
      multipliers_greatest = record {
        multipliers = are_multipliers;
        at_root = (let a = U-here root mr in let b = x_root d (required p) table_metric s certified room root mr in
            omega (arith, z, simp zl at a));
        greatest = no_greater;
      }
