-- Adding an arc keeps a state certified. Distances to t obey the residual lengths, so raising the potentials by them, by no more than h's,
-- keeps every reduced cost and makes it 0 along the path from h to t.
use Rattle.std.specs.Prelude.{◌≡◌, ◌⊎◌, Bool, false, cond, length}
use Rattle.std.proofs.Math.Path.{ap, ap₂, subst⁻¹}
use Rattle.std.proofs.Common.{◌∙◌, inl, inr, lt-ltb, le-ltb}
use mathlib.Core.List.Memᴰ
use mathlib.Core.List.{List, ◌∷◌, Memᴰ}
use Prim.Native.Nat.{ℕ, ◌+◌, ◌*◌, ◌-◌, ◌≤◌, ◌<◌, min}
use Rattle.std.proofs.Math.Decide.{dec_le}
use native.Mathlib.Omega.{arith}
use Rattle.std.proofs.Math.ListN.{get_or, get_or-eq_default}
use Rattle.postman.specs.Lists.{occurrences}
use Rattle.postman.specs.Balancing.{sum_over}
use Rattle.postman_laws.specs.Laws.Occurrences.{mem?}
use Rattle.postman_laws.specs.Laws.Amounts.{Within}
use Rattle.postman.specs.Laws.Membership.{get_d_mem}
use Rattle.residual_search.specs.Bounds.{AtMost}
use Rattle.balance.specs.Optimality.{ArePotentials, Tight, Balances}
use Rattle.residual_search.specs.Search.{Found, beyond, search}
use Rattle.residual_search.specs.Until.{until, settled_by}
use Rattle.postman.specs.Steps.{amount}
use Rattle.residual_search.specs.Step.{State, potential, residual, residual_length, augment, raise, way, add, IsAdded}
use Rattle.balance.specs.Invariant.{Metric, limit, Certified, Counted}
use Rattle.balance.specs.Laws.Duality.{cost_price, tight_slack}
use Rattle.residual_search.specs.Laws.Search.{Ground, Searching, searched, goal_settled}
use Rattle.residual_search.specs.Laws.Until.{Agree, until_agrees, raise_same}
use Rattle.balance.specs.Laws.Augment.{Sent, augment_sent}
use Rattle.residual_search.specs.Laws.Fill.{fill_length, fill_other, fill_here}

-- ---- residual lengths

pub residual_back : (d ui uj back : ℕ) → 0 < back → residual d ui uj back ≡ 0
residual_back d ui uj back h = ap (λ (b : Bool). cond b 0 (d + uj - ui)) (lt-ltb 0 back h)

pub residual_ahead : (d ui uj back : ℕ) → back ≡ 0 → residual d ui uj back ≡ d + uj - ui
residual_ahead d ui uj back h = ap (λ (b : Bool). cond b 0 (d + uj - ui)) (le-ltb 0 back (omega arith))

pub residual_le : (d ui uj back : ℕ) → residual d ui uj back ≤ d + uj - ui
residual_le d ui uj back = elim (dec_le 1 back) [
  | yes h ↦ let e = residual_back d ui uj back h in omega arith
  | no h ↦ let e = residual_ahead d ui uj back (omega arith) in omega arith
]

-- the vertices are small numbers
pub vertices_small : (d : ℕ → ℕ → ℕ) (vs : List ℕ) → Metric d vs → AtMost 63 vs
vertices_small d vs metric k = elim (dec_le (k + 1) (length vs)) [
  | yes h ↦ let a = metric.small (get_or vs k 0) (get_d_mem vs 0 k (omega arith)) in omega arith
  | no h ↦ let a = get_or-eq_default vs 0 {n = k} (omega arith) in omega arith
]

module _ (d : ℕ → ℕ → ℕ) (vs : List ℕ) (metric : Metric d vs) (s : State) (certified : Certified d vs s) (room : s.count < limit) where
  abbrev f : ℕ → ℕ → ℕ
  f = amount s.amounts

  abbrev u : ℕ → ℕ
  u = potential s.potentials

  abbrev ℓ : ℕ → ℕ → ℕ
  ℓ = residual_length d s.amounts s.potentials

  -- the lengths are what the search asks
  pub residual_ground : (t : ℕ) → Memᴰ t vs → Ground ℓ vs t
  residual_ground t mt = record {
    once = metric.once;
    small = metric.small;
    target = mt;
    short = λ i j mi mj. (
        let a = residual_le (d i j) (u i) (u j) (f j i) in
        let b = metric.bound i j mi mj in
        let c = certified.numbers.low j in
        omega arith);
    still = let a = residual_le (d t t) (u t) (u t) (f t t) in let b = metric.self t mt in omega arith;
  }

  -- raises that fall along a pair by at most its residual length keep the potentials feasible and tight
  module _ (y : ℕ → ℕ) (near : (i j : ℕ) → Memᴰ i vs → Memᴰ j vs → y i ≤ y j + ℓ i j) where
    pub raised_feasible : ArePotentials d vs (λ v. u v + y v)
    raised_feasible i j mi mj =
        let c = near i j mi mj in
        let e = residual_le (d i j) (u i) (u j) (f j i) in
        let g = certified.feasible i j mi mj in
        omega arith

    pub raised_tight : Tight d vs f (λ v. u v + y v)
    raised_tight i j mi mj p =
        let c = near i j mi mj in
        let c' = near j i mj mi in
        let e = residual_le (d i j) (u i) (u j) (f j i) in
        let e' = residual_back (d j i) (u j) (u i) (f i j) p in
        let g = certified.tight i j mi mj p in
        omega arith

  module _ (t h : ℕ) (mt : Memᴰ t vs) (mh : Memᴰ h vs) where
    abbrev found : Found
    found = search ℓ vs t false h

    abbrev x : ℕ → ℕ
    x v = get_or found.distance v 0

    abbrev rank : ℕ → ℕ
    rank v = get_or found.rank v 0

    abbrev y : ℕ → ℕ
    y v = min (x v) (x h)

    state : (k : ℕ) × Searching ℓ vs t k found
    state = searched ℓ vs t (residual_ground t mt) false h mh

    settled_h : 0 < rank h
    settled_h = goal_settled ℓ vs t (residual_ground t mt) false h mh

    -- the raises obey the residual lengths
    y_near : (i j : ℕ) → Memᴰ i vs → Memᴰ j vs → y i ≤ y j + ℓ i j
    y_near i j mi mj = elim (dec_le 1 (rank j)) [
      | yes g ↦ let a = state.1.near j i mj mi g in omega arith
      | no g ↦ let a = state.1.ahead h j mh mj settled_h (omega arith) in omega arith
    ]

    -- and are just these on the way from h
    y_edge : (v : ℕ) → Memᴰ v vs → 0 < rank v → rank v ≤ rank h → y v ≡ y (get_or found.next v 0) + ℓ v (get_or found.next v 0)
    y_edge v mv g l =
        let a = state.1.sorted v h mv mh g l in
        let b = state.1.edge v mv in
        omega arith

    -- no raise is large
    x_bound : x h ≤ 8257410
    x_bound =
        let a = state.1.near t h mt mh state.1.first in
        let z = state.1.zero in
        let b = residual_le (d h t) (u h) (u t) (f t h) in
        let c = metric.bound h t mh mt in
        let e = metric.bound t h mt mh in
        let g = certified.feasible t h mt mh in
        omega arith

    -- the way found
    pub way_found : {w : Found} {last : ℕ} → w ≡ until ℓ vs t h last → last ≡ settled_by t h (length vs) → Agree vs t h w (way d vs s t h)
    unfolding way
    way_found ew el =
        subst⁻¹ (λ (w : Found). Agree vs t h w found) (ew ∙ ap (until ℓ vs t h) el) (until_agrees ℓ vs t (residual_ground t mt) h mh)

    -- what the code asks of it
    pub most_small : {w : Found} {k : ℕ} → Agree vs t h w (way d vs s t h) → k ≡ h → get_or w.distance k 0 ≤ beyond
    unfolding way
    most_small {w} agree e = let a = x_bound in let b = agree.goal_same in let c = ap (λ k. get_or w.distance k 0) e in omega arith

    -- ---- the potentials raised

    abbrev u' : ℕ → ℕ
    u' v = get_or (raise found.distance (x h) s.potentials vs) v 0

    raise_here : (v : ℕ) → Memᴰ v vs → u' v ≡ u v + y v
    unfolding raise
    raise_here v mv =
        fill_here (λ v. get_or s.potentials v 0 + min (get_or found.distance v 0) (x h)) 0 vs s.potentials v mv
        (let a = metric.small v mv in let b = certified.numbers.long_potentials in omega arith)

    raise_other : (v : ℕ) → (Memᴰ v vs → ⊥) → u' v ≡ u v
    unfolding raise
    raise_other v n = fill_other (λ v. get_or s.potentials v 0 + min (get_or found.distance v 0) (x h)) 0 vs s.potentials v n

    raise_long : length (raise found.distance (x h) s.potentials vs) ≡ 64
    unfolding raise
    raise_long =
        fill_length (λ v. get_or s.potentials v 0 + min (get_or found.distance v 0) (x h)) 0 vs s.potentials
        ∙ certified.numbers.long_potentials

    raise_low : (v : ℕ) → u' v ≤ (s.count + 1) * 8257410
    raise_low v =
        let a = certified.numbers.low v in
        let b = x_bound in
        elim (mem? v vs) [
          | inl m ↦ let e = raise_here v m in omega arith
          | inr n ↦ let e = raise_other v n in omega arith
        ]

    raise_feasible : ArePotentials d vs u'
    raise_feasible i j mi mj = let a = raise_here i mi in let b = raise_here j mj in let c = raised_feasible y y_near i j mi mj in
        omega arith

    raise_tight : Tight d vs f u'
    raise_tight i j mi mj p = let a = raise_here i mi in let b = raise_here j mj in let c = raised_tight y y_near i j mi mj p in omega arith

    -- a step of the path takes back what is sent, or has no reduced cost
    raise_step : (z : ℕ) → Memᴰ z vs → 0 < rank z → rank z ≤ rank h
        → (0 < f (get_or found.next z 0) z) ⊎ (u' z ≡ d z (get_or found.next z 0) + u' (get_or found.next z 0))
    raise_step z mz g l = elim (dec_le 1 (f (get_or found.next z 0) z)) [
      | yes p ↦ inl p
      | no p ↦
          let n = state.1.onward z mz in
          let a = raise_here z mz in
          let b = raise_here (get_or found.next z 0) n in
          let c = y_edge z mz g l in
          let e = residual_ahead (d z (get_or found.next z 0)) (u z) (u (get_or found.next z 0)) (f (get_or found.next z 0) z)
          (omega arith) in
          let q = certified.feasible z (get_or found.next z 0) mz n in
          inr (omega arith)
    ]

    -- ---- the amounts along the path

    rank_64 : rank h ≤ 64
    rank_64 = let a = state.1.recent h in let b = state.1.left in let c = metric.size in omega arith

    path_sent : Sent vs metric.once metric.small t found.next rank state.1.onward state.1.reached state.1.order d u'
        s.count h s.amounts
        (augment found.next t 64 s.amounts h)
    path_sent =
        augment_sent vs metric.once metric.small t found.next rank state.1.onward state.1.reached state.1.order d u'
        s.count 64 s.amounts h mh settled_h rank_64
        (record {
          long = certified.numbers.long_amounts;
          tight = raise_tight;
          few = λ k. (let a = certified.numbers.few k in omega arith);
          loopless = certified.loopless;
          step = λ z on. raise_step z on.member on.settled on.early;
          room = λ z on. certified.numbers.few (z * 64 + get_or found.next z 0);
        })

    -- ---- the state after

    -- ADDING AN ARC KEEPS THE STATE CERTIFIED
    pub add_certified : Certified d vs (add d vs s t h)
    unfolding add way
    add_certified = record {
      numbers = record {
        long_amounts = path_sent.long;
        long_potentials = raise_long;
        few = path_sent.few;
        low = raise_low;
        cheap = (let a = certified.numbers.cheap in let b = raise_low h in omega arith);
      };
      feasible = raise_feasible;
      tight = path_sent.tight;
      loopless = path_sent.loopless;
    }

    -- the potentials after certify the amounts before too
    pub add_tight : Tight d vs f (potential (add d vs s t h).potentials)
    unfolding add way
    add_tight = raise_tight

    within_more : (v : ℕ) (us : List ℕ) → Memᴰ v vs → Within vs us → Within vs (v ∷ us)
    within_more v us m w = record {
      once = w.once;
      among = λ i n. elim (Memᴰ.cases_cons n) [ inl e ↦ Memᴰ.cast e m | inr k ↦ w.among i k ];
    }

    module _ (hs ts : List ℕ) (wh : Within vs hs) (wt : Within vs ts) (c : Counted vs s hs ts) where
      balanced' : Balances vs (amount (augment found.next t 64 s.amounts h)) (h ∷ hs) (t ∷ ts)
      unfolding occurrences
      balanced' i m = let a = path_sent.net i m in let b = c.balanced i m in omega arith

      -- the amounts before and after have the raised potentials for a certificate, so the cost grows by what they price the arc at
      priced' : (s.cost + u' h - u' t) + sum_over (t ∷ ts) u' ≡ sum_over (h ∷ hs) u'
      unfolding sum_over
      priced' =
          let a = cost_price d f vs u hs ts wh wt c.balanced certified.feasible in
          let a₀ = tight_slack d f vs u hs ts wh wt c.balanced certified.tight in
          let b = cost_price d f vs u' hs ts wh wt c.balanced raise_feasible in
          let b₀ = tight_slack d f vs u' hs ts wh wt c.balanced raise_tight in
          let e = c.priced in
          let q = cost_price d (amount (augment found.next t 64 s.amounts h)) vs u' (h ∷ hs) (t ∷ ts) (within_more h hs mh wh)
          (within_more t ts mt wt) balanced' raise_feasible in
          let q₀ = tight_slack d (amount (augment found.next t 64 s.amounts h)) vs u' (h ∷ hs) (t ∷ ts) (within_more h hs mh wh)
          (within_more t ts mt wt) balanced' path_sent.tight in
          omega arith

      -- AND COUNTS THE ARC
      pub add_counted : Counted vs (add d vs s t h) (h ∷ hs) (t ∷ ts)
      unfolding add way
      add_counted = record { number = (let e = c.number in omega arith); balanced = balanced'; priced = priced' }

    -- ---- what the code asks, and what it puts together

    pub sum_small : {w : Found} {k : ℕ} → Agree vs t h w (way d vs s t h) → k ≡ h
        → s.cost + get_or (raise w.distance (get_or w.distance k 0) s.potentials vs) k 0 < 18446744073709551616
    unfolding way
    sum_small {w} {k} agree e =
        let a = raise_low k in
        let b = certified.numbers.cheap in
        let c = ap (λ (u : List ℕ). get_or u k 0)
        (ap (λ k. raise w.distance (get_or w.distance k 0) s.potentials vs) e ∙ raise_same s.potentials agree) in
        omega arith

  pub levels_small : AtMost beyond s.potentials
  levels_small k = let a = certified.numbers.low k in omega arith

  pub amounts_small : AtMost limit s.amounts
  amounts_small k = let a = certified.numbers.few k in omega arith

abbrev made : ℕ → List ℕ → List ℕ → ℕ → State
made n f u c = record { amounts = f; potentials = u; cost = c; count = n }

state_same : (n : ℕ) {f f' u u' : List ℕ} {c c' : ℕ} → f ≡ f' → u ≡ u' → c ≡ c' → made n f u c ≡ made n f' u' c'
state_same n {f} {f'} {u} {u'} {c} ef eu ec =
    ap (λ (q : List ℕ). made n q u c) ef ∙ ap (λ (q : List ℕ). made n f' q c) eu ∙ ap (made n f' u') ec

module _ (d : ℕ → ℕ → ℕ) (vs : List ℕ) (s : State) (t h : ℕ) where
  -- but for the amounts
  pub price_made : {w : Found} {u : List ℕ} {t' h' cost : ℕ} → Agree vs t h w (way d vs s t h) → h' ≡ h → t' ≡ t
      → u ≡ raise w.distance (get_or w.distance h' 0) s.potentials vs → cost ≡ s.cost + get_or u h' 0 - get_or u t' 0
      → IsAdded d vs s t h w.next u cost
  unfolding add
  price_made {w} {u} {t'} {h'} {cost} agree eh et eu ec =
      let r = way d vs s t h in
      let eu' : u ≡ raise r.distance (get_or r.distance h 0) s.potentials vs
      = eu ∙ ap (λ q. raise w.distance (get_or w.distance q 0) s.potentials vs) eh ∙ raise_same s.potentials agree in
      record {
        next_low = agree.inside;
        amounts_are = agree.way_same 64 s.amounts;
        potentials_are = eu';
        cost_is = ec ∙ ap₂ (λ (p q : ℕ). s.cost + get_or u p 0 - get_or u q 0) eh et
            ∙ ap (λ (u : List ℕ). s.cost + get_or u h 0 - get_or u t 0) eu';
      }

  pub add_made : {f next u : List ℕ} {cost : ℕ} → IsAdded d vs s t h next u cost → f ≡ augment next t 64 s.amounts h
      → record { amounts = f; potentials = u; cost = cost; count = s.count + 1 } ≡ add d vs s t h
  unfolding add
  add_made a ef = state_same (s.count + 1) (ef ∙ a.amounts_are) a.potentials_are a.cost_is
