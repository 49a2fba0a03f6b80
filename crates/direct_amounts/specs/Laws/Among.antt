-- Nothing is sent but between the vertices vs: every pair that a step or a bypass writes to is a pair of them. By induction on the steps.
use Rattle.std.specs.Prelude.{◌≡◌, refl, length, get_or, set, ltb, eqb}
use Rattle.std.proofs.Math.Bool.{false}
use mathlib.Core.List.Memᴰ
use mathlib.Core.List.{List, [], ◌∷◌, Memᴰ}
use Prim.Native.Nat.{ℕ, zero, suc, ◌+◌, ◌*◌, ◌-◌, ◌≤◌, ◌<◌}
use Rattle.std.proofs.Math.Decide.{ℕ_discrete}
use Rattle.std.proofs.Common.{arith, get_or-set_other}
use Rattle.postman.specs.Link.{Link}
use Rattle.postman.specs.Laws.Tests.{cond_ind}
use Rattle.residual_search.specs.Fold.{fold}
use Rattle.residual_search.specs.Search.{search}
use Rattle.postman.specs.Steps.{amount}
use Rattle.residual_search.specs.Step.{State, residual_length, moved, push, augment, empty, way, add, add_all}
use Rattle.direct_amounts.specs.Direct.{passed, gained, bypass, bypass_from, bypass_vertex, direct}
use Rattle.balance.specs.Invariant.{Metric, Joining, Certified, limit}
use Rattle.residual_search.specs.Laws.Search.{searched}
use Rattle.balance.specs.Laws.Step.{residual_ground, add_certified}
use Rattle.residual_search.specs.Laws.Fill.{zero_at}

abbrev pub Among : List ℕ → List ℕ → Type 0
Among vs f = (i j : ℕ) → i < 64 → j < 64 → 0 < amount f i j → Memᴰ i vs × Memᴰ j vs

module _ (vs : List ℕ) (small : (i : ℕ) → Memᴰ i vs → i < 64) where
  among_set : (f : List ℕ) (a b x : ℕ) → Memᴰ a vs → Memᴰ b vs → Among vs f → Among vs (set f (a * 64 + b) x)
  among_set f a b x ma mb h i j li lj q =
      let la = small a ma in
      let lb = small b mb in
      elim (ℕ_discrete (i * 64 + j) (a * 64 + b)) [
        | yes e ↦ let ei : i ≡ a = omega arith in let ej : j ≡ b = omega arith in (Memᴰ.cast ei ma, Memᴰ.cast ej mb)
        | no n ↦ let e = get_or-set_other f (a * 64 + b) (i * 64 + j) x 0 n in h i j li lj (omega arith)
      ]

  among_push : (f : List ℕ) (v w : ℕ) → Memᴰ v vs → Memᴰ w vs → Among vs f → Among vs (push f v w)
  among_push f v w mv mw h =
      cond_ind (ltb 0 (amount f w v)) (w * 64 + v) (v * 64 + w) (λ k. Among vs (set f k (moved (amount f w v) (amount f v w))))
      (λ t. among_set f w v (moved (amount f w v) (amount f v w)) mw mv h)
      (λ t. among_set f v w (moved (amount f w v) (amount f v w)) mv mw h)

  among_augment : (next : List ℕ) (t : ℕ) → ((v : ℕ) → Memᴰ v vs → Memᴰ (get_or next v 0) vs) → (n : ℕ) (f : List ℕ) (v : ℕ)
      → Memᴰ v vs → Among vs f → Among vs (augment next t n f v)
  unfolding augment
  among_augment next t on zero f v mv h = h
  among_augment next t on (suc n) f v mv h =
      let r = among_augment next t on n (push f v (get_or next v 0)) (get_or next v 0) (on v mv)
      (among_push f v (get_or next v 0) mv (on v mv) h) in
      cond_ind (eqb v t) f (augment next t n (push f v (get_or next v 0)) (get_or next v 0)) (Among vs) (λ y. h) (λ y. r)

  among_bypass : (f : List ℕ) (a b c : ℕ) → Memᴰ a vs → Memᴰ b vs → Memᴰ c vs → Among vs f → Among vs (bypass f a b c)
  among_bypass f a b c ma mb mc h =
      let g = set f (a * 64 + b) (amount f a b - passed f a b c) in
      among_set (set g (b * 64 + c) (amount f b c - passed f a b c)) a c (gained a c (amount f a c) (passed f a b c)) ma mc
      (among_set g b c (amount f b c - passed f a b c) mb mc (among_set f a b (amount f a b - passed f a b c) ma mb h))

  -- what each of some vertices keeps, all of them keep
  among_fold : (g : List ℕ → ℕ → List ℕ) → ((f : List ℕ) (v : ℕ) → Memᴰ v vs → Among vs f → Among vs (g f v))
      → (us : List ℕ) → ((v : ℕ) → Memᴰ v us → Memᴰ v vs) → (f : List ℕ) → Among vs f → Among vs (fold g f us)
  unfolding fold
  among_fold g k [] sub f h = h
  among_fold g k (u ∷ us) sub f h = among_fold g k us (λ v m. sub v (Memᴰ.tail m)) (g f u) (k f u (sub u (Memᴰ.head refl)) h)

  pub among_direct : (f : List ℕ) → Among vs f → Among vs (direct vs f)
  unfolding direct bypass_vertex bypass_from
  among_direct f h =
      among_fold (bypass_vertex vs)
      (λ f b mb. among_fold (bypass_from vs b)
      (λ f a ma. among_fold (λ g c. bypass g a b c) (λ f c mc. among_bypass f a b c ma mb mc) vs (λ v m. m) f) vs (λ v m. m) f)
      vs (λ v m. m) f h

module _ (d : ℕ → ℕ → ℕ) (vs : List ℕ) (metric : Metric d vs) where
  among_add : (s : State) → Certified d vs s → s.count < limit → (t h : ℕ) → Memᴰ t vs → Memᴰ h vs → Among vs s.amounts
      → Among vs (add d vs s t h).amounts
  unfolding add way
  among_add s c room t h mt mh a =
      let r = searched (residual_length d s.amounts s.potentials) vs t (residual_ground d vs metric s c room t mt) false h mh in
      among_augment vs metric.small (search (residual_length d s.amounts s.potentials) vs t false h).next t r.1.onward 64
      s.amounts h mh a

  pub among_all : (arcs : List Link) (s : State) → Joining vs arcs → Certified d vs s → s.count + length arcs ≤ limit
      → Among vs s.amounts → Among vs (add_all d vs s arcs).amounts
  unfolding add_all add
  among_all [] s inside c l h = h
  among_all (a ∷ arcs) s inside c l h =
      let m = inside a (Memᴰ.head refl) in
      among_all arcs (add d vs s a.tail a.head) (λ b k. inside b (Memᴰ.tail k))
      (add_certified d vs metric s c (omega arith) a.tail a.head m.0 m.1) (omega arith)
      (among_add s c (omega arith) a.tail a.head m.0 m.1 h)

pub among_empty : (vs : List ℕ) → Among vs empty.amounts
unfolding empty
among_empty vs i j li lj q = let e = zero_at {A = ℕ} 4096 (i * 64 + j) 0 in absurd (omega arith)
