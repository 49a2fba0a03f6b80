-- Arcs added one by one to the empty state: every state on the way is certified, and counts the arcs so far, in their order.
use Rattle.std.specs.Prelude.{refl, ℕ, ◌+◌, ◌*◌, ◌≤◌, length, replicate}
use Rattle.std.proofs.Common.{sym, inl, inr, arith}
use Rattle.std.proofs.Math.Path.{subst₂}
use mathlib.Core.List.Memᴰ
use mathlib.Core.List.{List, [], ◌∷◌, ◌++◌, map, Memᴰ, append_assoc, append-nil}
use Rattle.std.proofs.lemmas.List.{length-replicate}
use Rattle.std.proofs.Math.ListN.{length-append}
use Rattle.postman.specs.Lists.{occurrences}
use Rattle.postman.specs.Link.{Link}
use Rattle.postman.specs.Balancing.{sum_over}
use Rattle.postman_laws.specs.Laws.Occurrences.{occurrences_append}
use Rattle.postman_laws.specs.Laws.Sum.{sum_none, sum_append}
use Rattle.postman_laws.specs.Laws.Amounts.{Within}
use Rattle.balance.specs.Optimality.{sent, received}
use Rattle.postman.specs.Steps.{amount}
use Rattle.residual_search.specs.Step.{State, potential, empty, add, add_all}
use Rattle.balance.specs.Invariant.{Metric, Joining, limit, Certified, Counted}
use Rattle.residual_search.specs.Laws.Fill.{zero_at}
use Rattle.balance.specs.Laws.Step.{add_certified, add_counted}

-- ---- the empty state

pub empty_certified : (d : ℕ → ℕ → ℕ) (vs : List ℕ) → Certified d vs empty
unfolding empty
empty_certified d vs = record {
  numbers = record {
    long_amounts = length-replicate {A = ℕ} 4096 0;
    long_potentials = length-replicate {A = ℕ} 64 0;
    few = λ k. (let e = zero_at {A = ℕ} 4096 k 0 in omega arith);
    low = λ k. (let e = zero_at {A = ℕ} 64 k 0 in omega arith);
    cheap = omega arith;
  };
  feasible = λ i j mi mj. (let e = zero_at {A = ℕ} 64 i 0 in omega arith);
  tight = λ i j mi mj h. (let e = zero_at {A = ℕ} 4096 (i * 64 + j) 0 in absurd (omega arith));
  loopless = λ i m. zero_at {A = ℕ} 4096 (i * 64 + i) 0;
}

pub empty_counted : (vs : List ℕ) → Counted vs empty [] []
unfolding empty sum_over occurrences sent received
empty_counted vs = record {
  number = refl;
  balanced = λ i m. (
      let a = sum_none vs (λ j. amount (replicate 4096 0) i j) (λ j n. zero_at {A = ℕ} 4096 (i * 64 + j) 0) in
      let b = sum_none vs (λ j. amount (replicate 4096 0) j i) (λ j n. zero_at {A = ℕ} 4096 (j * 64 + i) 0) in
      omega arith);
  priced = refl;
}

-- ---- one arc more, at the end

last_counted : (vs : List ℕ) (s : State) (h t : ℕ) (hs ts : List ℕ) → Counted vs s (h ∷ hs) (t ∷ ts)
    → Counted vs s (hs ++ h ∷ []) (ts ++ t ∷ [])
unfolding sum_over occurrences
last_counted vs s h t hs ts c = record {
  number = (let e = c.number in let l = length-append hs (h ∷ []) in omega arith);
  balanced = λ i m.
      (let e = c.balanced i m in let a = occurrences_append i hs (h ∷ []) in let b = occurrences_append i ts (t ∷ []) in omega arith);
  priced = (let e = c.priced in let a = sum_append hs (h ∷ []) (potential s.potentials) in
      let b = sum_append ts (t ∷ []) (potential s.potentials) in omega arith);
}

within_last : (vs us : List ℕ) (v : ℕ) → Memᴰ v vs → Within vs us → Within vs (us ++ v ∷ [])
within_last vs us v m w = record {
  once = w.once;
  among = λ i n. elim (Memᴰ.append_cases us n) [ inl k ↦ w.among i k | inr k ↦ Memᴰ.cast (Memᴰ.eq_of_singleton k) m ];
}

module _ (d : ℕ → ℕ → ℕ) (vs : List ℕ) (metric : Metric d vs) where
  pub all_counted : (arcs : List Link) (s : State) (hs ts : List ℕ) → Joining vs arcs → Within vs hs → Within vs ts → Certified d vs s
      → Counted vs s hs ts
      → length hs + length arcs ≤ limit
      → Certified d vs (add_all d vs s arcs)
      × Counted vs (add_all d vs s arcs) (hs ++ map (λ a. a.head) arcs) (ts ++ map (λ a. a.tail) arcs)
  unfolding add_all
  all_counted [] s hs ts inside wh wt c n l = (c, subst₂ (Counted vs s) (sym (append-nil hs)) (sym (append-nil ts)) n)
  all_counted (a ∷ arcs) s hs ts inside wh wt c n l =
      let m = inside a (Memᴰ.head refl) in
      let k = n.number in
      let c' = add_certified d vs metric s c (omega arith) a.tail a.head m.0 m.1 in
      let n' = last_counted vs (add d vs s a.tail a.head) a.head a.tail hs ts
      (add_counted d vs metric s c (omega arith) a.tail a.head m.0 m.1 hs ts wh wt n) in
      let e = length-append hs (a.head ∷ []) in
      let r = all_counted arcs (add d vs s a.tail a.head) (hs ++ a.head ∷ []) (ts ++ a.tail ∷ [])
      (λ b k. inside b (Memᴰ.tail k))
      (within_last vs hs a.head m.1 wh) (within_last vs ts a.tail m.0 wt) c' n' (omega arith) in (
        r.0,
        subst₂ (Counted vs (add_all d vs (add d vs s a.tail a.head) arcs))
            (append_assoc hs (a.head ∷ []) (map (λ a. a.head) arcs)) (append_assoc ts (a.tail ∷ []) (map (λ a. a.tail) arcs)) r.1,
      )
