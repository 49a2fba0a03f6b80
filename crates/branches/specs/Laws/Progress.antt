-- Trees that are passed over: those that are skipped, those for which nothing is left, those that cost no less than the best so far. One at
-- a time, and `pass_over` of n + 1 is that of 1 and then of n. Trees that are tried from the start: the first of least cost among them, and
-- going on where a search stopped is one search.
use Rattle.std.specs.Prelude.{◌≡◌, ◌⊎◌, Bool, take, ltb}
use Rattle.std.proofs.Math.Path.{refl, sym, ap}
use Rattle.std.proofs.Common.{◌∙◌, lt-ltb, le-ltb}
use Rattle.std.proofs.Math.Logic.{inl, inr}
use Rattle.std.proofs.Math.Bool.{true, false, cond}
use mathlib.Core.List.{List, [], ◌∷◌, ◌++◌, Memᴰ}
use Prim.Native.Nat.{ℕ, zero, suc, ◌+◌, ◌-◌, ◌≤◌, ◌<◌}
use Rattle.std.proofs.Math.Decide.{dec_lt}
use native.Mathlib.Omega.{arith}
use Rattle.std.proofs.Math.ListN.{length}
use Rattle.postman.specs.Lists.{argmin_from, argmin}
use Rattle.postman.specs.Link.{Link}
use Rattle.branches.specs.Progress.{Held, held, pass_over, keep, try_tree, advance}

pub held_same : {c c' : ℕ} {l : List Link} {s s' n n' : ℕ} → c ≡ c' → s ≡ s' → n ≡ n' → held c l s n ≡ held c' l s' n'
held_same {c} {c'} {l} {s} {s'} {n} {n'} ec es en = ap (λ z. held z l s n) ec ∙ ap (λ z. held c' l z n) es ∙ ap (λ z. held c' l s' z) en

-- nothing is passed over
pub pass_none : (h : Held) → h ≡ pass_over h 0
pass_none h =
    held_same refl (let e : h.skip ≡ h.skip - 0 = omega arith in e) (let e : h.left ≡ h.left - (0 - h.skip) = omega arith in e)

less_twice : (x y z : ℕ) → x - y - z ≡ x - (y + z)
less_twice x y z = omega arith

-- what is left after m trees and then n, where s are skipped first
left_after : (s m n : ℕ) → m - s + (n - (s - m)) ≡ m + n - s
left_after s m n = omega arith

pub pass_more : (h : Held) (m n : ℕ) → pass_over (pass_over h m) n ≡ pass_over h (m + n)
pass_more h m n =
    held_same refl (less_twice h.skip m n)
    (less_twice h.left (m - h.skip) (n - (h.skip - m)) ∙ ap (λ x. h.left - x) (left_after h.skip m n))

module _ (f : List Link → ℕ) where
  pub advance_append : (h : Held) (ts us : List (List Link)) → advance f h (ts ++ us) ≡ advance f (advance f h ts) us
  unfolding advance
  advance_append h [] us = refl
  advance_append h (t ∷ ts) us = advance_append (try_tree f h t) ts us

  module _ (h : Held) (t : List Link) where
    pub try_skipped : 0 < h.skip → try_tree f h t ≡ pass_over h 1
    unfolding try_tree
    try_skipped l = ap (λ b. cond b (pass_over h 1) (cond (ltb 0 h.left) (pass_over (keep h (f t) t) 1) h)) (lt-ltb 0 h.skip l)

    none_skipped : h.skip ≡ 0 → try_tree f h t ≡ cond (ltb 0 h.left) (pass_over (keep h (f t) t) 1) h
    unfolding try_tree
    none_skipped e =
        ap (λ b. cond b (pass_over h 1) (cond (ltb 0 h.left) (pass_over (keep h (f t) t) 1) h)) (le-ltb 0 h.skip (omega arith))

    pub try_left : h.skip ≡ 0 → 0 < h.left → try_tree f h t ≡ pass_over (keep h (f t) t) 1
    try_left e l = none_skipped e ∙ ap (λ b. cond b (pass_over (keep h (f t) t) 1) h) (lt-ltb 0 h.left l)

    pub try_none : h.left ≡ 0 → try_tree f h t ≡ pass_over h 1
    try_none e = elim (dec_lt 0 h.skip) [
      | yes l ↦ try_skipped l
      | no l ↦
          none_skipped (omega arith) ∙ ap (λ b. cond b (pass_over (keep h (f t) t) 1) h) (le-ltb 0 h.left (omega arith))
          ∙ held_same refl (let g : h.skip ≡ h.skip - 1 = omega arith in g) (let g : h.left ≡ h.left - (1 - h.skip) = omega arith in g)
    ]

    pub keep_no : h.cost ≤ f t → keep h (f t) t ≡ h
    keep_no l = ap (λ b. cond b (held (f t) t h.skip h.left) h) (le-ltb (f t) h.cost l)

    pub keep_yes : f t < h.cost → keep h (f t) t ≡ held (f t) t h.skip h.left
    keep_yes l = ap (λ b. cond b (held (f t) t h.skip h.left) h) (lt-ltb (f t) h.cost l)

    try_dear : h.cost ≤ f t → try_tree f h t ≡ pass_over h 1
    try_dear l = elim (dec_lt 0 h.skip) [
      | yes s ↦ try_skipped s
      | no s ↦ elim
          (dec_lt 0 h.left) [
            | yes n ↦ try_left (omega arith) n ∙ ap (λ (g : Held). pass_over g 1) (keep_no l)
            | no n ↦
                try_none (omega arith)
          ]
    ]

  -- THE TREES ARE PASSED OVER
  abbrev pub Idle : Held → List (List Link) → Type 0
  Idle h ts = ((t : List Link) → Memᴰ t ts → h.cost ≤ f t) ⊎ ((length ts ≤ h.skip) ⊎ (h.left ≡ 0))

  pub passed_over : (h : Held) (ts : List (List Link)) → Idle h ts → advance f h ts ≡ pass_over h (length ts)
  unfolding advance
  passed_over h [] i = pass_none h
  passed_over h (t ∷ ts) i =
      let one : try_tree f h t ≡ pass_over h 1 = elim i [
        | inl d ↦ try_dear h t (d t (Memᴰ.head refl))
        | inr o ↦ elim o [ inl s ↦ try_skipped h t (omega arith) | inr e ↦ try_none h t e ]
      ] in
      let rest : Idle (pass_over h 1) ts = elim i [
        | inl d ↦ inl (λ u m. d u (Memᴰ.tail m))
        | inr o ↦ elim o [ inl s ↦ inr (inl (omega arith)) | inr e ↦ inr (inr (omega arith)) ]
      ] in
      ap (λ (g : Held). advance f g ts) one ∙ passed_over (pass_over h 1) ts rest ∙ pass_more h 1 (length ts)
      ∙ ap (pass_over h) (let e : 1 + length ts ≡ suc (length ts) = omega arith in e)

  -- ---- from the start

  tried_from : (x : List Link) (n : ℕ) (ts : List (List Link)) → advance f (held (f x) x 0 n) ts
      ≡ held (f (argmin_from f x (take n ts))) (argmin_from f x (take n ts)) 0 (n - length ts)
  unfolding advance argmin_from
  tried_from x zero ts =
      passed_over (held (f x) x 0 0) ts (inr (inr refl))
      ∙ held_same refl (let e : 0 - length ts ≡ 0 = omega arith in e) (let e : 0 - (length ts - 0) ≡ 0 - length ts = omega arith in e)
      ∙ none ts
    where
      none : (ts : List (List Link))
          → held (f x) x 0 (0 - length ts) ≡ held (f (argmin_from f x (take 0 ts))) (argmin_from f x (take 0 ts)) 0 (0 - length ts)
      none [] = refl
      none (t ∷ ts) = refl
  tried_from x (suc n) [] = held_same refl refl (let e : suc n ≡ suc n - 0 = omega arith in e)
  tried_from x (suc n) (t ∷ ts) =
      ap (λ (g : Held). advance f g ts) (try_left (held (f x) x 0 (suc n)) t refl (omega arith))
      ∙ next (ltb (f t) (f x)) (λ y. tried_from y n ts)
    where
      next : (b : Bool)
          → ((y : List Link)
          → advance f (held (f y) y 0 n) ts ≡ held (f (argmin_from f y (take n ts))) (argmin_from f y (take n ts)) 0 (n - length ts))
          → advance f (pass_over (cond b (held (f t) t 0 (suc n)) (held (f x) x 0 (suc n))) 1) ts
          ≡ held (f (argmin_from f (cond b t x) (take n ts))) (argmin_from f (cond b t x) (take n ts)) 0 (suc n - suc (length ts))
      next true law =
          ap (λ z. advance f (held (f t) t 0 z) ts) (let e : suc n - (1 - 0) ≡ n = omega arith in e) ∙ law t
          ∙ held_same refl refl (let e : n - length ts ≡ suc n - suc (length ts) = omega arith in e)
      next false law =
          ap (λ z. advance f (held (f x) x 0 z) ts) (let e : suc n - (1 - 0) ≡ n = omega arith in e) ∙ law x
          ∙ held_same refl refl (let e : n - length ts ≡ suc n - suc (length ts) = omega arith in e)

  -- THE FIRST OF LEAST COST AMONG THE FIRST n
  pub tried_first : (big : ℕ) (l : List Link) (n : ℕ) (ts : List (List Link)) → 1 ≤ n → 0 < length ts
      → ((t : List Link) → Memᴰ t ts → f t < big)
      → advance f (held big l 0 n) ts ≡ held (f (argmin f [] (take n ts))) (argmin f [] (take n ts)) 0 (n - length ts)
  unfolding advance argmin
  tried_first big l zero ts one some small = absurd (omega arith)
  tried_first big l (suc n) [] one some small = absurd (omega arith)
  tried_first big l (suc n) (t ∷ ts) one some small =
      ap (λ (g : Held). advance f g ts) (try_left (held big l 0 (suc n)) t refl (omega arith)
      ∙ ap (λ (g : Held). pass_over g 1) (keep_yes (held big l 0 (suc n)) t (small t (Memᴰ.head refl)))
      ∙ held_same refl refl (let e : suc n - (1 - 0) ≡ n = omega arith in e))
      ∙ tried_from t n ts ∙ held_same refl refl (let e : n - length ts ≡ suc n - suc (length ts) = omega arith in e)

  -- ---- going on

  -- GOING ON AFTER m TREES IS ONE SEARCH OF m + n
  pub goes_on : (c : ℕ) (l : List Link) (m n : ℕ) (ts : List (List Link)) → m ≤ length ts
      → advance f (let h = advance f (held c l 0 m) ts in held h.cost h.links m n) ts ≡ advance f (held c l 0 (m + n)) ts
  unfolding advance
  goes_on c l zero n ts few =
      ap (λ (h : Held). advance f (held h.cost h.links 0 n) ts) (passed_over (held c l 0 0) ts (inr (inr refl)))
      ∙ ap (λ z. advance f (held c l 0 z) ts) (let e : n ≡ 0 + n = omega arith in e)
  goes_on c l (suc m) n [] few = absurd (omega arith)
  goes_on c l (suc m) n (t ∷ ts) few =
      let g = keep (held c l 0 (suc m)) (f t) t in
      let a : try_tree f (held c l 0 (suc m)) t ≡ held g.cost g.links 0 m =
      try_left (held c l 0 (suc m)) t refl (omega arith) ∙ shorter (ltb (f t) c) in
      let b : try_tree f (held c l 0 (suc m + n)) t ≡ held g.cost g.links 0 (m + n) =
      try_left (held c l 0 (suc m + n)) t refl (omega arith) ∙ longer (ltb (f t) c) in
      ap (λ (x : Held). advance f (try_tree f (let h = advance f x ts in held h.cost h.links (suc m) n) t) ts) a
      ∙ (let h = advance f (held g.cost g.links 0 m) ts in
      ap (λ (x : Held). advance f x ts) (try_skipped (held h.cost h.links (suc m) n) t (omega arith)
      ∙ held_same refl (let e : suc m - 1 ≡ m = omega arith in e) (let e : n - (1 - suc m) ≡ n = omega arith in e)))
      ∙ goes_on g.cost g.links m n ts (omega arith) ∙ sym (ap (λ (x : Held). advance f x ts) b)
    where
      shorter : (b : Bool) → pass_over (cond b (held (f t) t 0 (suc m)) (held c l 0 (suc m))) 1
          ≡ held (cond b (held (f t) t 0 (suc m)) (held c l 0 (suc m))).cost
          (cond b (held (f t) t 0 (suc m)) (held c l 0 (suc m))).links 0 m
      shorter true = held_same refl refl (let e : suc m - (1 - 0) ≡ m = omega arith in e)
      shorter false = held_same refl refl (let e : suc m - (1 - 0) ≡ m = omega arith in e)

      longer : (b : Bool) → pass_over (cond b (held (f t) t 0 (suc m + n)) (held c l 0 (suc m + n))) 1
          ≡ held (cond b (held (f t) t 0 (suc m)) (held c l 0 (suc m))).cost
          (cond b (held (f t) t 0 (suc m)) (held c l 0 (suc m))).links 0 (m + n)
      longer true = held_same refl refl (let e : suc m + n - (1 - 0) ≡ m + n = omega arith in e)
      longer false = held_same refl refl (let e : suc m + n - (1 - 0) ≡ m + n = omega arith in e)
