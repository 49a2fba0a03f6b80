-- Two searches over the same trees, one beginning with less: they find the same, or it finds nothing and the other nothing less.
use Rattle.std.specs.Prelude.{◌≡◌, refl, ◌⊎◌, ℕ, ◌-◌, ◌≤◌, ◌<◌}
use Rattle.std.proofs.Common.{ap, ◌∙◌, inl}
use Rattle.std.proofs.Math.Path.{subst⁻¹}
use Rattle.std.proofs.Math.Logic.{inr}
use mathlib.Core.List.Memᴰ
use mathlib.Core.List.{List, [], ◌∷◌}
use Rattle.std.proofs.Math.Decide.{dec_lt}
use native.Mathlib.Omega.{arith}
use Rattle.postman.specs.Link.{Link}
use Rattle.branches.specs.Progress.{Held, held, pass_over, try_tree, advance}
use Rattle.branches.specs.Laws.Progress.{Idle, passed_over, try_left, keep_yes}

abbrev pub Agree : ℕ → Held → Held → Type 0
Agree c a b = ((a.cost ≡ b.cost) × (a.links ≡ b.links)) ⊎ ((a.cost ≡ c) × (c ≤ b.cost))

module _ (f : List Link → ℕ) where
  -- one tree that is passed over
  idle_one : (h : Held) (t : List Link) → Idle f h (t ∷ []) → try_tree f h t ≡ pass_over h 1
  unfolding advance
  idle_one h t i = passed_over f h (t ∷ []) i

  dear : (h : Held) (t : List Link) → h.cost ≤ f t → Idle f h (t ∷ [])
  dear h t l = inl (λ u m. elim (Memᴰ.cases_cons m) [ inl e ↦ subst⁻¹ (λ v. h.cost ≤ f v) e l | inr n ↦ elim n [ ] ])

  -- one tree that is kept
  kept_one : (h : Held) (t : List Link) → h.skip ≡ 0 → 0 < h.left → f t < h.cost
      → try_tree f h t ≡ pass_over (held (f t) t h.skip h.left) 1
  kept_one h t none some less = try_left f h t none some ∙ ap (λ (g : Held). pass_over g 1) (keep_yes f h t less)

  -- a search never holds more than it began with
  lower_one : (h : Held) (t : List Link) → (try_tree f h t).cost ≤ h.cost
  lower_one h t = elim (dec_lt 0 h.skip) [
    | yes o ↦ same (inr (inl (omega arith)))
    | no z ↦ elim (dec_lt 0 h.left) [
      | yes o ↦ elim (dec_lt (f t) h.cost) [
        | yes y ↦ (let e = ap (λ (g : Held). g.cost) (kept_one h t (omega arith) o y) in omega arith)
        | no y ↦ same (dear h t (omega arith))
      ]
      | no e ↦ same (inr (inr (omega arith)))
    ]
  ]
    where
      same : Idle f h (t ∷ []) → (try_tree f h t).cost ≤ h.cost
      same i = let e = ap (λ (g : Held). g.cost) (idle_one h t i) in omega arith

  pub lower : (h : Held) (ts : List (List Link)) → (advance f h ts).cost ≤ h.cost
  unfolding advance
  lower h [] = omega arith
  lower h (t ∷ ts) = let a = lower_one h t in let b = lower (try_tree f h t) ts in omega arith

  -- both go on after one tree t, by what is known of the trees after it
  module _ (c d : ℕ) (l k : List Link) (s n : ℕ) (t : List Link) (ts : List (List Link)) (le : c ≤ d)
      (again : (d : ℕ) (k : List Link) → c ≤ d
      → Agree c (advance f (pass_over (held c l s n) 1) ts) (advance f (pass_over (held d k s n) 1) ts)) where
    abbrev a : Held
    a = held c l s n

    abbrev b : Held
    b = held d k s n

    abbrev Goal : Held → Held → Type 0
    Goal x y = Agree c (advance f x ts) (advance f y ts)

    passed_first : Idle f a (t ∷ []) → (y : Held) → try_tree f b t ≡ y → Goal (pass_over a 1) y → Goal (try_tree f a t) (try_tree f b t)
    passed_first i y e g =
        subst⁻¹ (λ (x : Held). Goal x (try_tree f b t)) (idle_one a t i) (subst⁻¹ (λ (x : Held). Goal (pass_over a 1) x) e g)

    passed_both : Idle f a (t ∷ []) → Idle f b (t ∷ []) → Goal (try_tree f a t) (try_tree f b t)
    passed_both i j = passed_first i (pass_over b 1) (idle_one b t j) (again d k le)

    tried_both : s ≡ 0 → 0 < n → Goal (try_tree f a t) (try_tree f b t)
    tried_both z o = elim (dec_lt (f t) c) [
      | yes y ↦
          subst⁻¹ (λ (x : Held). Goal x (try_tree f b t)) (kept_one a t z o y)
          (subst⁻¹ (λ (x : Held). Goal (pass_over (held (f t) t s n) 1) x) (kept_one b t z o (omega arith)) (inl (refl, refl)))
      | no y ↦ elim (dec_lt (f t) d) [
        | yes w ↦ passed_first (dear a t (omega arith)) (pass_over (held (f t) t s n) 1) (kept_one b t z o w) (again (f t) t (omega arith))
        | no w ↦ passed_both (dear a t (omega arith)) (dear b t (omega arith))
      ]
    ]

    one_tree : Goal (try_tree f a t) (try_tree f b t)
    one_tree = elim (dec_lt 0 s) [
      | yes o ↦ passed_both (inr (inl (omega arith))) (inr (inl (omega arith)))
      | no z ↦ elim (dec_lt 0 n) [
        | yes o ↦ tried_both (omega arith) o
        | no e ↦ passed_both (inr (inr (omega arith))) (inr (inr (omega arith)))
      ]
    ]

  pub agree : (c d : ℕ) (l k : List Link) (s n : ℕ) (ts : List (List Link)) → c ≤ d
      → Agree c (advance f (held c l s n) ts) (advance f (held d k s n) ts)
  unfolding advance
  agree c d l k s n [] le = inr (refl, le)
  agree c d l k s n (t ∷ ts) le = one_tree c d l k s n t ts le (λ d k le. agree c d l k (s - 1) (n - (1 - s)) ts le)
