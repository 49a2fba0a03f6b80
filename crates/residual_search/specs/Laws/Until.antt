-- What the search until the goal is the nearest finds is what the potentials and the path need. Settling the goal lowers only distances
-- beyond the goal's, to no less than that, so no distance changes up to the goal's; and it keeps the next vertex of what is settled, so the
-- path from the goal stays, since it goes on by settled vertices.
use Rattle.std.specs.Prelude.{◌≡◌, ◌≢◌, Bool, true, length, get_or, set, eqb}
use Rattle.std.proofs.Math.Path.{refl, ap, subst⁻¹}
use Rattle.std.proofs.Common.{sym, ◌∙◌, inl, inr, eq-eqb, ne_eqb, lt-ltb, le-ltb}
use Rattle.std.proofs.Math.Bool.{false, cond}
use mathlib.Core.List.{List, [], ◌∷◌, Memᴰ}
use Prim.Native.Nat.{ℕ, zero, suc, ◌+◌, ◌-◌, ◌≤◌, ◌<◌, min}
use Rattle.std.proofs.Math.Decide.{ℕ_discrete}
use native.Mathlib.Omega.{arith}
use Rattle.std.proofs.Math.Seq.{get_or-set_other}
use Rattle.residual_search.specs.Bounds.{AtMost}
use Rattle.residual_search.specs.Fold.{fold}
use Rattle.residual_search.specs.Search.{Found, nearest, start, settle, round, rounds, search}
use Rattle.residual_search.specs.Until.{settled_by, rounds_until, until}
use Rattle.residual_search.specs.Step.{push, augment, raise}
use Rattle.residual_search.specs.Laws.Search.{Ground, Searching, change, rank_here, keep, settle_step, nearest_holds, round_step, start_holds, start_here, start_other, some_vertex}
use Rattle.residual_search.specs.Laws.Turns.{rounds_end, until_end, until_on, until_none}

abbrev at : List ℕ → ℕ → ℕ
at l v = get_or l v 0

-- a is r as far as the potentials and the path from the goal need it
pub record Agree (vs : List ℕ) (t goal : ℕ) (a r : Found) : Type 0 where
  pub goal_same : at a.distance goal ≡ at r.distance goal
  pub near_same : (v : ℕ) → Memᴰ v vs
      → min (at a.distance v) (at a.distance goal) ≡ min (at r.distance v) (at r.distance goal)
  pub way_same : (n : ℕ) (f : List ℕ) → augment a.next t n f goal ≡ augment r.next t n f goal
  pub inside : AtMost 63 a.next

module _ (ℓ : ℕ → ℕ → ℕ) (vs : List ℕ) (t : ℕ) (ground : Ground ℓ vs t) (goal : ℕ) (aim : Memᴰ goal vs) where
  agree_same : (k : ℕ) (s : Found) → Searching ℓ vs t k s → Agree vs t goal s s
  agree_same k s h = record { goal_same = refl; near_same = λ v m. refl; way_same = λ n f. refl; inside = h.inside }

  -- the goal is settled
  module _ (k : ℕ) (s : Found) (before : Searching ℓ vs t k s) (fresh : at s.rank goal ≡ 0)
      (least : (v : ℕ) → Memᴰ v vs → at s.rank v ≡ 0 → at s.distance goal ≤ at s.distance v) where
    abbrev after : Found
    after = settle ℓ vs t (k + 1) goal s

    kept : (v : ℕ) → Memᴰ v vs → 0 < at after.rank v
        → (at after.distance v ≡ at s.distance v) × (at after.next v ≡ at s.next v)
    kept = keep ℓ vs t ground k goal s before aim fresh least

    settled : Searching ℓ vs t (k + 1) after
    settled = settle_step ℓ vs t ground k goal s before aim fresh least

    goal_first : 0 < at after.rank goal
    goal_first = let r = rank_here ℓ vs t ground k goal s before aim fresh least in omega arith

    path_same : (n : ℕ) (f : List ℕ) (v : ℕ) → Memᴰ v vs → 0 < at after.rank v
        → augment s.next t n f v ≡ augment after.next t n f v
    unfolding augment
    path_same zero f v m h = refl
    path_same (suc n) f v m h =
        let e = (kept v m h).1 in
        ap (cond (eqb v t) f)
        (ap (λ w. augment s.next t n (push f v w) w) (sym e)
        ∙ path_same n (push f v (at after.next v)) (at after.next v) (settled.onward v m) (settled.reached v m))

    agree_settled : Agree vs t goal s after
    agree_settled = record {
      goal_same = sym (kept goal aim goal_first).0;
      near_same = λ v m. (
          let g = (kept goal aim goal_first).0 in
          elim ((change ℓ vs t ground k goal s before aim fresh least).from v) [
            | inl p ↦ let e = p.0 in omega arith
            | inr p ↦ let e = p.0 in let l = p.2 in omega arith
          ]);
      way_same = λ n f. path_same n f goal aim goal_first;
      inside = before.inside;
    }

  agree_cast : {a a' r r' : Found} → a ≡ a' → r ≡ r' → Agree vs t goal a' r' → Agree vs t goal a r
  agree_cast {a} {a'} {r} {r'} ea er h =
      subst⁻¹ (λ (q : Found). Agree vs t goal q r) ea (subst⁻¹ (λ (q : Found). Agree vs t goal a' q) er h)

  open_goes_on : (n k : ℕ) (s : Found) → at s.rank goal ≡ 0
      → rounds ℓ vs t false goal (suc n) k s ≡ rounds ℓ vs t false goal n (k + 1) (round ℓ vs t goal k s)
  unfolding rounds
  open_goes_on n k s fresh = rw (le-ltb 0 (at s.rank goal) (omega arith))

  round_goal : (k : ℕ) (s : Found) → nearest vs goal s.distance s.rank ≡ goal → round ℓ vs t goal k s ≡ settle ℓ vs t (k + 1) goal s
  unfolding round
  round_goal k s q = ap (λ w. settle ℓ vs t (k + 1) w s) q

  round_other : (k : ℕ) (s : Found) → nearest vs goal s.distance s.rank ≢ goal
      → at (round ℓ vs t goal k s).rank goal ≡ at s.rank goal
  unfolding round settle
  round_other k s q = get_or-set_other s.rank (nearest vs goal s.distance s.rank) goal (k + 1) 0 (λ e. q (sym e))

  rounds_agree : (n k : ℕ) (s : Found) → n + k ≡ length vs → Searching ℓ vs t k s → at s.rank goal ≡ 0
      → Agree vs t goal (rounds_until ℓ vs t goal n k s) (rounds ℓ vs t false goal n k s)
  unfolding rounds_until rounds
  rounds_agree zero k s e h fresh = agree_same k s h
  rounds_agree (suc n) k s e h fresh =
      let near = nearest_holds ℓ vs t ground goal k s aim h (omega arith) in
      elim (ℕ_discrete (nearest vs goal s.distance s.rank) goal) [
        | yes q ↦
            let least : (v : ℕ) → Memᴰ v vs → at s.rank v ≡ 0 → at s.distance goal ≤ at s.distance v
            = λ v m z. let a = near.2 v m z in let b = ap (at s.distance) q in omega arith in
            let done = goal_first k s h fresh least in
            agree_cast (until_end ℓ vs t goal (suc n) k s q)
            (open_goes_on n k s fresh ∙ ap (rounds ℓ vs t false goal n (k + 1)) (round_goal k s q)
            ∙ rounds_end ℓ vs t false goal n (k + 1) (settle ℓ vs t (k + 1) goal s)
            (lt-ltb 0 (at (settle ℓ vs t (k + 1) goal s).rank goal) done))
            (agree_settled k s h fresh least)
        | no q ↦
            agree_cast (until_on ℓ vs t goal n k s q) (open_goes_on n k s fresh)
            (rounds_agree n (k + 1) (round ℓ vs t goal k s) (omega arith) (round_step ℓ vs t ground goal k s aim h (omega arith))
            (round_other k s q ∙ fresh))
      ]

  -- THE SEARCH UNTIL THE GOAL IS THE NEAREST agrees with the search until it is settled
  pub until_agrees : Agree vs t goal (until ℓ vs t goal (settled_by t goal (length vs))) (search ℓ vs t false goal)
  unfolding until search
  until_agrees = elim (ℕ_discrete t goal) [
    | yes q ↦
        let r = start_here ℓ vs t ground in
        let p = ap (at (start ℓ vs t).rank) q in
        agree_cast (ap (λ n. rounds_until ℓ vs t goal (n - 1) 1 (start ℓ vs t)) (ap (λ (b : Bool). cond b 1 (length vs)) (eq-eqb t goal q))
        ∙ none)
        (rounds_end ℓ vs t false goal (length vs - 1) 1 (start ℓ vs t) (lt-ltb 0 (at (start ℓ vs t).rank goal) (omega arith)))
        (agree_same 1 (start ℓ vs t) (start_holds ℓ vs t ground))
    | no q ↦
        agree_cast (ap (λ n. rounds_until ℓ vs t goal (n - 1) 1 (start ℓ vs t))
        (ap (λ (b : Bool). cond b 1 (length vs)) (ne_eqb t goal q))) refl
        (rounds_agree (length vs - 1) 1 (start ℓ vs t) (let h = some_vertex ℓ vs t ground ground.target in omega arith)
        (start_holds ℓ vs t ground)
        (start_other ℓ vs t ground goal (λ e. q (sym e))))
  ]
    where
      none : rounds_until ℓ vs t goal 0 1 (start ℓ vs t) ≡ start ℓ vs t
      none = until_none ℓ vs t goal 1 1 (start ℓ vs t) (omega arith)

module _ (ℓ : ℕ → ℕ → ℕ) (vs : List ℕ) (t : ℕ) (ground : Ground ℓ vs t) where
  rounds_whole : (n k : ℕ) (s : Found) → n + k ≡ length vs → Searching ℓ vs t k s → rounds_until ℓ vs t t n k s ≡ rounds ℓ vs t true t n k s
  unfolding rounds_until rounds
  rounds_whole zero k s e h = refl
  rounds_whole (suc n) k s e h =
      let near = nearest_holds ℓ vs t ground t k s ground.target h (omega arith) in
      until_on ℓ vs t t n k s (λ q. let a = ap (at s.rank) q in let b = near.1 in let c = h.first in omega arith)
      ∙ rounds_whole n (k + 1) (round ℓ vs t t k s) (omega arith) (round_step ℓ vs t ground t k s ground.target h (omega arith))

  -- with t for the goal, which is settled from the start, it goes on to the end: it is the whole search
  pub until_whole : until ℓ vs t t (length vs) ≡ search ℓ vs t true t
  unfolding until search
  until_whole =
      rounds_whole (length vs - 1) 1 (start ℓ vs t) (let h = some_vertex ℓ vs t ground ground.target in omega arith)
      (start_holds ℓ vs t ground)

-- ---- the potentials raised

raise_fold : (g g' : ℕ → ℕ) (us s : List ℕ) → ((v : ℕ) → Memᴰ v us → g v ≡ g' v)
    → fold (λ s v. set s v (g v)) s us ≡ fold (λ s v. set s v (g' v)) s us
unfolding fold
raise_fold g g' [] s h = refl
raise_fold g g' (u ∷ us) s h =
    raise_fold g g' us (set s u (g u)) (λ v m. h v (Memᴰ.tail m))
    ∙ ap (λ y. fold (λ (s : List ℕ) (v : ℕ). set s v (g' v)) (set s u y) us) (h u (Memᴰ.head refl))

pub raise_same : {vs : List ℕ} {t goal : ℕ} {a r : Found} (u : List ℕ) → Agree vs t goal a r
    → raise a.distance (at a.distance goal) u vs ≡ raise r.distance (at r.distance goal) u vs
unfolding raise
raise_same {vs} {t} {goal} {a} {r} u h = raise_fold _ _ vs u (λ v m. ap (λ y. get_or u v 0 + y) (h.near_same v m))
