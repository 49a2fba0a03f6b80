-- The units of amounts between required vertices: their sum by any weight is the amounts' sum by that weight.
use Rattle.std.specs.Prelude.{◌≡◌, refl, replicate}
use Rattle.std.proofs.Math.Path.{sym, ap}
use Rattle.std.proofs.Common.{ap₂, ◌∙◌, zero-mul, suc-mul, mul-one, mul_assoc}
use mathlib.Core.List.{List, [], ◌∷◌, ◌++◌, flat_map, Memᴰ}
use Prim.Native.Nat.{ℕ, zero, suc, ◌+◌, ◌*◌, ◌-◌, ◌/◌, ◌%◌, ◌≤◌, ◌<◌}
use Rattle.std.proofs.Math.Nat.{add-zero}
use Rattle.std.proofs.Math.Decide.{dec_le}
use native.Mathlib.Omega.{arith}
use Rattle.std.proofs.Math.ListN.{get_or}
use Rattle.std.proofs.Math.Dec.{T_not}
use Rattle.postman.specs.Lists.{up_from, below, delta, occurrences}
use Rattle.postman.specs.Plan.{Plan}
use Rattle.postman.specs.Required.{is_required, required}
use Rattle.postman.specs.Link.{Link}
use Rattle.postman.specs.Balancing.{sum_over}
use Rattle.postman.specs.Laws.Membership.{select_mem, up_from_mem, below_mem}
use Rattle.postman_laws.specs.Laws.Sum.{sum_cong, sum_cong_mem, sum_none, sum_some, sum_append, sum_mul, sum_delta, out_sum, in_sum, once}
use Rattle.postman_laws.specs.Laws.Required.{required_lt, required_once}
use Rattle.postman_laws.specs.Laws.Assignment.{weight}
use Rattle.postman_laws.specs.Laws.LinkLegs.{ends}
use Rattle.postman.specs.Steps.{amount, pair_at}
use Rattle.postman_laws.specs.Laws.Selection.{up_from_append}
use Rattle.drive_legs.specs.Legs.{units_below, units}
use Rattle.drive_legs.specs.Laws.Sum.{sum_select, flat_sum}

pub weight_append : (w : ℕ → ℕ → ℕ) (ls ms : List Link) → weight w (ends (ls ++ ms)) ≡ weight w (ends ls) + weight w (ends ms)
unfolding weight ends
weight_append w [] ms = omega arith
weight_append w (l ∷ ls) ms = let h = weight_append w ls ms in omega arith

weight_replicate : (w : ℕ → ℕ → ℕ) (k : ℕ) (l : Link) → weight w (ends (replicate k l)) ≡ k * w l.tail l.head
unfolding weight ends
weight_replicate w zero l = sym (zero-mul (w l.tail l.head))
weight_replicate w (suc k) l = let h = weight_replicate w k l in let e = suc-mul k (w l.tail l.head) in omega arith

weight_flat : (w : ℕ → ℕ → ℕ) (f : ℕ → ℕ) (xs : List ℕ)
    → weight w (ends (flat_map (λ x. replicate (f x) (pair_at x)) xs)) ≡ sum_over xs (λ x. f x * w (x / 64) (x % 64))
unfolding flat_map weight ends sum_over
weight_flat w f [] = refl
weight_flat w f (x ∷ xs) =
    weight_append w (replicate (f x) (pair_at x)) _ ∙ ap₂ ◌+◌ (weight_replicate w (f x) (pair_at x)) (weight_flat w f xs)

positive : (a b : ℕ) → 0 < a * b → 0 < a
positive zero b h = let e = zero-mul b in absurd (omega arith)
positive (suc a) b h = omega arith

rows : (g : ℕ → ℕ → ℕ) → sum_over (below 4096) (λ x. g (x / 64) (x % 64)) ≡ sum_over (below 64) (λ i. sum_over (below 64) (g i))
unfolding below
rows g = flat_sum g 0 64

module _ (p : Plan) (small : p.n ≤ 64) where
  -- what is 0 but at required vertices, summed over all 64
  over_required : (g : ℕ → ℕ) → ((i : ℕ) → i < 64 → 0 < g i → Memᴰ i (required p)) → sum_over (below 64) g ≡ sum_over (required p) g
  unfolding required below
  over_required g h =
      let i : p.n + (64 - p.n) ≡ 64 = omega arith in
      let zeros : (k : ℕ) → k < 64 → (Memᴰ k (required p) → ⊥) → g k ≡ 0
      = λ k l n. elim (dec_le 1 (g k)) [ yes x ↦ absurd (n (h k l x)) | no x ↦ omega arith ] in
      ap (λ z. sum_over (up_from 0 z) g) (sym i)
      ∙ ap (λ l. sum_over l g) (up_from_append 0 p.n (64 - p.n))
      ∙ sum_append (up_from 0 p.n) (up_from (0 + p.n) (64 - p.n)) g
      ∙ ap (λ z. sum_over (up_from 0 p.n) g + z)
      (sum_none (up_from (0 + p.n) (64 - p.n)) g
      (λ k m. let l = up_from_mem (0 + p.n) (64 - p.n) m in zeros k (omega arith) (λ r. let b = required_lt p r in omega arith)))
      ∙ add-zero (sum_over (up_from 0 p.n) g)
      ∙ sym (sum_select (is_required p) (up_from 0 p.n) g
      (λ k m t. let l = up_from_mem 0 p.n m in
      zeros k (omega arith) (λ r. T_not (is_required p k) t (select_mem (is_required p) (below p.n) r).1)))

  module _ (amounts : List ℕ)
      (between : (i j : ℕ) → i < 64 → j < 64 → 0 < amount amounts i j → Memᴰ i (required p) × Memᴰ j (required p)) where
    pub units_weight : (w : ℕ → ℕ → ℕ)
        → weight w (ends (units amounts)) ≡ sum_over (required p) (λ i. sum_over (required p) (λ j. amount amounts i j * w i j))
    unfolding units units_below
    units_weight w =
        let f = amount amounts in
        let g : ℕ → ℕ → ℕ = λ i j. f i j * w i j in
        let pos : (i j : ℕ) → i < 64 → j < 64 → 0 < f i j * w i j → Memᴰ i (required p) × Memᴰ j (required p)
        = λ i j k l h. between i j k l (positive (f i j) (w i j) h) in
        weight_flat w (λ x. get_or amounts x 0) (below 4096)
        ∙ sum_cong (below 4096) (λ x. get_or amounts x 0 * w (x / 64) (x % 64)) (λ x. g (x / 64) (x % 64)) (λ x.
        let e : x ≡ x / 64 * 64 + x % 64 = omega arith in ap (λ z. get_or amounts z 0 * w (x / 64) (x % 64)) e)
        ∙ rows g
        ∙ over_required (λ i. sum_over (below 64) (g i))
        (λ i l h. let r = sum_some (below 64) (g i) h in (pos i r.0 l (below_mem r.1) r.2).0)
        ∙ sum_cong_mem (required p) (λ i. sum_over (below 64) (g i)) (λ i. sum_over (required p) (g i))
        (λ i m. let l = required_lt p m in over_required (g i) (λ j k h. (pos i j (omega arith) k h).1))

    -- what leaves a, and what enters it
    pub units_out : (a : ℕ)
        → weight (λ i j. delta a i) (ends (units amounts)) ≡ sum_over (required p) (λ j. amount amounts a j) * occurrences a (required p)
    units_out a = units_weight (λ i j. delta a i) ∙ out_sum (amount amounts) (required p) a

    pub units_into : (a : ℕ)
        → weight (λ i j. delta a j) (ends (units amounts)) ≡ sum_over (required p) (λ i. amount amounts i a) * occurrences a (required p)
    units_into a = units_weight (λ i j. delta a j) ∙ in_sum (amount amounts) (required p) a

    -- one pair of vertices: as often as its amount says
    pub units_pair : (a b : ℕ) → Memᴰ a (required p) → Memᴰ b (required p)
        → weight (λ i j. delta a i * delta b j) (ends (units amounts)) ≡ amount amounts a b
    units_pair a b ma mb =
        let vs = required p in
        let f = amount amounts in
        units_weight (λ i j. delta a i * delta b j)
        ∙ sum_cong vs (λ i. sum_over vs (λ j. f i j * (delta a i * delta b j))) (λ i. f i b * delta a i * occurrences b vs) (λ i.
        sum_cong vs (λ j. f i j * (delta a i * delta b j)) (λ j. f i j * delta a i * delta b j)
        (λ j. sym (mul_assoc (f i j) (delta a i) (delta b j)))
        ∙ sum_delta vs (λ j. f i j * delta a i) b)
        ∙ sum_mul vs (λ i. f i b * delta a i) (occurrences b vs)
        ∙ ap₂ ◌*◌ (sum_delta vs (λ i. f i b) a ∙ ap (λ z. f a b * z) (once (required_once p) ma) ∙ mul-one (f a b))
        (once (required_once p) mb)
        ∙ mul-one (f a b)
