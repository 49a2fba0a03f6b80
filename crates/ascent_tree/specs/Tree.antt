-- A cheapest tree over the offers m, by sets: the set of the components that are reached grows from component 0 by one component at a time,
-- entered by the cheapest offer from the set. For each set the least cost is held, and the entry by which its last component was reached,
-- the first of equal ones. A set is a number, of which bit q says whether it has component q, and stands at half that number.
use Rattle.std.specs.Prelude.{Bool, not, cond, ◌&&◌, List, ℕ, ◌+◌, ◌*◌, ◌-◌, ◌/◌, ◌%◌, ◌^◌, eqb, get_or, ℤ, pos, ◌+ℤ◌, ◌-ℤ◌}
use Rattle.std.specs.Int.Bits.{bit_and}
use Rattle.std.proofs.Math.ListN.{set, replicate}
use Rattle.std.specs.Int.Signed.{lt_z}
use Rattle.residual_search.specs.Search.{beyond}
use Rattle.multiplier_steps.specs.Turns.{turns}
use Rattle.multiplier_steps.specs.Steps.{capped}

-- For each set the least cost, and the entry, as 8 × tail + head.
abbrev pub Sets : Type 0
Sets = List ℤ × List ℕ

abbrev pub holds : ℕ → ℕ → Bool
holds s q = not (eqb (bit_and s (2 ^ q)) 0)

-- The set s with q, by its place; and whether it is better to enter q from it at cost c.
abbrev pub joined : ℕ → ℕ → ℕ
joined s q = (s + 2 ^ q) / 2

abbrev pub is_better : ℕ → ℕ → ℤ → ℤ → Bool
is_better s q c old = not (holds s q) && lt_z c old

module _ (m : List ℤ) where
  -- The cheaper of the offers to q from r and from p, where p is in the set s; that from r where they cost the same.
  abbrev pub cheaper : ℕ → ℕ → ℕ → ℕ → ℕ
  cheaper s q r p = cond (holds s p && lt_z (get_or m (p * 8 + q) (pos 0)) (get_or m (r * 8 + q) (pos 0))) p r

  unfoldable pub entry : ℕ → ℕ → ℕ
  unfolding turns
  entry s q = turns (cheaper s q) 0 8

  abbrev pub cost_by : ℕ → List ℤ → ℕ → ℕ → ℤ
  cost_by s cost p q = capped (get_or cost (s / 2) (pos 0)) +ℤ capped (get_or m (p * 8 + q) (pos 0))

  -- q is entered from the set s, unless it is in it.
  unfoldable pub enter : ℕ → Sets → ℕ → Sets
  unfolding entry
  enter s t q =
      let p = entry s q in
      let c = cost_by s t.0 p q in
      let better = is_better s q c (get_or t.0 (joined s q) (pos 0)) in (
        set t.0 (joined s q) (cond better c (get_or t.0 (joined s q) (pos 0))),
        set t.1 (joined s q) (cond better (p * 8 + q) (get_or t.1 (joined s q) 0)),
      )

  unfoldable pub extend : Sets → ℕ → Sets
  unfolding turns enter
  extend t i = turns (λ t a. enter (2 * i + 1) t (a + 1)) t 7

  -- All sets of the first n.
  unfoldable pub grown : ℕ → Sets
  unfolding turns extend
  grown n = turns extend (set (replicate 256 (pos beyond)) 0 (pos 0), replicate 256 0) n

-- The tree's links are gone back along, from the set at place t: each lets the multiplier of its head rise by s, and that of its tail fall.
abbrev pub shifted : List ℤ → ℕ → ℕ → List ℤ
shifted x pair s =
    let y = set x (pair % 64) (capped (get_or x (pair % 64) (pos 0)) +ℤ pos s) in
    set y (pair / 64 % 64) (capped (get_or y (pair / 64 % 64) (pos 0)) -ℤ pos s)

abbrev pub Walk : Type 0
Walk = List ℤ × ℕ

module _ (from at : List ℕ) (s : ℕ) where
  unfoldable pub walk_back : Walk → Walk
  walk_back w =
      cond (eqb w.1 0) w
      (shifted w.0 (get_or at (get_or from w.1 0 % 64) 0) s, w.1 - 2 ^ (get_or from w.1 0 % 8) / 2)

  unfoldable pub along : List ℤ → ℕ → List ℤ
  unfolding turns walk_back
  along x t = (turns (λ w a. walk_back w) (x, t) 7).0
