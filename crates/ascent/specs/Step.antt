-- One step of the ascent, from multipliers x: a cheapest tree is found, the multipliers of its links' heads rise by s and those of their
-- tails fall, half of the last change is made once more, and all is brought back under the two conditions, from above or from below. The
-- tree is balanced where that leaves every multiplier as it is.
use Rattle.std.specs.Prelude.{Bool, true, ◌&&◌, List, ℕ, ◌-◌, ◌^◌, ℤ, pos, length}
use Rattle.std.proofs.Math.ListN.{get_or}
use Rattle.std.specs.Int.Signed.{le_z}
use Rattle.multiplier_steps.specs.Turns.{turns}
use Rattle.multiplier_steps.specs.Steps.{carried_on}
use Rattle.ascent.specs.Relax.{settled}
use Rattle.ascent_tree.specs.Offers.{offers}
use Rattle.ascent_tree.specs.Tree.{grown, along}

pub record Step : Type 0 where
  -- the multipliers after it
  pub multipliers : List ℤ
  -- the tree's cost at the multipliers before it
  pub value : ℤ
  pub balanced : Bool

abbrev pub is_same : ℤ → ℤ → Bool
is_same a b = le_z a b && le_z b a

unfoldable pub are_unmoved : List ℕ → List ℤ → List ℤ → Bool
unfolding turns
are_unmoved vs x y = turns (λ b a. b && is_same (get_or x (get_or vs a 0) (pos 0)) (get_or y (get_or vs a 0) (pos 0))) true (length vs)

module _ (d : List (List ℕ)) (f vs component : List ℕ) (k : ℕ) (up : Bool) (s : ℕ) (x before : List ℤ) where
  unfoldable pub step : Step
  unfolding offers grown along carried_on settled are_unmoved
  step =
      let o = offers d x component vs in
      let t = grown o.0 (2 ^ (k - 1)) in
      let y = along t.1 o.1 s x (2 ^ (k - 1) - 1) in
      record {
        multipliers = settled d f up vs (carried_on vs y x before);
        value = get_or t.0 (2 ^ (k - 1) - 1) (pos 0);
        balanced = are_unmoved vs y x;
      }
