-- The multipliers are not far apart, and the fields are those of the root.
use mathlib.Core.Path.{◌≡◌, refl}
use mathlib.Core.List.{[], ◌∷◌}
use Prim.Native.Nat.{ℕ, zero, suc, ◌<◌}
use native.Mathlib.Omega.{arith}
use lib.ListN.{get_or}
use Rattle.branches.specs.Laws.Root.{can_shift, some_place, root_branch}
use Rattle.branches.proofs.branch.root.Goals as goal

-- every component has its own name
own : (c : ℕ) → c < 8 → get_or (0 ∷ 1 ∷ 2 ∷ 3 ∷ 4 ∷ 5 ∷ 6 ∷ 7 ∷ []) c 0 ≡ c
own zero l = refl
own (suc zero) l = refl
own (suc (suc zero)) l = refl
own (suc (suc (suc zero))) l = refl
own (suc (suc (suc (suc zero)))) l = refl
own (suc (suc (suc (suc (suc zero))))) l = refl
own (suc (suc (suc (suc (suc (suc zero)))))) l = refl
own (suc (suc (suc (suc (suc (suc (suc zero))))))) l = refl
own (suc (suc (suc (suc (suc (suc (suc (suc n)))))))) l = absurd (omega arith)

pub shifted-requires : goal.shifted-requires
shifted-requires c = let h = c.requires.6 in let g = c.requires.7 in (can_shift h g, some_place h g)

pub returns : goal.returns
returns c =
    λ p table start source tails heads h g. root_branch h g _ c.shifted.ensures _ record {
      nothing_chosen = refl;
      tails_size = refl;
      heads_size = refl;
      state_is = refl;
      fixed_is = refl;
      names_are = own;
      entries_are = refl;
      counts_are = c.root_counts.ensures;
    }
