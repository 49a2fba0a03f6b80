-- The components reached from component 0, where each component q from 1 on may be entered from the components of a set g(q).
use Rattle.std.specs.Prelude.{Bool, cond, ℕ, zero, suc, ◌-◌, ◌^◌, eqb}
use Rattle.std.specs.Int.Bits.{bit_and, bit_or}

-- s with component i, where the set m of its sources meets s
unfoldable pub enter : ℕ → ℕ → ℕ → ℕ
enter m i s = cond (eqb (bit_and s m) 0) s (bit_or s (2 ^ i))

-- one try for each of the components 1 to n
unfoldable pub sweep : (ℕ → ℕ) → ℕ → ℕ → ℕ
unfolding enter
sweep g zero s = s
sweep g (suc n) s = enter (g (suc n)) (suc n) (sweep g n s)

-- from component 0 alone, r such sweeps
unfoldable pub sweeps : (ℕ → ℕ) → ℕ → ℕ → ℕ
unfolding sweep
sweeps g n zero = 1
sweeps g n (suc r) = sweep g n (sweeps g n r)

-- k sweeps reach all k components
unfoldable pub reaches_all : (ℕ → ℕ) → ℕ → Bool
unfolding sweeps
reaches_all g k = eqb (sweeps g (k - 1) k) (2 ^ k - 1)
