-- What certifies that amounts between the vertices vs are a least balancing: potentials u with reduced costs d(i,j) − u(i) + u(j) that are
-- not negative, and 0 wherever something is sent. Potentials are naturals here: a constant added to all of them changes no reduced cost.
use Rattle.std.specs.Prelude.{◌≡◌, ℕ, ◌+◌, ◌-◌, ◌≤◌, ◌<◌}
use mathlib.Core.List.{List, Memᴰ}
use Rattle.postman.specs.Lists.{occurrences}
use Rattle.postman.specs.Balancing.{sum_over}

-- "d(i,j) − u(i) + u(j) ≥ 0" for every pair
abbrev pub ArePotentials : (ℕ → ℕ → ℕ) → List ℕ → (ℕ → ℕ) → Type 0
ArePotentials d vs u = (i j : ℕ) → Memᴰ i vs → Memᴰ j vs → u i ≤ d i j + u j

-- it is 0 where something is sent
abbrev pub Tight : (ℕ → ℕ → ℕ) → List ℕ → (ℕ → ℕ → ℕ) → (ℕ → ℕ) → Type 0
Tight d vs f u = (i j : ℕ) → Memᴰ i vs → Memᴰ j vs → 0 < f i j → u i ≡ d i j + u j

-- What leaves i, and what enters it.
unfoldable pub sent : List ℕ → (ℕ → ℕ → ℕ) → ℕ → ℕ
unfolding sum_over
sent vs f i = sum_over vs (λ j. f i j)

unfoldable pub received : List ℕ → (ℕ → ℕ → ℕ) → ℕ → ℕ
unfolding sum_over
received vs f i = sum_over vs (λ j. f j i)

-- The amounts even out arcs with these heads and tails: of each vertex leave as many more units than
-- enter it as arcs enter it more than leave it.
abbrev pub Balances : List ℕ → (ℕ → ℕ → ℕ) → List ℕ → List ℕ → Type 0
Balances vs f hs ts = (i : ℕ) → Memᴰ i vs → sent vs f i + occurrences i ts ≡ received vs f i + occurrences i hs

-- A pair's reduced cost.
abbrev pub reduced : (ℕ → ℕ → ℕ) → (ℕ → ℕ) → ℕ → ℕ → ℕ
reduced d u i j = d i j + u j - u i
