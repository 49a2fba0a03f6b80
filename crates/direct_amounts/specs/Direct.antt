-- Amounts from surplus to deficit only: what a vertex b receives from a and sends on to c goes from a to c
-- directly, for every b, a and c in their order.
use Rattle.std.specs.Prelude.{cond, List, ℕ, ◌+◌, ◌*◌, ◌-◌, min, set, eqb}
use Rattle.residual_search.specs.Fold.{fold}
use Rattle.postman.specs.Steps.{amount}

-- What b passes on from a to c.
abbrev pub passed : List ℕ → ℕ → ℕ → ℕ → ℕ
passed f a b c = min (amount f a b) (amount f b c)

-- What then goes from a to c: nothing is sent from a vertex to itself.
abbrev pub gained : ℕ → ℕ → ℕ → ℕ → ℕ
gained a c z m = cond (eqb a c) z (z + m)

abbrev pub bypass : List ℕ → ℕ → ℕ → ℕ → List ℕ
bypass f a b c =
    set (set (set f (a * 64 + b) (amount f a b - passed f a b c)) (b * 64 + c) (amount f b c - passed f a b c)) (a * 64 + c)
    (gained a c (amount f a c) (passed f a b c))

-- b passes on nothing from a.
unfoldable pub bypass_from : List ℕ → ℕ → List ℕ → ℕ → List ℕ
unfolding fold
bypass_from vs b f a = fold (λ g c. bypass g a b c) f vs

-- b passes on nothing.
unfoldable pub bypass_vertex : List ℕ → List ℕ → ℕ → List ℕ
unfolding fold bypass_from
bypass_vertex vs f b = fold (bypass_from vs b) f vs

unfoldable pub direct : List ℕ → List ℕ → List ℕ
unfolding fold bypass_vertex
direct vs f = fold (bypass_vertex vs) f vs
