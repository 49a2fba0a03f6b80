-- The least of the candidates, one after the other; and the sum over the components, from the last one back: a component's candidates have
-- places, so its least is at most the reduced cost of each.
use Rattle.std.specs.Prelude.{◌≡◌, List, ℕ, ◌+◌, ◌≤◌, ◌<◌, get_or}
use Rattle.std.proofs.Common.{subst, add-one, arith}
use Rattle.postman.specs.Plan.{Plan}
use Rattle.tree_bounds.specs.Bound.{reduced_by, Low}
use Rattle.tree_bounds.specs.Prepared.{Prepared}
use Rattle.tree_bounds.specs.Reducible.{IsLeast}
use Rattle.tree_bounds.specs.Laws.Prepared.{place_of}
use Rattle.tree_bounds.specs.Laws.Bound.{low_more}

-- ---- the sum

module _ {p : Plan} {table : List (List ℕ)} {vs start source tails heads : List ℕ} {k : ℕ}
    (h : Prepared p table vs start source tails heads k) (pot : List ℕ) where
  -- one component more
  pub rest_more : (q sum least : ℕ) → 1 ≤ q → q < k → Low p table pot sum (q + 1)
      → IsLeast table pot tails heads (get_or start q 0) (get_or start (q + 1) 0) least → Low p table pot (sum + least) q
  rest_more q sum least one few low is =
      low_more p table pot sum least q (let e = h.count in omega arith) (subst (Low p table pot sum) (add-one q) low) (λ l m.
      let x = place_of h q one few l m in
      subst₂' x.3 x.4 (is.low x.0 x.1 x.2))
    where
      subst₂' : {t t' b b' : ℕ} → t ≡ t' → b ≡ b' → least ≤ reduced_by table pot t b → least ≤ reduced_by table pot t' b'
      subst₂' {t} {t'} {b} {b'} e f l = subst (λ z. least ≤ reduced_by table pot z b') e (subst (λ z. least ≤ reduced_by table pot t z) f l)
