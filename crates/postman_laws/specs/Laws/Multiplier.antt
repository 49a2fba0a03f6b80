-- A root has at most one greatest u: each of two is at most the other.
use Rattle.std.specs.Prelude.{◌≡◌, ℕ}
use Rattle.std.proofs.Math.Path.{fun_ext}
use Rattle.postman.specs.Plan.{Plan}
use Rattle.postman.specs.LagrangianBound.{Multipliers, AreGreatest}
use Rattle.postman_laws.specs.Laws.SignedSum.{≤ℤ-antisym}

pub greatest_unique : (p : Plan) (root : ℕ) (u v : Multipliers) → AreGreatest p root u → AreGreatest p root v → u ≡ v
greatest_unique p root u v h g =
    fun_ext (λ i. ≤ℤ-antisym (g.greatest u h.multipliers h.at_root i) (h.greatest v g.multipliers g.at_root i))
