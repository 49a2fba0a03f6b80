-- Each cost is that at its place.
use Rattle.std.proofs.Common.{rules, ◌≡◌, ◌/◌, ◌%◌, ℕ, get_or}
use Rattle.std.specs.Prelude.{pos}
use Rattle.cheapest_tree.specs.CostMatrix.{IsPlace}
use Rattle.postman_laws.specs.Laws.Arrays.{from_fn_each}
use Rattle.cheapest_tree.proofs.cheapest.contracted.Goals as goal

pub returns : goal.returns
returns c = record {
  each = λ i l. from_fn_each _ (λ k y. (r : ℕ) × IsPlace c.args.v.now c.args.on c.args.c (k / 8) (k % 8) r × (y ≡ get_or c.args.v.now r (pos 0))) _
      (λ k y q h. search rules) _ _ c.from_fn.ensures.items i (pos 0) l;
}
