-- The flags, one by one.
use Rattle.std.proofs.Common.{rules, arith, ◌≡◌, ◌/◌, ◌%◌, ◌*◌, ◌+◌, get_or, false, ap₂, ◌∙◌, ℕ}
use Rattle.postman_laws.specs.Laws.Arrays.{from_fn_each}
use Rattle.network.specs.Thinning.{is_pair}
use Rattle.network.proofs.thinning.pairs.Goals as goal

pub returns : goal.returns
returns c = (
  c.from_fn.ensures.items.long,
  λ i j l m.
      let a : (i * 64 + j) / 64 ≡ i = omega arith in
      let b : (i * 64 + j) % 64 ≡ j = omega arith in
      from_fn_each _ (λ k y. y ≡ is_pair (k / 64) (k % 64) (get_or c.args.required (k / 64) false) (get_or c.args.required (k % 64) false)) _ (λ k y q h. search rules) _ _
      c.from_fn.ensures.items (i * 64 + j) false (omega arith)
      ∙ ap₂ (λ (x y : ℕ). is_pair x y (get_or c.args.required x false) (get_or c.args.required y false)) a b,
)
