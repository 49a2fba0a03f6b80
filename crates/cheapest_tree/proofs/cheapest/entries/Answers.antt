-- Each entry is that of its component.
use Rattle.std.proofs.Common.{rules, refl, arith, ◌≡◌, ◌≤◌, ◌<◌, get_or, set, true, false}
use Rattle.cheapest_tree.specs.CostMatrix.{line_of, IsBest}
use Rattle.postman_laws.specs.Laws.Arrays.{from_fn_each}
use Rattle.cheapest_tree.proofs.cheapest.entries.Goals as goal

pub returns : goal.returns
returns c =
    let left = c.args.left in
    let each = from_fn_each _
    (λ k y. (y < 8) × (k ≡ 0 → y ≡ 0) × (1 ≤ k → get_or left k false ≡ true → IsBest (line_of c.args.w.now false k) (set left k false) 8 y)) _
    (λ k y q h. search rules) _ _ c.from_fn.ensures.items in
    record {
      root = (each 0 0 (omega arith)).1 refl;
      in_range = λ q l. (each q 0 l).0;
      best = λ q m l f. (each q 0 l).2 m f;
    }
