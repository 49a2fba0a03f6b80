-- Each entry is that of the row.
use Rattle.std.proofs.Common.{rules, sym, ◌≡◌, ◌+◌, ◌*◌, get_or}
use Rattle.postman_laws.specs.Laws.Arrays.{from_fn_each}
use Rattle.shortest.specs.Laws.Columns.{row_by}
use Rattle.shortest.proofs.columns.row_from.Goals as goal

pub returns : goal.returns
returns c =
    sym (row_by c.args.c.now c.args.i c.from_fn.result c.from_fn.ensures.items.long
    (λ v l. from_fn_each _ (λ k y. get_or c.args.c.now (k * 64 + c.args.i) 0 ≡ y) _ (λ k y q h. search rules) _ _ c.from_fn.ensures.items v 0 l))
